use Rattle.node_runs.proofs.Reaching.{Reached-keeps}
use Rattle.run_laws.proofs.TaskPlaces.{reached-placed}
use Rattle.recent_runs.proofs.Stepping.{step-kept}
use Rattle.recent_runs.proofs.Deciding.{step-decides}
use Rattle.recent_runs.proofs.laws.a_step_is_recent_where_its_cache_names_the_page.Goals as goal

pub returns : goal.returns
returns c = record {
  stands = λ g given n reached what incoming dropped s frame e used are.
      step-kept g n what incoming dropped s given (Reached-keeps g given n reached) frame (reached-placed g given n reached) e used are;
  named = λ g given n reached what incoming dropped s frame e used are recent.
      (step-decides used g n what incoming dropped s given (Reached-keeps g given n reached) frame are e).0 recent;
  recent = λ g given n reached what incoming dropped s frame e used are named.
      (step-decides used g n what incoming dropped s given (Reached-keeps g given n reached) frame are e).1 named;
}
