use Rattle.world_runs.proofs.LostFrames.{done-is}
use Rattle.recent_runs.proofs.Running.{last-named, last-recent, recent-are, named-are}
use Rattle.recent_runs.proofs.laws.an_event_is_recent_where_its_cache_names_the_page.Goals as goal

pub returns : goal.returns
returns c = record {
  named = λ s setup e es old new is was run timely recent. last-named s setup e es old new was run (done-is s _ new is run) timely recent;
  recent = λ s setup e es old new is was run timely named. last-recent s setup e es old new was run (done-is s _ new is run) timely named;
  runs_named = λ s setup es w is run timely recent. recent-are s setup es w run (done-is s es w is run) timely recent;
  runs_recent = λ s setup es w is run timely are. named-are s setup es w run (done-is s es w is run) timely are;
}
