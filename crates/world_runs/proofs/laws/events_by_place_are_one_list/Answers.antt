use Rattle.std.proofs.Common.{List, subst, map}
use Rattle.dom_history.specs.Events.{Happening}
use Rattle.node_runs.specs.Runs.{choice_of, AreRising}
use Rattle.node_runs.proofs.Worlds.{places-rise}
use Rattle.world_runs.specs.ByPlace.{by_place}
use Rattle.world_runs.proofs.Merging.{turns-merge}
use Rattle.world_runs.proofs.Sorting.{sorted-one}
use Rattle.world_runs.proofs.laws.events_by_place_are_one_list.Goals as goal

pub returns : goal.returns
returns c = record {
  rising = λ s plan setup cs w e timely.
      let m = (turns-merge s setup plan cs w e).merged timely in
      subst (λ (es : List Happening). AreRising es) m.done (places-rise s (map choice_of (by_place w.done)) m.world m.run);
  one = sorted-one;
}
