-- The world of a run, and those of the runs that it went on from.
use Rattle.std.proofs.Common.{◌≡◌, List, [], ◌∷◌, ◌++◌, Option, Some, sym, ap, ◌∙◌}
use Rattle.uid_names.proofs.Somes.{map-some}
use Rattle.dom_history.specs.Events.{Happening}
use Rattle.node_runs.specs.Setups.{Setup}
use Rattle.node_runs.specs.NodesKeep.{IsTimely}
use Rattle.node_runs.specs.Runs.{World, choice_of, then_next, world_of, IsRun}
use Rattle.node_runs.proofs.Worlds.{next-is, initial-run}
use Rattle.run_laws.proofs.HearingRuns.{timely-before}

module _ (s : Setup) where
  -- the world of a run
  pub run-world : (es : List Happening) → IsRun s es → (w : World) × (world_of s es ≡ Some w) × (w.done ≡ es)
  run-world es run = let found = map-some (λ (w : World). w.done) (world_of s es) es run in (found.0, found.1, sym found.2)

  -- the older events are a run too, which led to no greater ticks
  pub record IsPart (older : List Happening) (last : World) : Type 0 where
    pub world : World
    pub run : IsRun s older
    pub leads : world_of s older ≡ Some world
    pub timely : IsTimely last → IsTimely world

  pub part-of : (newer older : List Happening) (w : World) → IsRun s (newer ++ older) → world_of s (newer ++ older) ≡ Some w → IsPart older w
  part-of [] older w run leads = record { world = w; run = run; leads = leads; timely = λ timely. timely }
  part-of (x ∷ newer) older w run leads =
      let run_before = initial-run s x (newer ++ older) run in
      let before = run-world (newer ++ older) run_before in
      let is = next-is s before.0 (choice_of x) w (sym (ap (λ (o : Option World). then_next s o (choice_of x)) before.1) ∙ leads) in
      let part = part-of newer older before.0 run_before before.1 in
      record {
        world = part.world;
        run = part.run;
        leads = part.leads;
        timely = λ timely. part.timely (timely-before s before.0 (choice_of x) w is timely);
      }
