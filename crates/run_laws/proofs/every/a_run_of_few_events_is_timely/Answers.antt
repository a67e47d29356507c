use Rattle.std.proofs.Common.{ap, arith, List, length}
use Rattle.std.specs.Prelude.{map}
use Rattle.dom_history.specs.Events.{Happening}
use Rattle.node_runs.specs.Runs.{choice_of}
use Rattle.world_runs.proofs.LostFrames.{done-is}
use Rattle.run_laws.proofs.every.a_run_of_few_events_is_timely.Goals as goal

pub returns : goal.returns
returns c = λ s es w run leads few n.
    let most = c.ticks_are_few.ensures.nodes s (map choice_of es) w leads n in
    let same = ap (λ (xs : List Happening). length xs) (done-is s es w run leads) in
    omega (arith, most, same, few)
