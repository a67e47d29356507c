use Rattle.std.proofs.Common.{List, subst, sym, arith}
use Rattle.dom_history.specs.Events.{Happening}
use Rattle.node_runs.specs.NodesKeep.{IsTimely}
use Rattle.node_runs.specs.Runs.{World}
use Rattle.world_runs.specs.ByPlace.{IsLike}
use Rattle.world_runs.specs.Draws.{draws}
use Rattle.world_runs.specs.EndedRuns.{IsEndedRun}
use Rattle.run_laws.proofs.every.a_picked_run_has_ended.Goals as goal

pub returns : goal.returns
returns c = λ s plan seed last setup kept most es is.
    let timely : IsTimely is.world = λ n. let below = is.ends.below n in omega (arith, below, most) in
    let ended = c.no_turn_is_stuck.ensures.ended s plan setup (draws seed is.ends.count) is.world is.ends.comes timely is.ends.nothing in
    subst (λ (xs : List Happening). (w : World) × IsEndedRun s plan xs w × IsTimely w × IsLike is.world w) (sym is.events)
    (c.turns_come_to_right_runs.ensures.ended s plan setup kept (draws seed is.ends.count) is.world is.ends.comes timely ended)
