use Rattle.std.proofs.Common.{◌≡◌, ℕ, ◌≤◌, Option, List, refl, sym, ap, subst, ◌∙◌, add-one, arith}
use Rattle.std.specs.Prelude.{IfSome, slice_get}
use Rattle.dom_history.specs.declared.plan.FateRow.{FateRow}
use Rattle.drawn_numbers.specs.Draws.{next_state, drawn, state_after}
use Rattle.world_runs.specs.Draws.{EndsIn, ComesToLast}
use Rattle.node_core.specs.Nodes.{state_of}
use Rattle.node_core.specs.declared.fault.RunFault.{RunFault}
use Rattle.node_core.specs.declared.fault.RunFault.TheVariants as faults
use Rattle.world_core.specs.SoFar.{IsRightSoFar}
use Rattle.world_core.specs.Stands.{IsTurnAt}
use Rattle.world_core.proofs.OnOks.{same_fault}
use Rattle.world_core.proofs.Running.{IsRunning, starts, stations-below, few-turns, goes-on, comes-to-last, ends-in}
use Rattle.world_core.proofs.Logs.{are-logs, merged-is}
use Rattle.world_core.proofs.Ending.{are-numbered, are-ended}
use Rattle.world_core.proofs.world.World.run_merged.Goals as goal

pub loop-turn-init : goal.loop-turn-init
loop-turn-init g c =
    (refl, (c.new-draws.ensures, λ made s stands. starts g.P.Program.wants g.P.Program.becomes made s c.args.seed c.args.last_tick c.requires.greatest c.args.self c.requires.least stands))

pub take_turn-requires-clause-stands : goal.take_turn-requires-clause-stands
take_turn-requires-clause-stands g c =
    let made = c.requires.stands.0 in
    let s = c.requires.stands.1 in
    let is = c.loop-turn.invariant.1.1 made s c.requires.stands.2 in
    (made, s, is.world, is.stands)

pub take_turn-requires-clause-below : goal.take_turn-requires-clause-below
take_turn-requires-clause-below g c =
    let made = c.requires.stands.0 in
    let s = c.requires.stands.1 in
    let is = c.loop-turn.invariant.1.1 made s c.requires.stands.2 in
    stations-below g.P.Program.wants g.P.Program.becomes made s c.args.seed c.args.last_tick c.requires.greatest c.loop-turn.turn c.loop-turn.world is

pub look_at-requires : goal.look_at-requires
look_at-requires g c =
    let made = c.requires.stands.0 in
    let s = c.requires.stands.1 in
    let is = c.loop-turn.invariant.1.1 made s c.requires.stands.2 in
    let turned =
    subst (λ (at : Option ℕ). IsTurnAt g.P.Program.wants g.P.Program.becomes made s c.loop-turn.world c.take_turn.new.self is.world c.draw.result at)
    c.in-Some.is (c.in_ok-at.ensures.turn made s is.world is.stands) in
    turned.within

pub end-requires-clause-logs : goal.end-requires-clause-logs
end-requires-clause-logs g c =
    let made = c.requires.stands.0 in
    let s = c.requires.stands.1 in
    let is = c.loop-turn.invariant.1.1 made s c.requires.stands.2 in
    let ended =
    subst (λ (at : Option ℕ). IsTurnAt g.P.Program.wants g.P.Program.becomes made s c.loop-turn.world c.take_turn.new.self is.world c.draw.result at)
    c.in-None.is (c.in_ok-at.ensures.turn made s is.world is.stands) in
    are-logs g.P.Program.wants g.P.Program.becomes made s c.take_turn.new.self is.world ended.1

pub end-requires-clause-numbers : goal.end-requires-clause-numbers
end-requires-clause-numbers g c =
    let made = c.requires.stands.0 in
    let s = c.requires.stands.1 in
    let is = c.loop-turn.invariant.1.1 made s c.requires.stands.2 in
    let ended =
    subst (λ (at : Option ℕ). IsTurnAt g.P.Program.wants g.P.Program.becomes made s c.loop-turn.world c.take_turn.new.self is.world c.draw.result at)
    c.in-None.is (c.in_ok-at.ensures.turn made s is.world is.stands) in
    are-numbered g.P.Program.wants g.P.Program.becomes made s c.take_turn.new.self is.world ended.1

pub returns-in_err-look_at-in-Some-clause-limit : goal.returns-in_err-look_at-in-Some-clause-limit
returns-in_err-look_at-in-Some-clause-limit g c = λ n fails made s stands.
    (let is = c.loop-turn.invariant.1.1 made s stands in
    let turned =
    subst (λ (at : Option ℕ). IsTurnAt g.P.Program.wants g.P.Program.becomes made s c.loop-turn.world c.take_turn.new.self is.world c.draw.result at)
    c.in-Some.is (c.in_ok-at.ensures.turn made s is.world is.stands) in
    let drew = c.draw.ensures.value ∙ ap drawn (c.draw.ensures.state ∙ ap next_state c.loop-turn.invariant.1.0) in
    subst (λ (plan : List FateRow). ComesToLast s plan c.args.seed c.args.last_tick n) c.loop-turn.invariant.0
    (comes-to-last g.P.Program.wants g.P.Program.becomes made s c.args.seed c.args.last_tick c.requires.greatest c.loop-turn.turn c.loop-turn.world c.take_turn.new.self is c.take_turn.ensures.plan
    c.draw.result c.in-Some.at drew turned n
    (subst (λ (fault : RunFault). IfSome (slice_get c.take_turn.new.self.stations.items c.in-Some.at) (λ y. (fault ≡ faults.TickLimit y.node.log.node) × (c.args.last_tick ≤ (state_of y.node).tick)))
    (same_fault c.from_residual-in_err-look_at-in-Some.result c.in_err-look_at-in-Some.field-0.0 (faults.TickLimit n) c.from_residual-in_err-look_at-in-Some.ensures.1 fails)
    c.in_err-look_at-in-Some.ensures.limit)))

pub returns-in-None-clause-run : goal.returns-in-None-clause-run
returns-in-None-clause-run g c = λ made s stands.
    (let is = c.loop-turn.invariant.1.1 made s stands in
    let new = c.take_turn.new.self in
    let ended =
    subst (λ (at : Option ℕ). IsTurnAt g.P.Program.wants g.P.Program.becomes made s c.loop-turn.world c.take_turn.new.self is.world c.draw.result at)
    c.in-None.is (c.in_ok-at.ensures.turn made s is.world is.stands) in
    let ends = ends-in g.P.Program.wants g.P.Program.becomes made s c.args.seed c.args.last_tick c.requires.greatest c.loop-turn.turn c.loop-turn.world is ended.0 in
    let here = subst (λ (plan : List FateRow). EndsIn s plan c.args.seed c.args.last_tick is.world) (sym c.take_turn.ensures.plan) ends in
    record {
      world = is.world;
      ends = subst (λ (plan : List FateRow). EndsIn s plan c.args.seed c.args.last_tick is.world) c.loop-turn.invariant.0 ends;
      ended = c.no_turn_is_stuck.ensures.ended s c.loop-turn.world.plan is.stands.setup is.stands.choices is.world is.stands.turns is.stands.timely ended.0;
      so_far =
          subst (λ (plan : List FateRow). IsRightSoFar s plan is.world) c.loop-turn.invariant.0
          (c.turns_are_right_so_far.ensures s c.loop-turn.world.plan is.stands.setup is.stands.plan is.stands.choices is.world is.stands.turns is.stands.timely);
      events_are = merged-is g.P.Program.wants g.P.Program.becomes made s c.take_turn.new.self is.world ended.1 c.args.seed c.args.last_tick c.requires.greatest here c.in_ok-end-in-None.field-0.0.events c.in_ok-end-in-None.ensures.events;
      programs_are = are-ended g.P.Program.wants g.P.Program.becomes made s c.take_turn.new.self is.world ended.1 c.in_ok-end-in-None.field-0.1.items c.in_ok-end-in-None.ensures.programs;
    })

pub loop-turn-preserved : goal.loop-turn-preserved
loop-turn-preserved g c =
    let drew = c.draw.ensures.state ∙ ap next_state c.loop-turn.invariant.1.0 in (
      c.take_turn.ensures.plan ∙ c.loop-turn.invariant.0,
      (
        drew ∙ ap (state_after c.args.seed) (sym (add-one c.loop-turn.turn)),
        λ made s stands.
            (let is = c.loop-turn.invariant.1.1 made s stands in
            let turned =
            subst (λ (at : Option ℕ). IsTurnAt g.P.Program.wants g.P.Program.becomes made s c.loop-turn.world c.take_turn.new.self is.world c.draw.result at)
            c.in-Some.is (c.in_ok-at.ensures.turn made s is.world is.stands) in
            subst (λ (k : ℕ). IsRunning g.P.Program.wants g.P.Program.becomes made s c.args.seed c.args.last_tick k c.take_turn.new.self) (sym (add-one c.loop-turn.turn))
            (goes-on g.P.Program.wants g.P.Program.becomes made s c.args.seed c.args.last_tick c.requires.greatest c.loop-turn.turn c.loop-turn.world c.take_turn.new.self is c.take_turn.ensures.plan
            c.draw.result c.in-Some.at (c.draw.ensures.value ∙ ap drawn drew) turned c.in_ok-look_at-in-Some.ensures.below)),
      ),
    )

pub unreachable-requires : goal.unreachable-requires
unreachable-requires g c =
    let made = c.requires.stands.0 in
    let s = c.requires.stands.1 in
    let is = c.loop-turn.invariant.1.1 made s c.requires.stands.2 in
    let few = few-turns g.P.Program.wants g.P.Program.becomes made s c.args.seed c.args.last_tick c.requires.greatest c.loop-turn.turn c.loop-turn.world is in
    omega (arith, few, c.requires.greatest, c.loop-turn-test.false)
