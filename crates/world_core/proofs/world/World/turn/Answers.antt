use Rattle.std.proofs.Common.{◌≡◌, ℕ, Bool, List, [], Option, Some, None, sym, subst}
use Rattle.std.specs.Prelude.{is_some}
use Rattle.dom_history.specs.declared.op.Reply.{Reply}
use Rattle.dom_history.specs.declared.op.Want.{Want}
use Rattle.dom_history.specs.declared.plan.FateRow.{FateRow}
use Rattle.node_runs.specs.Setups.{Setup, IsSetup}
use Rattle.node_runs.specs.NodesKeep.{IsTimely}
use Rattle.node_runs.specs.Runs.{World as Done, HasEnded}
use Rattle.world_runs.specs.Turns.{enabled_events, turn, after_turns}
use Rattle.world_runs.proofs.Happening.{none-turn, none-some}
use Rattle.world_core.specs.declared.world.World.{World}
use Rattle.world_core.specs.Stands.{Stands, IsTurn, IsTurnAt, TellsEnd}
use Rattle.world_core.proofs.world.World.turn.Goals as goal

-- a turn of some node is one
turn-at : {P G : Type 0} (wants : P → Want) (becomes : P → Option Reply → P) (made : ℕ → ℕ → Option P) (s : Setup) (old new : World P G) (w : Done) (choice : ℕ) (at : Option ℕ)
    → IsTurnAt wants becomes made s old new w choice at → IsTurn wants becomes made s old new w choice (is_some at)
turn-at wants becomes made s old new w choice None none = none
turn-at wants becomes made s old new w choice (Some i) turned = (turned.world, turned.turns, turned.stands)

-- where no event is enabled all nodes have ended, and the other way round
abbrev Ends : Type 0
Ends = (s : Setup) (plan : List FateRow) → IsSetup s → (cs : List ℕ) (w : Done) → after_turns s plan cs ≡ Some w → IsTimely w → enabled_events s plan w ≡ [] → HasEnded s w

abbrev EndsJust : Type 0
EndsJust = (s : Setup) (plan : List FateRow) (w : Done) → HasEnded s w → enabled_events s plan w ≡ []

end-told : {P G : Type 0} (wants : P → Want) (becomes : P → Option Reply → P) (made : ℕ → ℕ → Option P) (s : Setup) (old new : World P G) (w : Done) (choice : ℕ) (at : Option ℕ)
    → Ends → EndsJust → Stands wants becomes made s old w → IsTurnAt wants becomes made s old new w choice at → TellsEnd s w (is_some at)
end-told wants becomes made s old new w choice None ends just stands none = ends s old.plan stands.setup stands.choices w stands.turns stands.timely none.0
end-told wants becomes made s old new w choice (Some i) ends just stands turned = λ ended. none-some (turn s old.plan w choice) turned.world (none-turn s old.plan w choice (just s old.plan w ended)) turned.turns

pub returns-clause-ended : goal.returns-clause-ended
returns-clause-ended g c = λ made s w stands.
    subst (λ (b : Bool). TellsEnd s w b) (sym c.is_some.ensures)
    (end-told g.P.Program.wants g.P.Program.becomes made s c.args.self.now c.take_turn.new.self w c.args.choice c.in_ok-take_turn.field-0
    c.no_turn_is_stuck.ensures.ended c.no_turn_is_stuck.ensures.just stands (c.in_ok-take_turn.ensures.turn made s w stands))

pub returns-clause-turn : goal.returns-clause-turn
returns-clause-turn g c = λ made s w stands.
    subst (λ (b : Bool). IsTurn g.P.Program.wants g.P.Program.becomes made s c.args.self.now c.take_turn.new.self w c.args.choice b) (sym c.is_some.ensures)
    (turn-at g.P.Program.wants g.P.Program.becomes made s c.args.self.now c.take_turn.new.self w c.args.choice c.in_ok-take_turn.field-0 (c.in_ok-take_turn.ensures.turn made s w stands))

pub returns-clause-so_far : goal.returns-clause-so_far
returns-clause-so_far g c = λ made s w stands. c.turns_are_right_so_far.ensures s c.take_turn.new.self.plan stands.setup stands.plan stands.choices w stands.turns stands.timely
