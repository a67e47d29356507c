-- The events that came so far have happened.
use Rattle.std.proofs.Common.{◌≡◌, ℕ, Option, [], take}
use Rattle.std.specs.Prelude.{reverse}
use Rattle.script_reader.specs.Scripts.{Content}
use Rattle.journal_check.specs.Passing.{HaveHappened}
use Rattle.journal_check.proofs.verdict.happen.Given as goal

abbrev pub invariant-loop-event : goal.invariant-loop-event
invariant-loop-event g l =
    (l.line ≡ l.event-index)
    × ((made : ℕ → ℕ → Option g.row.P.Denot) (s : Content) → HaveHappened g.P.Program.wants g.P.Program.becomes made s [] l.initial.pass l.initial.places
    → HaveHappened g.P.Program.wants g.P.Program.becomes made s (reverse (take l.event-index l.events)) l.pass l.places)
