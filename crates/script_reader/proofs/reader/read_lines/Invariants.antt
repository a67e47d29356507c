use Rattle.std.proofs.Common.{◌≤◌, ◌+◌, ℕ, length}
use Rattle.script_reader.specs.Grammar.{AreGood, IsFirstBad, nothing, raw_lines}
use Rattle.script_reader.specs.Scripts.{Content}
use Rattle.script_reader.specs.declared.cause.Cause.{Cause}
use Rattle.script_reader.proofs.reader.read_lines.Given as goal

abbrev pub invariant-loop-rest : goal.invariant-loop-rest
invariant-loop-rest l =
    ((end : Content) → AreGood l.draft (raw_lines l.rest) end → AreGood nothing (raw_lines l.bytes) end)
    × ((n : ℕ) (cause : Cause) → IsFirstBad (l.number + 1) l.draft (raw_lines l.rest) n cause → IsFirstBad 1 nothing (raw_lines l.bytes) n cause)
    × (l.number + length l.rest ≤ length l.bytes)

abbrev pub decreases-loop-rest : goal.decreases-loop-rest
decreases-loop-rest l = length l.rest
