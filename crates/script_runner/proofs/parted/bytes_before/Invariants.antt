use Rattle.std.proofs.Common.{◌≡◌, ◌+◌, length}
use Rattle.std.specs.Prelude.{option_map}
use Rattle.script_reader.specs.Grammar.{raw_lines}
use Rattle.script_runner.specs.Parted.{bytes_before}
use Rattle.script_runner.proofs.parted.bytes_before.Given as goal

abbrev pub invariant-loop-line : goal.invariant-loop-line
invariant-loop-line l =
    (bytes_before (raw_lines l.bytes) ≡ option_map (λ k. l.at + k) (bytes_before (raw_lines l.rest)))
    × (l.at + length l.rest ≡ length l.bytes)

abbrev pub decreases-loop-line : goal.decreases-loop-line
decreases-loop-line l = length l.rest
