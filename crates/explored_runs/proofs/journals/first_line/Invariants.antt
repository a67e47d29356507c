use Rattle.std.proofs.Common.{◌≡◌, length}
use Rattle.script_reader.specs.Grammar.{raw_lines}
use Rattle.explored_runs.specs.Sought.{first_with}
use Rattle.explored_runs.proofs.journals.first_line.Given as goal

abbrev pub invariant-loop-rest : goal.invariant-loop-rest
invariant-loop-rest l = first_with l.words (raw_lines l.rest) ≡ first_with l.words (raw_lines l.text)

abbrev pub decreases-loop-rest : goal.decreases-loop-rest
decreases-loop-rest l = length l.rest
