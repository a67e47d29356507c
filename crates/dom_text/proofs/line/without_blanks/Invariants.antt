use Rattle.std.proofs.Common.{◌≡◌, ◌≤◌, length}
use Rattle.dom_text.specs.Tokens.{tokens_of}
use Rattle.dom_text.proofs.line.without_blanks.Given as goal

abbrev pub invariant-loop-byte : goal.invariant-loop-byte
invariant-loop-byte l = (tokens_of l.line ≡ tokens_of l.rest) × (length l.rest ≤ length l.line)

abbrev pub decreases-loop-byte : goal.decreases-loop-byte
decreases-loop-byte l = length l.rest
