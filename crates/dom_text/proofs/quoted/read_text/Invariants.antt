use Rattle.std.proofs.Common.{◌≡◌, ◌≤◌, length}
use Rattle.dom_text.specs.Tokens.{InText, reading}
use Rattle.dom_text.proofs.Readings.{with_bytes}
use Rattle.dom_text.proofs.quoted.read_text.Given as goal

abbrev pub invariant-loop-text : goal.invariant-loop-text
invariant-loop-text l = (reading l.line InText ≡ with_bytes l.text (reading l.rest InText)) × (length l.rest ≤ length l.line)

abbrev pub decreases-loop-text : goal.decreases-loop-text
decreases-loop-text l = length l.rest
