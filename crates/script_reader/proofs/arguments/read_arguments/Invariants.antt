use Rattle.std.proofs.Common.{◌≡◌, drop, length}
use Rattle.dom_text.specs.Lent.{owned}
use Rattle.script_reader.specs.Forms.{arguments_form}
use Rattle.script_reader.specs.Walk.Seen.{seen_arguments}
use Rattle.script_reader.proofs.Arguing.{behind}
use Rattle.script_reader.proofs.arguments.read_arguments.Given as goal

abbrev pub invariant-loop-at : goal.invariant-loop-at
invariant-loop-at l = (length l.found.items ≡ l.at) × (arguments_form l.kinds (owned l.tokens) ≡ behind (seen_arguments l.found.items) (arguments_form (drop l.at l.kinds) (drop l.at (owned l.tokens))))
