use Rattle.std.proofs.Common.{◌≡◌, ◌++◌, ◌∷◌, [], take}
use Rattle.dom_text.specs.Texts.{all_escaped}
use Rattle.dom_text.proofs.write.quoted.Given as goal

abbrev pub invariant-loop-b : goal.invariant-loop-b
invariant-loop-b l = l.text ≡ (34 ∷ []) ++ all_escaped (take l.b-index l.bytes)
