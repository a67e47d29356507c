use Rattle.std.proofs.Common.{◌≡◌, take}
use Rattle.dom_text.specs.Lent.{owned}
use Rattle.dom_text.proofs.line.to_owned.Given as goal

abbrev pub invariant-loop-token : goal.invariant-loop-token
invariant-loop-token l = l.found ≡ owned (take l.token-index l.lent)
