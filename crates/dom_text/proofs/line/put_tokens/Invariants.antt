use Rattle.std.proofs.Common.{◌≡◌, length}
use Rattle.dom_text.specs.Lent.{owned}
use Rattle.dom_text.specs.Walk.{BeginsUnblank, with_tokens}
use Rattle.dom_text.specs.Tokens.{tokens_of}
use Rattle.dom_text.proofs.line.put_tokens.Given as goal

abbrev pub invariant-loop-first : goal.invariant-loop-first
invariant-loop-first l = (tokens_of l.line ≡ with_tokens (owned l.found.items) (tokens_of l.rest)) × BeginsUnblank l.rest

abbrev pub decreases-loop-first : goal.decreases-loop-first
decreases-loop-first l = length l.rest
