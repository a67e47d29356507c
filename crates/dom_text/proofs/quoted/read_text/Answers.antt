use Rattle.std.proofs.Common.{ap, subst, ◌∙◌}
use Rattle.dom_text.specs.Walk.{IsPiece}
use Rattle.dom_text.specs.Tokens.{Between, reading, as_text, tokens_in}
use Rattle.dom_text.proofs.Readings.{between_is_closed, text_tokens, with_bytes}
use Rattle.dom_text.proofs.quoted.read_text.Goals as goal

pub returns-in-End-clause-text : goal.returns-in-End-clause-text
returns-in-End-clause-text c =
    let text = c.loop-text.text in
    let behind = c.in-End.behind.now in
    let piece = subst (λ p. IsPiece c.loop-text.rest.now p) c.in-End.is c.in_ok-byte.ensures.piece in
    ap (λ r. tokens_in (as_text r)) (c.loop-text.invariant.0 ∙ ap (with_bytes text) piece.0)
    ∙ text_tokens text (reading behind Between) (between_is_closed behind)
