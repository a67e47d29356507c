use Rattle.std.proofs.Common.{rules, ◌≡◌, ◌++◌, ◌∷◌, take, drop, ap, sym, ◌∙◌}
use Rattle.std.proofs.lemmas.List.{take-append-drop}
use Rattle.dom_text.specs.Tokens.{InText, reading, as_text, tokens_in}
use Rattle.dom_text.specs.Walk.{AreApart}
use Rattle.dom_text.proofs.PlainTexts.{plain_is_first}
use Rattle.dom_text.proofs.quoted.lend_text.Goals as goal

pub returns-in-Some-eq34-default-clause-text : goal.returns-in-Some-eq34-default-clause-text
returns-in-Some-eq34-default-clause-text c =
    let line = c.args.line.now in
    let end = c.plain_end.result in
    let behind = c.in-Some-eq34-default.behind.now in
    let cut : drop end line ≡ 34 ∷ behind = sym c.split_at.ensures.back ∙ search rules in
    let whole : line ≡ take end line ++ 34 ∷ behind = sym (take-append-drop end line) ∙ ap (λ t. take end line ++ t) cut in
    let apart : AreApart behind = c.is_apart.ensures c.if-is_apart.true in
    rw c.split_at.ensures.front (ap (λ t. tokens_in (as_text (reading t InText))) whole ∙ plain_is_first (take end line) behind c.plain_end.ensures.plain apart)
