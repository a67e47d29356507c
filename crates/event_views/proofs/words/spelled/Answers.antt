use Rattle.std.proofs.Common.{◌∙◌, ◌++◌, ◌∷◌, sym, ap}
use Rattle.std.specs.List.{flat_map}
use Rattle.dom_text.specs.Lent.{owned, owned_token}
use Rattle.dom_text.specs.Spelled.{line_of, spelling}
use Rattle.event_views.proofs.Spelling.{line-spelled}
use Rattle.event_views.proofs.words.spelled.Goals as goal

pub returns : goal.returns
returns c =
    c.in_ok-put_behind.ensures
    ∙ (ap (λ text. text ++ flat_map (λ token. 32 ∷ spelling (owned_token token)) c.in-Some.rest.now) (c.in_ok-put_token.ensures ∙ ap (λ text. text ++ spelling (owned_token c.in-Some.first.now)) c.new-text.ensures)
    ∙ (sym (line-spelled c.in-Some.first.now c.in-Some.rest.now) ∙ ap (λ tokens. line_of (owned tokens)) (sym c.in-Some.ensures.cases.0)))
