use Rattle.std.proofs.Common.{◌≡◌, ◌∷◌, ◌++◌, take}
use Rattle.std.specs.List.{flat_map}
use Rattle.dom_text.specs.Lent.{owned_token}
use Rattle.dom_text.specs.Spelled.{spelling}
use Rattle.event_views.proofs.words.put_behind.Given as goal

abbrev pub invariant-loop-token : goal.invariant-loop-token
invariant-loop-token l = l.to ≡ l.initial.to ++ flat_map (λ token. 32 ∷ spelling (owned_token token)) (take l.token-index l.tokens)
