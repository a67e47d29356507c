-- How tokens are written on a line.
use Rattle.std.proofs.Common.{◌≡◌, List, [], ◌∷◌, ◌++◌, sym, ap}
use Rattle.std.specs.List.{flat_map}
use Rattle.std.proofs.lemmas.List.{append-nil}
use Rattle.dom_text.specs.Lent.{owned, owned_token}
use Rattle.dom_text.specs.Spelled.{line_of, spelling}
use Rattle.dom_text.specs.declared.token.TokenRef.{TokenRef}

-- the first one, and each other one behind a space
pub line-spelled : (first : TokenRef) (rest : List TokenRef) → line_of (owned (first ∷ rest)) ≡ spelling (owned_token first) ++ flat_map (λ token. 32 ∷ spelling (owned_token token)) rest
line-spelled first [] = sym (append-nil (spelling (owned_token first)))
line-spelled first (next ∷ rest) = ap (λ text. spelling (owned_token first) ++ (32 ∷ text)) (line-spelled next rest)
