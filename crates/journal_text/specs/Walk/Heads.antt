-- A text in front of its first `;`, and the pieces behind each.
use Rattle.std.specs.Prelude.{ℕ, ◌≡◌, ◌==◌, if◌then◌else◌, List, [], ◌∷◌, ◌++◌}
use Rattle.dom_text.specs.Cuts.{Lacks}

-- the text begins with a `;`, or is empty
abbrev pub BeginsWithSemicolon : List ℕ → Type 0
BeginsWithSemicolon [] = Unit {0}
BeginsWithSemicolon (b ∷ text) = b ≡ 59

-- the text is cut in front of the first `;`
pub record IsHeadOf (text front back : List ℕ) : Type 0 where
  pub whole : text ≡ front ++ back
  pub first : Lacks 59 front
  pub begins : BeginsWithSemicolon back

-- the bytes before the first `;`
unfoldable pub head_of : List ℕ → List ℕ
head_of [] = []
head_of (b ∷ rest) = if b == 59 then [] else b ∷ head_of rest

-- the pieces that stand each behind a `;`
unfoldable pub pieces_of : List ℕ → List (List ℕ)
pieces_of [] = []
pieces_of (b ∷ rest) = if b == 59 then head_of rest ∷ pieces_of rest else pieces_of rest
