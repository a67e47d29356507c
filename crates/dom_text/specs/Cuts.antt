-- Where a text is cut.
use Rattle.std.specs.Prelude.{ℕ, ◌≡◌, ◌≢◌, ◌==◌, if◌then◌else◌, Option, Some, None, List, [], ◌∷◌, ◌++◌, All}

-- the byte doesn't stand in the text
abbrev pub Lacks : ℕ → List ℕ → Type 0
Lacks byte text = All (λ b. b ≢ byte) text

-- the text is cut at the first such byte
pub record IsCutAt (byte : ℕ) (text front back : List ℕ) : Type 0 where
  pub whole : text ≡ front ++ byte ∷ back
  pub first : Lacks byte front

-- parts of a text, with a byte in front
abbrev pub with_front : ℕ → Option (List ℕ × List ℕ) → Option (List ℕ × List ℕ)
with_front b None = None
with_front b (Some parts) = Some (b ∷ parts.0, parts.1)

-- the bytes before the first such one, and those behind it; nothing where there is none
unfoldable pub cut_at : ℕ → List ℕ → Option (List ℕ × List ℕ)
cut_at byte [] = None
cut_at byte (b ∷ rest) = if b == byte then Some ([], rest) else with_front b (cut_at byte rest)

-- the text is cut at the last such byte
pub record IsCutLast (byte : ℕ) (text front back : List ℕ) : Type 0 where
  pub whole : text ≡ front ++ byte ∷ back
  pub last : Lacks byte back

-- the parts round a later such byte, with a byte in front; else those round this one
abbrev pub or_here : ℕ → ℕ → List ℕ → Option (List ℕ × List ℕ) → Option (List ℕ × List ℕ)
or_here byte b rest None = if b == byte then Some ([], rest) else None
or_here byte b rest (Some parts) = Some (b ∷ parts.0, parts.1)

-- the bytes before the last such one, and those behind it; nothing where there is none
unfoldable pub cut_at_last : ℕ → List ℕ → Option (List ℕ × List ℕ)
cut_at_last byte [] = None
cut_at_last byte (b ∷ rest) = or_here byte b rest (cut_at_last byte rest)
