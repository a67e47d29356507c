-- Rights, and how they are written.
use Rattle.std.specs.Prelude.{ℕ, Bool, true, false, Option, List, [], ◌∷◌, ◌++◌, codes}
use Rattle.uid_names.specs.Texts.{written_so}
use Rattle.acl_rules.specs.declared.rights.Rights.{Rights}

abbrev pub rights_with : Bool → Bool → Bool → Bool → Rights
rights_with r w n a = record { r = r; w = w; n = n; a = a }

-- a letter where there is the right
abbrev pub letter_if : Bool → ℕ → List ℕ
letter_if true letter = letter ∷ []
letter_if false letter = []

-- the letters in their order, or `-` where there is none
abbrev pub or_dash : List ℕ → List ℕ
or_dash [] = codes "-"
or_dash (b ∷ letters) = b ∷ letters

abbrev pub rights_text : Rights → List ℕ
rights_text x = or_dash (letter_if x.r 114 ++ (letter_if x.w 119 ++ (letter_if x.n 110 ++ letter_if x.a 97)))

-- all that there are
abbrev pub all_rights : List Rights
all_rights =
    rights_with false false false false ∷ rights_with true false false false ∷ rights_with false true false false ∷ rights_with true true false false
    ∷ rights_with false false true false ∷ rights_with true false true false ∷ rights_with false true true false ∷ rights_with true true true false
    ∷ rights_with false false false true ∷ rights_with true false false true ∷ rights_with false true false true ∷ rights_with true true false true
    ∷ rights_with false false true true ∷ rights_with true false true true ∷ rights_with false true true true ∷ rights_with true true true true ∷ []

-- the rights that a word says: those that are written so
abbrev pub rights_of : List ℕ → Option Rights
rights_of word = written_so rights_text all_rights word
