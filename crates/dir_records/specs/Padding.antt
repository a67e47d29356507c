-- Names that are filled up with zeros: the name gives the bytes back.
use Rattle.std.proofs.Common.{◌≡◌, ◌≤◌, ℕ, ◌-◌, List, ◌++◌, length, take, ap, ◌∙◌, sym, subst, replicate}
use Rattle.std.proofs.lemmas.List.{length-take-le, take-append-drop}
use Rattle.dir_records.specs.Components.{filled, IsPadded}

-- the name in such bytes is as long as they say
pub name_length : (bytes : List ℕ) (n : ℕ) → IsPadded bytes n → length (take n bytes) ≡ n
name_length bytes n h = length-take-le n bytes (subst (λ m. n ≤ m) (sym h.size) h.few)

-- and filled up it is the bytes
pub same_bytes : (bytes : List ℕ) (n : ℕ) → IsPadded bytes n → filled (take n bytes) ≡ bytes
same_bytes bytes n h =
    ap (λ m. take n bytes ++ replicate (32 - m) 0) (name_length bytes n h)
    ∙ ap (λ zeros. take n bytes ++ zeros) (sym h.zeros)
    ∙ take-append-drop n bytes
