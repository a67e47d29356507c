-- Looking a text up in a table finds what the table has.
use Rattle.std.proofs.Common.{◌≡◌, ◌≢◌, ℕ, Bool, true, false, List, [], ◌∷◌, Option, Some, None, MatchOption, refl, ap, sym, ◌∙◌}
use Rattle.std.proofs.lemmas.Slice.Eq.{bytes_eq-Decides}
use Rattle.std.specs.Prelude.{bytes_eq}
use Rattle.uid_names.specs.Texts.{written_so}
use Rattle.uid_names.specs.FrameKinds.{kind_number, kind_name, kind_of_number, kind_of_name}
use Rattle.uid_names.specs.declared.frame_kind.FrameKind.{FrameKind}
use Rattle.uid_names.specs.declared.frame_kind.FrameKind.TheVariants as kinds

-- texts that are not the same
pub bytes_eq-false : (a b : List ℕ) → (a ≡ b → ⊥) → bytes_eq a b ≡ false
bytes_eq-false a b ne = by_test (bytes_eq a b) refl
  where
    by_test : (t : Bool) → bytes_eq a b ≡ t → t ≡ false
    by_test true e = absurd (ne ((bytes_eq-Decides a b).0 e))
    by_test false e = refl

-- nothing is found where nothing is written so
written_so-none : {X : Type 0} (text : X → List ℕ) (word : List ℕ) → ((x : X) → word ≢ text x) → (xs : List X) → written_so text xs word ≡ None
written_so-none text word h [] = refl
written_so-none text word h (x ∷ xs) = rw (bytes_eq-false (text x) word (λ e. h x (sym e))) (written_so-none text word h xs)

-- what a search of a table answers
pub looked_up : {X : Type 0} (text : X → List ℕ) (xs : List X) → ((x : X) → written_so text xs (text x) ≡ Some x)
    → (r : Option X) (word : List ℕ) → MatchOption r ((x : X) → word ≢ text x) (λ x. word ≡ text x) → r ≡ written_so text xs word
looked_up text xs again None word h = sym (written_so-none text word h xs)
looked_up text xs again (Some x) word h = sym (ap (written_so text xs) h ∙ again x)

-- each kind of frames is found by its name
pub kind_of_name-name : (k : FrameKind) → kind_of_name (kind_name k) ≡ Some k
kind_of_name-name kinds.PageIn = refl
kind_of_name-name kinds.PageOut = refl
kind_of_name-name kinds.AttrOut = refl
kind_of_name-name kinds.Lock = refl
kind_of_name-name kinds.Unlock = refl
kind_of_name-name kinds.Remove = refl
kind_of_name-name kinds.Make = refl
kind_of_name-name kinds.List = refl
kind_of_name-name kinds.Page = refl
kind_of_name-name kinds.Stored = refl
kind_of_name-name kinds.Stale = refl
kind_of_name-name kinds.NoGrant = refl
kind_of_name-name kinds.NoObject = refl
kind_of_name-name kinds.Granted = refl
kind_of_name-name kinds.Conflict = refl
kind_of_name-name kinds.Done = refl
kind_of_name-name kinds.Made = refl
kind_of_name-name kinds.NoSpace = refl
kind_of_name-name kinds.Listed = refl

-- and by its number
pub kind_of_number-number : (k : FrameKind) → kind_of_number (kind_number k) ≡ Some k
kind_of_number-number kinds.PageIn = refl
kind_of_number-number kinds.PageOut = refl
kind_of_number-number kinds.AttrOut = refl
kind_of_number-number kinds.Lock = refl
kind_of_number-number kinds.Unlock = refl
kind_of_number-number kinds.Remove = refl
kind_of_number-number kinds.Make = refl
kind_of_number-number kinds.List = refl
kind_of_number-number kinds.Page = refl
kind_of_number-number kinds.Stored = refl
kind_of_number-number kinds.Stale = refl
kind_of_number-number kinds.NoGrant = refl
kind_of_number-number kinds.NoObject = refl
kind_of_number-number kinds.Granted = refl
kind_of_number-number kinds.Conflict = refl
kind_of_number-number kinds.Done = refl
kind_of_number-number kinds.Made = refl
kind_of_number-number kinds.NoSpace = refl
kind_of_number-number kinds.Listed = refl
