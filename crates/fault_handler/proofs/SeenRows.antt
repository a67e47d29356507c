-- What is left where a stamp was set and is forgotten again.
use Rattle.std.proofs.Common.{◌≡◌, ◌∙◌, Bool, true, false, List, [], ◌∷◌, ℕ, refl, ap, arith}
use Rattle.std.specs.Prelude.{filter, not, is_some, Option, Some, None, IsSome}
use Rattle.uid_names.specs.InOrder.{put_in_order}
use Rattle.uid_names.specs.Tables.{row_below, is_row_of}
use Rattle.std.proofs.lemmas.Bool.Decides.{nat_tests}
use Rattle.uid_names.proofs.ListLemmas.{by_cases}
use Rattle.version_stamps.specs.declared.stamps.Stamp.{Stamp}
use Rattle.version_stamps.specs.Stamps.{object_of, stamp_of, with_stamp, without_stamp}
use Rattle.version_stamps.proofs.LookUps.{without_stamp-none}
use Rattle.fault_handler.specs.declared.lengths.Known.{Known}

-- an element that fails a filter leaves no trace where it was put
filter-put : {X : Type 0} (lt : X → X → Bool) (p : X → Bool) (new : X) → p new ≡ false → (xs : List X) → filter p (put_in_order lt new xs) ≡ filter p xs
filter-put lt p new fails [] = rw fails refl
filter-put lt p new fails (x ∷ xs) =
    by_cases
    (lt x new)
    (filter p (put_in_order lt new (x ∷ xs)) ≡ filter p (x ∷ xs))
    (λ before. rw before (by_first (p x) refl (filter-put lt p new fails xs)))
    (λ behind. rw (behind, fails) refl)
  where
    by_first : (b : Bool) → p x ≡ b → filter p (put_in_order lt new xs) ≡ filter p xs → filter p (x ∷ put_in_order lt new xs) ≡ filter p (x ∷ xs)
    by_first true is others = rw is (ap (λ ys. x ∷ ys) others)
    by_first false is others = rw is others

-- a stamp that was set where none was known is forgotten without a trace
pub without-with_stamp : (new : Stamp) (rows : List Stamp) → is_some (stamp_of new.uid rows) ≡ false → without_stamp new.uid (with_stamp new rows) ≡ rows
without-with_stamp new rows none =
    let own : is_row_of object_of new.uid new ≡ true = grind (arith, nat_tests) in
    rw (without_stamp-none new.uid rows none)
    (filter-put (row_below object_of) (λ row. not (is_row_of object_of new.uid row)) new (ap not own) rows ∙ without_stamp-none new.uid rows none)

-- no stamp was seen of an object of which nothing is known
pub no-stamp : (stamp : Option ℕ) (known : Option Known) → (IsSome stamp → IsSome known) → is_some known ≡ false → is_some stamp ≡ false
no-stamp None known both none = refl
no-stamp (Some stamp) known both none = absurd (let there : is_some known ≡ true = both refl in cc)
