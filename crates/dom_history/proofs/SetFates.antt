-- The fates of a plan after one more was set.
use Rattle.std.proofs.Common.{◌≡◌, ◌≢◌, ◌<◌, ℕ, Bool, true, false, cond, List, [], ◌∷◌, ◌++◌, length, get_or, refl, sym, ◌∙◌, ap, zero, suc, arith}
use Rattle.std.specs.Prelude.{Option, Some, None, is_some, find}
use Rattle.std.specs.Option.{option_or}
use Rattle.std.proofs.lemmas.List.Folds.{find-append}
use Rattle.std.proofs.lemmas.List.Elements.{All-append, All-cons, All-nil}
use Rattle.std.proofs.lemmas.List.Quantifiers.{all_pairs_push}
use Rattle.std.proofs.lemmas.Bool.Decides.{nat_tests}
use Rattle.dom_history.specs.declared.plan.FateRow.{FateRow}
use Rattle.dom_history.specs.Plans.{is_of_frame, fate_in, set_fate, is_set, IsPlan}
use Rattle.dom_history.specs.KeptFates.{same_frame}

-- a test that finds nothing fails at each element
unfound : {X : Type 0} (p : X → Bool) (xs : List X) → find p xs ≡ None → (k : ℕ) (d : X) → k < length xs → p (get_or xs k d) ≡ false
unfound p [] e k d below = absurd (omega (arith, below))
unfound p (x ∷ xs) e zero d below =
    elim (p x) as (λ b. (cond b (Some x) (find p xs) ≡ None → b ≡ false)) [ true ↦ λ h. absurd cc | false ↦ λ h. refl ] e
unfound p (x ∷ xs) e (suc k) d below =
    let rest : find p xs ≡ None = elim (p x) as (λ b. (cond b (Some x) (find p xs) ≡ None → find p xs ≡ None)) [ true ↦ λ h. absurd cc | false ↦ λ h. h ] e in
    unfound p xs rest k d (omega (arith, below))

-- no row was found where none has a fate
no_row : (found : Option FateRow) → is_some (fate_in found) ≡ false → found ≡ None
no_row None e = refl
no_row (Some row) e = absurd cc

-- what is found among rows and one more
push-found : (same : Bool) (found : Option FateRow) (row : FateRow) → (same ≡ true → found ≡ None) → cond same (Some row.fate) (fate_in found) ≡ fate_in (option_or found (cond same (Some row) None))
push-found false None row h = refl
push-found false (Some other) row h = refl
push-found true None row h = refl
push-found true (Some other) row h = absurd (let none : Some other ≡ None = h refl in cc)

-- a frame is looked for by its nodes and number alone
found-same : (plan : List FateRow) (row : FateRow) (from to index : ℕ) → same_frame (row.from, row.to, row.index) (from, to, index) ≡ true → find (is_of_frame row.from row.to row.index) plan ≡ find (is_of_frame from to index) plan
found-same plan row from to index same =
    let f : row.from ≡ from = grind (arith, nat_tests) in
    let t : row.to ≡ to = grind (arith, nat_tests) in
    let i : row.index ≡ index = grind (arith, nat_tests) in
    rw (f, t, i) refl

-- the fate of a frame after one more was set
pub set_fate-push : (plan : List FateRow) (row : FateRow) (from to index : ℕ) → is_set plan row.from row.to row.index ≡ false
    → cond (same_frame (row.from, row.to, row.index) (from, to, index)) (Some row.fate) (set_fate plan from to index) ≡ set_fate (plan ++ row ∷ []) from to index
set_fate-push plan row from to index unset =
    push-found (same_frame (row.from, row.to, row.index) (from, to, index)) (find (is_of_frame from to index) plan) row
    (λ same. sym (found-same plan row from to index same) ∙ no_row (find (is_of_frame row.from row.to row.index) plan) unset)
    ∙ ap fate_in (sym (find-append (is_of_frame from to index) plan (row ∷ [])))

-- a plan stays one where a fate is set that was not
pub IsPlan-push : (plan : List FateRow) (row : FateRow) → IsPlan plan → row.from ≢ row.to → is_set plan row.from row.to row.index ≡ false → IsPlan (plan ++ row ∷ [])
IsPlan-push plan row h ne unset = record {
  apart = All-append (λ r. r.from ≢ r.to) plan (row ∷ []) h.apart (All-cons (λ r. r.from ≢ r.to) row [] ne (All-nil (λ r. r.from ≢ r.to)));
  once = all_pairs_push (λ a b. is_of_frame b.from b.to b.index a ≡ false) plan row h.once (unfound (is_of_frame row.from row.to row.index) plan (no_row (find (is_of_frame row.from row.to row.index) plan) unset));
}
