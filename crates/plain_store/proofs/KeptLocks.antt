-- The locks that are kept, after one deed more.
use Rattle.std.proofs.Common.{◌≡◌, Bool, true, false, ℕ, ◌≤◌, List, [], ◌∷◌, ◌++◌, refl, sym, ◌∙◌, ap, arith, append-nil, length, take, inl, inr}
use Rattle.std.specs.Prelude.{All, IsTrue, filter, find, not, ◌==◌, ◌&&◌, if◌then◌else◌, slice_index_or, min}
use Rattle.std.proofs.lemmas.Bool.Decides.{nat_tests}
use Rattle.std.proofs.lemmas.Bool.{cases_lt}
use Rattle.std.proofs.lemmas.List.Elements.{All-cons, All-filter, filter-append}
use Rattle.std.proofs.lemmas.List.{map-append, take_all}
use Rattle.uid_names.specs.Names.{ProcName, ObjectName, same_proc, same_uid}
use Rattle.uid_names.specs.InOrder.{AreInOrder, put_in_order}
use Rattle.uid_names.specs.Rows.{row_lt, same_row, is_in_conflict}
use Rattle.uid_names.specs.declared.lock_row.LockRow.{LockRow}
use Rattle.uid_names.specs.declared.mode.Mode.{Mode}
use Rattle.uid_names.proofs.Finds.{filter-filter}
use Rattle.uid_names.proofs.InOrder.{AllPairs-head, AllPairs-tail}
use Rattle.uid_names.proofs.Orders.{row_lt-trans, same_proc-sym}
use Rattle.dom_history.specs.declared.deed.Deed.{Deed}
use Rattle.dom_history.specs.declared.deed.LockState.TheVariants.{Held}
use Rattle.plain_store.specs.declared.locks.Change.{Change}
use Rattle.dom_history.specs.StoreEffects.{store_effects, own}
use Rattle.dom_history.specs.Locks.{not_free, rows, rows_with, rows_without, lines_with, lines_without}
use Rattle.plain_store.specs.KeptLocks.{line_of, lines_of, rows_of, rows_changed, lines_changed, Changes}
use Rattle.dom_history.proofs.RowOrder.{without_rise}

-- what passes only among those that are kept is found among them
pub find-within : {X : Type 0} (test keep : X → Bool) (xs : List X) → ((x : X) → test x ≡ true → keep x ≡ true) → find test (filter keep xs) ≡ find test xs
find-within test keep [] kept = refl
find-within test keep (x ∷ xs) kept = by_tests (keep x) (test x) refl refl (find-within test keep xs kept)
  where
    by_tests : (k t : Bool) → keep x ≡ k → test x ≡ t → find test (filter keep xs) ≡ find test xs → find test (filter keep (x ∷ xs)) ≡ find test (x ∷ xs)
    by_tests true true e f others = rw (e, f) refl
    by_tests true false e f others = rw (e, f) others
    by_tests false true e f others = let h = kept x f in absurd cc
    by_tests false false e f others = rw (e, f) others

-- a row in conflict is of the home of the object
pub conflict-at_home : (p : ProcName) (u : ObjectName) (m : Mode) (row : LockRow) → is_in_conflict p u m row ≡ true → (row.uid.home == u.home) ≡ true
conflict-at_home p u m row e = by_test (same_uid u row.uid) refl e
  where
    by_test : (b : Bool) → same_uid u row.uid ≡ b → is_in_conflict p u m row ≡ true → (row.uid.home == u.home) ≡ true
    by_test true f e = grind (arith, nat_tests, f)
    by_test false f e = let h = rw f at e in absurd cc

-- what a process knows after a deed
pub held-step : (change : Change) (d : Deed) (deeds : List Deed) (old new : List LockRow) → Changes change d → ((p : ProcName) → lines_of p old ≡ not_free (own p deeds))
    → ((p : ProcName) → lines_of p new ≡ (if same_proc p d.proc then lines_changed change (lines_of p old) else lines_of p old)) → (p : ProcName) → lines_of p new ≡ not_free (own p (d ∷ deeds))
held-step change d deeds old new changes held after p = after p ∙ rw (same_proc-sym p d.proc) (by_test (same_proc d.proc p) refl)
  where
    by_test : (b : Bool) → same_proc d.proc p ≡ b → (if b then lines_changed change (lines_of p old) else lines_of p old) ≡ not_free (own p (d ∷ deeds))
    by_test true e = rw e (ap (lines_changed change) (held p) ∙ sym (changes.lines (not_free (own p deeds))))
    by_test false e = rw e (held p)

-- the rows of a home after a deed
pub rows-step : (change : Change) (d : Deed) (deeds : List Deed) (old new : List LockRow) → Changes change d → ((home : ℕ) → rows_of home old ≡ rows home (store_effects deeds))
    → ((home : ℕ) → rows_of home new ≡ rows_changed change home (rows_of home old)) → (home : ℕ) → rows_of home new ≡ rows home (store_effects (d ∷ deeds))
rows-step change d deeds old new changes held after home = after home ∙ ap (rows_changed change home) (held home) ∙ sym (changes.rows home (store_effects deeds))

-- the locks of a process without one of q on u
pub lines_of-without : (q : ProcName) (u : ObjectName) (held : List LockRow) (p : ProcName) → lines_of p (rows_without q u held) ≡ (if same_proc p q then lines_without u (lines_of p held) else lines_of p held)
lines_of-without q u [] p = by_test (same_proc p q)
  where
    by_test : (b : Bool) → [] ≡ (if b then lines_without u [] else [])
    by_test true = refl
    by_test false = refl
lines_of-without q u (row ∷ held) p = by_tests (same_proc p row.proc) (same_proc p q) (same_proc q row.proc) (same_uid u row.uid) refl refl refl refl (lines_of-without q u held p)
  where
    mine : same_proc p row.proc ≡ true → same_proc p q ≡ true → same_proc q row.proc ≡ false → ⊥
    mine e f g = grind (arith, nat_tests, e, f, g)

    other : same_proc p row.proc ≡ true → same_proc p q ≡ false → same_proc q row.proc ≡ true → ⊥
    other e f g = grind (arith, nat_tests, e, f, g)

    by_tests : (m s t v : Bool) → same_proc p row.proc ≡ m → same_proc p q ≡ s → same_proc q row.proc ≡ t → same_uid u row.uid ≡ v
        → lines_of p (rows_without q u held) ≡ (if same_proc p q then lines_without u (lines_of p held) else lines_of p held)
        → lines_of p (rows_without q u (row ∷ held)) ≡ (if same_proc p q then lines_without u (lines_of p (row ∷ held)) else lines_of p (row ∷ held))
    by_tests true true true true e f g h others = let o = rw f at others in rw (g, h, f, e, h) o
    by_tests true true true false e f g h others = let o = rw f at others in rw (g, h, e, f, h) (ap (λ ls. line_of row ∷ ls) o)
    by_tests true true false v e f g h others = absurd (mine e f g)
    by_tests true false true v e f g h others = absurd (other e f g)
    by_tests true false false v e f g h others = let o = rw f at others in rw (g, e, f) (ap (λ ls. line_of row ∷ ls) o)
    by_tests false s true true e f g h others = rw (g, h, e) others
    by_tests false s true false e f g h others = rw (g, h, e) others
    by_tests false s false v e f g h others = rw (g, e) others

-- and with one more
pub lines_of-set : (new : LockRow) (held : List LockRow) (p : ProcName) → lines_of p (rows_without new.proc new.uid held ++ new ∷ []) ≡ (if same_proc p new.proc then lines_with new.uid (Held new.mode) (lines_of p held) else lines_of p held)
lines_of-set new held p = by_test (same_proc p new.proc) refl
  where
    by_test : (b : Bool) → same_proc p new.proc ≡ b → lines_of p (rows_without new.proc new.uid held ++ new ∷ []) ≡ (if b then lines_with new.uid (Held new.mode) (lines_of p held) else lines_of p held)
    by_test true e =
        let kept = rw e at (lines_of-without new.proc new.uid held p) in
        rw (filter-append (λ row. same_proc p row.proc) (rows_without new.proc new.uid held) (new ∷ []), e, map-append line_of (filter (λ row. same_proc p row.proc) (rows_without new.proc new.uid held)) (new ∷ [])) (ap (λ ls. ls ++ line_of new ∷ []) kept)
    by_test false e =
        let kept = rw e at (lines_of-without new.proc new.uid held p) in
        rw (filter-append (λ row. same_proc p row.proc) (rows_without new.proc new.uid held) (new ∷ []), e, append-nil (filter (λ row. same_proc p row.proc) (rows_without new.proc new.uid held))) kept

-- where no later element is below the new one, it goes first
put-first : {X : Type 0} (lt : X → X → Bool) (new : X) (xs : List X) → All (λ x. lt x new ≡ false) xs → put_in_order lt new xs ≡ new ∷ xs
put-first lt new [] above = refl
put-first lt new (x ∷ xs) above = rw (above 0 x (omega arith)) refl

-- elements in order with one more, of which some are kept
filter-put : {X : Type 0} (lt : X → X → Bool) → ((a b c : X) → lt a b ≡ true → lt b c ≡ true → lt a c ≡ true) → (keep : X → Bool) (new : X) (xs : List X) → AreInOrder lt xs
    → filter keep (put_in_order lt new xs) ≡ (if keep new then put_in_order lt new (filter keep xs) else filter keep xs)
filter-put lt trans keep new [] rising = by_test (keep new) refl
  where
    by_test : (b : Bool) → keep new ≡ b → filter keep (new ∷ []) ≡ (if b then new ∷ [] else [])
    by_test true e = rw e refl
    by_test false e = rw e refl
filter-put lt trans keep new (x ∷ xs) rising = by_tests (lt x new) (keep x) (keep new) refl refl refl (filter-put lt trans keep new xs (AllPairs-tail (λ a b. IsTrue (lt a b)) x xs rising))
  where
    above : lt x new ≡ false → All (λ y. lt y new ≡ false) xs
    above e k d below = by_test (lt (slice_index_or xs k d) new) refl
      where
        by_test : (b : Bool) → lt (slice_index_or xs k d) new ≡ b → b ≡ false
        by_test true f = let h : lt x new ≡ true = trans x (slice_index_or xs k d) new (AllPairs-head (λ a b. IsTrue (lt a b)) x xs rising k d below) f in absurd cc
        by_test false f = refl

    by_tests : (a k n : Bool) → lt x new ≡ a → keep x ≡ k → keep new ≡ n → filter keep (put_in_order lt new xs) ≡ (if keep new then put_in_order lt new (filter keep xs) else filter keep xs)
        → filter keep (put_in_order lt new (x ∷ xs)) ≡ (if keep new then put_in_order lt new (filter keep (x ∷ xs)) else filter keep (x ∷ xs))
    by_tests true true true e f g others = let o = rw g at others in rw (e, f, g, e) (ap (λ ys. x ∷ ys) o)
    by_tests true true false e f g others = let o = rw g at others in rw (e, f, g) (ap (λ ys. x ∷ ys) o)
    by_tests true false n e f g others = rw (e, f) others
    by_tests false k true e f g others =
        let all : All (λ y. lt y new ≡ false) (x ∷ xs) = All-cons (λ y. lt y new ≡ false) x xs e (above e) in
        rw (e, g) (sym (put-first lt new (filter keep (x ∷ xs)) (All-filter keep (λ y. lt y new ≡ false) (x ∷ xs) all)))
    by_tests false k false e f g others = rw (e, g) refl

-- a row that is taken out is of the home of its object
taken_at_home : (p : ProcName) (u : ObjectName) (home : ℕ) (row : LockRow) → (u.home == home) ≡ false → (not (same_row p u row) && (row.uid.home == home)) ≡ (row.uid.home == home)
taken_at_home p u home row e = grind (arith, nat_tests, e)

-- two tests in either order
both-turned : (x y : Bool) → (x && y) ≡ (y && x)
both-turned true true = refl
both-turned true false = refl
both-turned false true = refl
both-turned false false = refl

-- the rows of a home without one of p on u
pub rows_of-without : (p : ProcName) (u : ObjectName) (rs : List LockRow) (home : ℕ) → rows_of home (rows_without p u rs) ≡ (if u.home == home then rows_without p u (rows_of home rs) else rows_of home rs)
rows_of-without p u rs home = by_test (u.home == home) refl
  where
    by_test : (b : Bool) → (u.home == home) ≡ b → rows_of home (rows_without p u rs) ≡ (if b then rows_without p u (rows_of home rs) else rows_of home rs)
    by_test true e =
        filter-filter (λ row. row.uid.home == home) (λ row. not (same_row p u row)) (λ row. not (same_row p u row) && (row.uid.home == home)) rs (λ row. refl)
        ∙ sym (filter-filter (λ row. not (same_row p u row)) (λ row. row.uid.home == home) (λ row. not (same_row p u row) && (row.uid.home == home)) rs (λ row. both-turned (row.uid.home == home) (not (same_row p u row))))
    by_test false e = filter-filter (λ row. row.uid.home == home) (λ row. not (same_row p u row)) (λ row. row.uid.home == home) rs (λ row. taken_at_home p u home row e)

-- and with one more in its place
pub rows_of-set : (new : LockRow) (rs : List LockRow) (home : ℕ) → AreInOrder row_lt rs → rows_of home (rows_with new (rows_without new.proc new.uid rs)) ≡ (if new.uid.home == home then rows_with new (rows_without new.proc new.uid (rows_of home rs)) else rows_of home rs)
rows_of-set new rs home rising =
    filter-put row_lt row_lt-trans (λ row. row.uid.home == home) new (rows_without new.proc new.uid rs) (without_rise new.proc new.uid rs rising)
    ∙ rw (rows_of-without new.proc new.uid rs home) (by_test (new.uid.home == home) refl)
  where
    by_test : (b : Bool) → (new.uid.home == home) ≡ b → (if b then rows_with new (if b then rows_without new.proc new.uid (rows_of home rs) else rows_of home rs) else (if b then rows_without new.proc new.uid (rows_of home rs) else rows_of home rs)) ≡ (if b then rows_with new (rows_without new.proc new.uid (rows_of home rs)) else rows_of home rs)
    by_test true e = refl
    by_test false e = refl

-- as many as there are, and at most n, are the first n
pub take-min : {X : Type 0} (xs : List X) (n m i : ℕ) → m ≡ min (length xs) n → length (take m xs) ≤ i → take i (take m xs) ≡ take n xs
take-min xs n m i e over = take_all i (take m xs) over ∙ elim (cases_lt n (length xs)) [
  | inl above ↦ (let h : m ≡ n = omega arith in ap (λ k. take k xs) h)
  | inr below ↦ take_all m xs (omega arith) ∙ sym (take_all n xs below)
]
