-- What the objects of a home take.
use Rattle.std.proofs.Common.{◌≡◌, ◌≤◌, ◌<◌, ◌+◌, ℕ, zero, suc, Bool, true, false, List, [], ◌∷◌, ◌++◌, refl, ◌∙◌, ap, arith, append-nil}
use Rattle.std.specs.Prelude.{fold, sum_by, max, ◌==◌, if◌then◌else◌}
use Rattle.std.proofs.lemmas.List.Elements.{filter-append}
use Rattle.std.proofs.lemmas.List.Sums.{fold-append, sum_by-append}
use Rattle.std.proofs.lemmas.Bool.{eqb-true, eqb-false, ne_eqb}
use Rattle.uid_names.specs.declared.opening.Object.{Object}
use Rattle.uid_names.specs.Beginnings.{at_home, entry_directory}
use Rattle.dom_history.specs.Objects.{entry_directories}

-- the room that the objects of a home take, in a list
abbrev pub rooms : ℕ → List Object → ℕ
rooms home objects = sum_by (λ o. o.room) (at_home home objects)

-- the greatest counter of a home, in a list
abbrev pub greatest : ℕ → List Object → ℕ
greatest home objects = fold (λ a o. max a o.uid.counter) 0 (at_home home objects)

-- one object more takes room only at its home
pub rooms-push : (h : ℕ) (xs : List Object) (o : Object) → rooms h (xs ++ o ∷ []) ≡ (if o.uid.home == h then rooms h xs + o.room else rooms h xs)
rooms-push h xs o = rw (filter-append (λ x. x.uid.home == h) xs (o ∷ [])) (by_test (o.uid.home == h) refl) where
  by_test : (b : Bool) → (o.uid.home == h) ≡ b → sum_by (λ x. x.room) (at_home h xs ++ at_home h (o ∷ [])) ≡ (if b then rooms h xs + o.room else rooms h xs)
  by_test true e = rw (e, sum_by-append (λ x. x.room) (at_home h xs) (o ∷ [])) (omega arith)
  by_test false e = rw e (ap (sum_by (λ x. x.room)) (append-nil (at_home h xs)))

-- one object more raises the greatest counter only at its home
pub greatest-push : (h : ℕ) (xs : List Object) (o : Object) → greatest h (xs ++ o ∷ []) ≡ (if o.uid.home == h then max (greatest h xs) o.uid.counter else greatest h xs)
greatest-push h xs o = rw (filter-append (λ x. x.uid.home == h) xs (o ∷ [])) (by_test (o.uid.home == h) refl) where
  by_test : (b : Bool) → (o.uid.home == h) ≡ b → fold (λ a x. max a x.uid.counter) 0 (at_home h xs ++ at_home h (o ∷ [])) ≡ (if b then max (greatest h xs) o.uid.counter else greatest h xs)
  by_test true e = rw e (fold-append (λ a x. max a x.uid.counter) 0 (at_home h xs) (o ∷ []))
  by_test false e = rw e (ap (fold (λ a x. max a x.uid.counter) 0) (append-nil (at_home h xs)))

-- the last entry directory belongs to the last node
at_home-directories : (n h : ℕ) → at_home h (entry_directories (suc n)) ≡ at_home h (entry_directories n) ++ (if suc n == h then entry_directory (suc n) ∷ [] else [])
at_home-directories n h = filter-append (λ o. o.uid.home == h) (entry_directories n) (entry_directory (suc n) ∷ [])

-- a node above n has none among the first n
none-above : (n h : ℕ) → n < h → at_home h (entry_directories n) ≡ []
none-above zero h below = refl
none-above (suc n) h below =
    let ne : suc n ≡ h → ⊥ = λ e. omega arith in
    let test : (suc n == h) ≡ false = ne_eqb (suc n) h ne in
    at_home-directories n h ∙ rw (test, none-above n h (omega arith)) refl

-- its own is the last one, or one before it
own-by_test : (n h : ℕ) (b : Bool) → (suc n == h) ≡ b → h ≤ suc n → (h ≤ n → at_home h (entry_directories n) ≡ entry_directory h ∷ []) → at_home h (entry_directories n) ++ (if suc n == h then entry_directory (suc n) ∷ [] else []) ≡ entry_directory h ∷ []
own-by_test n h true e high below =
    let same : suc n ≡ h = eqb-true (suc n) h e in
    rw (e, none-above n h (omega arith)) (ap (λ m. entry_directory m ∷ []) same)
own-by_test n h false e high below =
    let ne : suc n ≡ h → ⊥ = eqb-false (suc n) h e in
    rw (e, below (omega arith)) refl

-- a node has its own entry directory alone
pub own_directory : (n h : ℕ) → 1 ≤ h → h ≤ n → at_home h (entry_directories n) ≡ entry_directory h ∷ []
own_directory zero h low high = absurd (omega arith)
own_directory (suc n) h low high = at_home-directories n h ∙ own-by_test n h (suc n == h) refl high (own_directory n h low)
