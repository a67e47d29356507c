-- Objects, and a home's rows, by their counters and rooms.
use Rattle.std.proofs.Common.{◌≡◌, ℕ, ◌+◌, ◌≤◌, Bool, true, false, List, [], ◌∷◌, ◌++◌, length, map, filter, refl, sym, ap, ◌∙◌, arith}
use Rattle.std.specs.Prelude.{◌==◌, ◌||◌, not, max, if◌then◌else◌, is_some, fold}
use Rattle.std.specs.List.{list_any}
use Rattle.std.proofs.lemmas.Bool.Decides.{nat_tests}
use Rattle.std.proofs.lemmas.List.{map-append}
use Rattle.std.proofs.lemmas.List.Elements.{filter-append}
use Rattle.uid_names.specs.Names.{ObjectName, same_uid}
use Rattle.uid_names.specs.Beginnings.{at_home, AreNumbered}
use Rattle.uid_names.specs.declared.opening.Object.{Object}
use Rattle.uid_names.proofs.ListLemmas.{by_cases}
use Rattle.object_store.specs.declared.attributes.Attr.{Attr}
use Rattle.object_store.specs.declared.attributes.ObjectRow.{ObjectRow}
use Rattle.object_store.specs.Objects.{attr_at, changed_if, with_change, without_row}

-- an object by its counter and its room
abbrev pub shown : Object → ℕ × ℕ
shown o = (o.uid.counter, o.room)

abbrev pub row_shown : ObjectRow → ℕ × ℕ
row_shown row = (row.counter, row.attr.room)

-- rows
pub changed-shown : (change : Attr → Attr) → ((a : Attr) → (change a).room ≡ a.room) → (k : ℕ) (rows : List ObjectRow) → map row_shown (with_change change k rows) ≡ map row_shown rows
changed-shown change keeps k [] = refl
changed-shown change keeps k (row ∷ rest) = by (row.counter == k) ∙ ap (λ ps. row_shown row ∷ ps) (changed-shown change keeps k rest)
  where
    by : (b : Bool) → (row.counter, (changed_if b change row.attr).room) ∷ map row_shown (with_change change k rest) ≡ row_shown row ∷ map row_shown (with_change change k rest)
    by true = ap (λ room. (row.counter, room) ∷ map row_shown (with_change change k rest)) (keeps row.attr)
    by false = refl

abbrev pub without : ℕ → List (ℕ × ℕ) → List (ℕ × ℕ)
without k ps = filter (λ p. not (p.0 == k)) ps

pub without-shown : (k : ℕ) (rows : List ObjectRow) → map row_shown (without_row k rows) ≡ without k (map row_shown rows)
without-shown k [] = refl
without-shown k (row ∷ rest) = by_cases (row.counter == k) (map row_shown (without_row k (row ∷ rest)) ≡ without k (map row_shown (row ∷ rest)))
    (λ h. rw h (without-shown k rest))
    (λ h. rw h (ap (λ ps. row_shown row ∷ ps) (without-shown k rest)))

-- objects that pass a test, and are at a home
module _ (n : ℕ) where
  -- one more that is there
  pub pushed-there : (test : Object → Bool) (xs : List Object) (o : Object) → test o ≡ true → (o.uid.home == n) ≡ true → map shown (at_home n (filter test (xs ++ o ∷ []))) ≡ map shown (at_home n (filter test xs)) ++ shown o ∷ []
  pushed-there test xs o passes here =
      ap (λ ys. map shown (at_home n ys)) (filter-append test xs (o ∷ []) ∙ ap (λ b. filter test xs ++ (if b then o ∷ [] else [])) passes)
      ∙ ap (map shown) (filter-append (λ (x : Object). x.uid.home == n) (filter test xs) (o ∷ []) ∙ ap (λ b. at_home n (filter test xs) ++ (if b then o ∷ [] else [])) here)
      ∙ map-append shown (at_home n (filter test xs)) (o ∷ [])

  -- one that is elsewhere
  pub pushed-elsewhere : (xs : List Object) (o : Object) → (o.uid.home == n) ≡ false → at_home n (xs ++ o ∷ []) ≡ at_home n xs
  pushed-elsewhere [] o away = rw away refl
  pushed-elsewhere (x ∷ xs) o away = by_cases (x.uid.home == n) (at_home n ((x ∷ xs) ++ o ∷ []) ≡ at_home n (x ∷ xs))
      (λ h. rw h (ap (λ ys. x ∷ ys) (pushed-elsewhere xs o away)))
      (λ h. rw h (pushed-elsewhere xs o away))

  pub passed-elsewhere : (test : Object → Bool) (xs : List Object) (o : Object) → (o.uid.home == n) ≡ false → at_home n (filter test (xs ++ o ∷ [])) ≡ at_home n (filter test xs)
  passed-elsewhere test xs o away = ap (at_home n) (filter-append test xs (o ∷ [])) ∙ by_cases (test o) (at_home n (filter test xs ++ filter test (o ∷ [])) ≡ at_home n (filter test xs))
      (λ h. rw h (pushed-elsewhere (filter test xs) o away))
      (λ h. rw h (ap (at_home n) (append-none (filter test xs))))
    where
      append-none : (ys : List Object) → ys ++ [] ≡ ys
      append-none [] = refl
      append-none (y ∷ ys) = ap (λ zs. y ∷ zs) (append-none ys)

  -- one that is taken away
  module _ (v : ObjectName) (gone : Object → Bool) where
    abbrev stays : Object → Bool
    stays o = not (gone o)

    abbrev stays_but : Object → Bool
    stays_but o = not (same_uid o.uid v || gone o)

    pub taken-there : v.home ≡ n → (xs : List Object) → map shown (at_home n (filter stays_but xs)) ≡ without v.counter (map shown (at_home n (filter stays xs)))
    taken-there here [] = refl
    taken-there here (o ∷ xs) = by (gone o) (o.uid.home == n) (o.uid.counter == v.counter) refl refl refl (taken-there here xs)
      where
        by : (a b c : Bool) → gone o ≡ a → (o.uid.home == n) ≡ b → (o.uid.counter == v.counter) ≡ c
            → map shown (at_home n (filter stays_but xs)) ≡ without v.counter (map shown (at_home n (filter stays xs)))
            → map shown (at_home n (filter stays_but (o ∷ xs))) ≡ without v.counter (map shown (at_home n (filter stays (o ∷ xs))))
        by true b c e f g rest = let same : stays_but o ≡ false = rw e (or-true (same_uid o.uid v)) in rw (same, e) rest
          where
            or-true : (x : Bool) → not (x || true) ≡ false
            or-true true = refl
            or-true false = refl
        by false false c e f g rest = let other : same_uid o.uid v ≡ false = grind (arith, nat_tests, f, here) in let kept : stays_but o ≡ true = rw (other, e) refl in rw (kept, e, f) rest
        by false true true e f g rest = let same : same_uid o.uid v ≡ true = grind (arith, nat_tests, f, g, here) in let lost : stays_but o ≡ false = rw same refl in rw (lost, e, f, g) rest
        by false true false e f g rest = let other : same_uid o.uid v ≡ false = grind (arith, nat_tests, g) in let kept : stays_but o ≡ true = rw (other, e) refl in rw (kept, e, f, g) (ap (λ ps. shown o ∷ ps) rest)

    pub taken-elsewhere : (v.home ≡ n → ⊥) → (xs : List Object) → at_home n (filter stays_but xs) ≡ at_home n (filter stays xs)
    taken-elsewhere away [] = refl
    taken-elsewhere away (o ∷ xs) = by (gone o) (o.uid.home == n) (same_uid o.uid v) refl refl refl (taken-elsewhere away xs)
      where
        by : (a b c : Bool) → gone o ≡ a → (o.uid.home == n) ≡ b → same_uid o.uid v ≡ c → at_home n (filter stays_but xs) ≡ at_home n (filter stays xs) → at_home n (filter stays_but (o ∷ xs)) ≡ at_home n (filter stays (o ∷ xs))
        by true b true e f g rest = rw (g, e) rest
        by true b false e f g rest = rw (g, e) rest
        by false true true e f g rest = absurd (away (let h : o.uid.home ≡ v.home = grind (arith, nat_tests, g) in let k : o.uid.home ≡ n = grind (arith, nat_tests, f) in sym h ∙ k))
        by false false true e f g rest = rw (g, e, f) rest
        by false true false e f g rest = rw (g, e, f) (ap (λ ys. o ∷ ys) rest)
        by false false false e f g rest = rw (g, e, f) rest

-- the greatest counter of objects
abbrev pub highest : ℕ → List Object → ℕ
highest a xs = fold (λ b (o : Object). max b o.uid.counter) a xs

highest-up : (a : ℕ) (xs : List Object) → a ≤ highest a xs
highest-up a [] = omega arith
highest-up a (o ∷ xs) = let e = highest-up (max a o.uid.counter) xs in omega (arith, e)

pub numbered-highest : (k : ℕ) (xs : List Object) → AreNumbered (k + 1) xs → highest k xs ≡ k + length xs
numbered-highest k [] are = omega arith
numbered-highest k (o ∷ xs) are =
    let e : max k o.uid.counter ≡ k + 1 = let f = are.0 in omega (arith, f) in
    ap (λ a. highest a xs) e ∙ (numbered-highest (k + 1) xs are.1 ∙ omega arith)

-- an object that is at home has a counter that is not above
pub named-below : (n k : ℕ) (test : Object → Bool) (a : ℕ) (xs : List Object) → list_any (λ (p : ℕ × ℕ). p.0 == k) (map shown (at_home n (filter test xs))) ≡ true → k ≤ highest a (at_home n xs)
named-below n k test a [] is = absurd (cc)
named-below n k test a (o ∷ xs) is = by (test o) (o.uid.home == n) (o.uid.counter == k) refl refl refl (λ b. named-below n k test b xs)
  where
    by : (b c e : Bool) → test o ≡ b → (o.uid.home == n) ≡ c → (o.uid.counter == k) ≡ e
        → ((b : ℕ) → list_any (λ (p : ℕ × ℕ). p.0 == k) (map shown (at_home n (filter test xs))) ≡ true → k ≤ highest b (at_home n xs)) → k ≤ highest a (at_home n (o ∷ xs))
    by true true true f g h rest = rw g (let same : o.uid.counter ≡ k = grind (arith, nat_tests, h) in let up = highest-up (max a o.uid.counter) (at_home n xs) in omega (arith, same, up))
    by true true false f g h rest = rw g (rest (max a o.uid.counter) (rw (f, g, h) at is))
    by true false e f g h rest = rw g (rest a (rw (f, g) at is))
    by false true e f g h rest = rw g (rest (max a o.uid.counter) (rw f at is))
    by false false e f g h rest = rw g (rest a (rw f at is))

pub some-named : (k : ℕ) (rows : List ObjectRow) → is_some (attr_at rows k) ≡ true → list_any (λ (p : ℕ × ℕ). p.0 == k) (map row_shown rows) ≡ true
some-named k [] is = absurd (cc)
some-named k (row ∷ rest) is = by_cases (row.counter == k) (list_any (λ (p : ℕ × ℕ). p.0 == k) (map row_shown (row ∷ rest)) ≡ true) (λ h. rw h refl) (λ h. rw h (some-named k rest (rw h at is)))
