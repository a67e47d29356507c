-- Rows whose counters rise: where a row stands, and what a change of the rows leaves.
use Rattle.std.proofs.Common.{◌≡◌, ℕ, zero, suc, ◌<◌, ◌≤◌, ◌==◌, List, [], ◌∷◌, ◌++◌, length, get_or, set, ap, ◌∙◌, refl, arith}
use Rattle.std.specs.Prelude.{Bool, true, false, not, if◌then◌else◌, Option, Some, None, Result, Ok, Err, MatchOption, cond}
use Rattle.std.specs.Option.{option_map}
use Rattle.std.specs.List.{remove, AllWithin}
use Rattle.std.specs.List.Sorted.{IsNonDecreasingBy, IsBinarySearchResult, IsSearchInRange}
use Rattle.std.specs.Ordering.{nat_cmp, ordering_index}
use Rattle.std.specs.Result.{result_ok}
use Rattle.std.specs.declared.cmp.Ordering.TheVariants.{Less, Equal, Greater}
use Rattle.std.proofs.lemmas.Bool.{eqb-true, eq-eqb}
use Rattle.std.proofs.lemmas.Bool.Decides.{nat_tests}
use Rattle.std.proofs.lemmas.List.Sums.{sum_by-cons}
use Rattle.uid_names.proofs.Passed.{eqb-sym}
use Rattle.object_store.specs.declared.attributes.Attr.{Attr}
use Rattle.object_store.specs.declared.attributes.ObjectRow.{ObjectRow}
use Rattle.object_store.specs.Objects.{attr_at, room_of, rooms, with_change, changed_if, without_row}
use Rattle.object_store.specs.Kept.{AreCountersRising, AreRowsUpTo, IsAttr}
use Rattle.object_store.specs.Places.{IsRowAt}

-- two counters, one above the other, are not equal
behind : (a b : ℕ) → a < b → (b == a) ≡ false
behind a b lt = grind (arith, nat_tests)

-- the same, the lower one first
before : (a b : ℕ) → a < b → (a == b) ≡ false
before a b lt = grind (arith, nat_tests)

-- each counter is above the one that the first is above
above : (low : ℕ) (rows : List ObjectRow) (at : ℕ) (d : ObjectRow) → AreCountersRising low rows → at < length rows → low < (get_or rows at d).counter
above low [] at d rising lt = absurd (omega arith)
above low (row ∷ rest) zero d rising lt = rising.0
above low (row ∷ rest) (suc at) d rising lt =
    let later : row.counter < (get_or rest at d).counter = above row.counter rest at d rising.1 (omega arith) in
    let first : low < row.counter = rising.0 in
    omega arith

-- the first counter is below that of a later row
first-before : (low counter at : ℕ) (row : ObjectRow) (rest : List ObjectRow) (d : ObjectRow) → AreCountersRising low (row ∷ rest) → suc at < length (row ∷ rest)
    → (get_or rest at d).counter ≡ counter → row.counter < counter
first-before low counter at row rest d rising lt is =
    let later : row.counter < (get_or rest at d).counter = above row.counter rest at d rising.1 (omega arith) in
    omega arith

-- no row is found under a counter that is not above the lower bound
pub attr_at-low : (low counter : ℕ) (rows : List ObjectRow) → AreCountersRising low rows → counter ≤ low → attr_at rows counter ≡ None
attr_at-low low counter [] rising le = refl
attr_at-low low counter (row ∷ rest) rising le =
    let first : low < row.counter = rising.0 in
    rw (behind counter row.counter (omega arith)) (attr_at-low row.counter counter rest rising.1 (omega arith))

-- no row is found under a counter above the greatest
pub attr_at-high : (greatest counter : ℕ) (rows : List ObjectRow) → AreRowsUpTo greatest rows → greatest < counter → attr_at rows counter ≡ None
attr_at-high greatest counter [] within lt = refl
attr_at-high greatest counter (row ∷ rest) within lt =
    let first : row.counter ≤ greatest = within.0 in
    rw (before row.counter counter (omega arith)) (attr_at-high greatest counter rest within.2 lt)

-- the attributes of the row at its place
pub attr_at-IsRowAt : (low counter at : ℕ) (rows : List ObjectRow) (d : ObjectRow) → AreCountersRising low rows → at < length rows → (get_or rows at d).counter ≡ counter
    → attr_at rows counter ≡ Some (get_or rows at d).attr
attr_at-IsRowAt low counter at [] d rising lt is = absurd (omega arith)
attr_at-IsRowAt low counter zero (row ∷ rest) d rising lt is = rw (eq-eqb row.counter counter is) refl
attr_at-IsRowAt low counter (suc at) (row ∷ rest) d rising lt is =
    rw (before row.counter counter (first-before low counter at row rest d rising lt is)) (attr_at-IsRowAt row.counter counter at rest d rising.1 (omega arith) is)

-- what the rows answer to a counter does not fall along them
answers-rise : (low counter : ℕ) (rows : List ObjectRow) → AreCountersRising low rows → IsNonDecreasingBy (λ row. ordering_index (nat_cmp row.counter counter)) rows
answers-rise low counter [] rising i j d le lt = absurd (omega arith)
answers-rise low counter (row ∷ rest) rising zero zero d le lt = omega arith
answers-rise low counter (row ∷ rest) rising zero (suc j) d le lt = step row.counter (get_or rest j d).counter (above row.counter rest j d rising.1 (omega arith))
  where
    step : (a b : ℕ) → a < b → ordering_index (nat_cmp a counter) ≤ ordering_index (nat_cmp b counter)
    step a b less = grind (arith, nat_tests)
answers-rise low counter (row ∷ rest) rising (suc i) zero d le lt = absurd (omega arith)
answers-rise low counter (row ∷ rest) rising (suc i) (suc j) d le lt = answers-rise row.counter counter rest rising.1 i j d (omega arith) (omega arith)

-- no row is found where each is below or above the counter
attr_at-between : (counter at : ℕ) (rows : List ObjectRow) → AllWithin (λ row. nat_cmp row.counter counter ≡ Less) rows 0 at
    → AllWithin (λ row. nat_cmp row.counter counter ≡ Greater) rows at (length rows) → attr_at rows counter ≡ None
attr_at-between counter at [] less more = refl
attr_at-between counter zero (row ∷ rest) less more =
    rw (not-same row.counter (more 0 row (omega arith) (omega arith)))
    (attr_at-between counter zero rest (λ j d a b. absurd (omega arith)) (λ j d a b. more (suc j) d (omega arith) (omega arith)))
  where
    not-same : (a : ℕ) → nat_cmp a counter ≡ Greater → (a == counter) ≡ false
    not-same a is = grind (arith, nat_tests)
attr_at-between counter (suc at) (row ∷ rest) less more =
    rw (not-same row.counter (less 0 row (omega arith) (omega arith)))
    (attr_at-between counter at rest (λ j d a b. less (suc j) d (omega arith) (omega arith)) (λ j d a b. more (suc j) d (omega arith) (omega arith)))
  where
    not-same : (a : ℕ) → nat_cmp a counter ≡ Less → (a == counter) ≡ false
    not-same a is = grind (arith, nat_tests)

-- counters that compare as equal are equal
equal : (a b : ℕ) → nat_cmp a b ≡ Equal → a ≡ b
equal a b is = grind (arith, nat_tests)

-- what a binary search by the counter answers
pub placed : (rows : List ObjectRow) (counter : ℕ) (r : Result ℕ ℕ) (o : Option ℕ) → AreCountersRising 0 rows → IsSearchInRange r (length rows)
    → IsBinarySearchResult (λ row. nat_cmp row.counter counter) rows r → o ≡ result_ok r → MatchOption o (attr_at rows counter ≡ None) (IsRowAt rows counter)
placed rows counter (Ok at) o rising bound found is = rw is (record { within = bound; named = λ d. equal _ _ (found d); found = λ d. attr_at-IsRowAt 0 counter at rows d rising bound (equal _ _ (found d)) })
placed rows counter (Err at) o rising bound found is =
    let parts = found (answers-rise 0 counter rows rising) in
    rw is (attr_at-between counter at rows parts.0 parts.1)

-- the change of an object is a write of its row
pub with_change-IsRowAt : (change : Attr → Attr) (low counter at : ℕ) (rows : List ObjectRow) (d : ObjectRow) → AreCountersRising low rows → at < length rows → (get_or rows at d).counter ≡ counter
    → with_change change counter rows ≡ set rows at (record (get_or rows at d) { attr = change (get_or rows at d).attr })
with_change-IsRowAt change low counter at [] d rising lt is = absurd (omega arith)
with_change-IsRowAt change low counter zero (row ∷ rest) d rising lt is =
    rw (eq-eqb row.counter counter is)
    (ap (λ (rows : List ObjectRow). record row { attr = change row.attr } ∷ rows) (unchanged row.counter rest rising.1 (omega arith)))
  where
    unchanged : (low : ℕ) (rows : List ObjectRow) → AreCountersRising low rows → counter ≤ low → with_change change counter rows ≡ rows
    unchanged low [] rising le = refl
    unchanged low (r ∷ rows) rising le =
        let first : low < r.counter = rising.0 in
        rw (behind counter r.counter (omega arith)) (ap (λ (rs : List ObjectRow). r ∷ rs) (unchanged r.counter rows rising.1 (omega arith)))
with_change-IsRowAt change low counter (suc at) (row ∷ rest) d rising lt is =
    rw (before row.counter counter (first-before low counter at row rest d rising lt is))
    (ap (λ (rows : List ObjectRow). row ∷ rows) (with_change-IsRowAt change row.counter counter at rest d rising.1 (omega arith) is))

-- the rows without an object are those without its row
pub without_row-IsRowAt : (low counter at : ℕ) (rows : List ObjectRow) (d : ObjectRow) → AreCountersRising low rows → at < length rows → (get_or rows at d).counter ≡ counter
    → without_row counter rows ≡ remove rows at
without_row-IsRowAt low counter at [] d rising lt is = absurd (omega arith)
without_row-IsRowAt low counter zero (row ∷ rest) d rising lt is =
    rw (eq-eqb row.counter counter is) (all-stay row.counter rest rising.1 (omega arith))
  where
    all-stay : (low : ℕ) (rows : List ObjectRow) → AreCountersRising low rows → counter ≤ low → without_row counter rows ≡ rows
    all-stay low [] rising le = refl
    all-stay low (r ∷ rows) rising le =
        let first : low < r.counter = rising.0 in
        rw (behind counter r.counter (omega arith)) (ap (λ (rs : List ObjectRow). r ∷ rs) (all-stay r.counter rows rising.1 (omega arith)))
without_row-IsRowAt low counter (suc at) (row ∷ rest) d rising lt is =
    rw (before row.counter counter (first-before low counter at row rest d rising lt is))
    (ap (λ (rows : List ObjectRow). row ∷ rows) (without_row-IsRowAt row.counter counter at rest d rising.1 (omega arith) is))

-- a lower bound that is lower still
AreCountersRising-lower : (low lower : ℕ) (rows : List ObjectRow) → lower ≤ low → AreCountersRising low rows → AreCountersRising lower rows
AreCountersRising-lower low lower [] le rising = tt
AreCountersRising-lower low lower (row ∷ rest) le rising =
    let first : low < row.counter = rising.0 in
    (omega arith, rising.1)

-- a row behind all others keeps the order
pub AreCountersRising-push : (low greatest : ℕ) (rows : List ObjectRow) (row : ObjectRow) → low ≤ greatest → AreCountersRising low rows → AreRowsUpTo greatest rows → greatest < row.counter
    → AreCountersRising low (rows ++ row ∷ [])
AreCountersRising-push low greatest [] row le rising within lt = (omega arith, tt)
AreCountersRising-push low greatest (r ∷ rows) row le rising within lt = (rising.0, AreCountersRising-push r.counter greatest rows row within.0 rising.1 within.2 lt)

-- a row behind all others has the greatest counter
pub AreRowsUpTo-push : (greatest : ℕ) (rows : List ObjectRow) (row : ObjectRow) → AreRowsUpTo greatest rows → greatest ≤ row.counter → IsAttr row.attr → AreRowsUpTo row.counter (rows ++ row ∷ [])
AreRowsUpTo-push greatest [] row within le attr = (omega arith, attr, tt)
AreRowsUpTo-push greatest (r ∷ rows) row within le attr =
    let first : r.counter ≤ greatest = within.0 in
    (omega arith, within.1, AreRowsUpTo-push greatest rows row within.2 le attr)

-- a change of attributes keeps the order
pub AreCountersRising-with_change : (change : Attr → Attr) (low counter : ℕ) (rows : List ObjectRow) → AreCountersRising low rows → AreCountersRising low (with_change change counter rows)
AreCountersRising-with_change change low counter [] rising = tt
AreCountersRising-with_change change low counter (row ∷ rest) rising = (rising.0, AreCountersRising-with_change change row.counter counter rest rising.1)

-- rows above the counter stay as they are
unchanged : (change : Attr → Attr) (low counter : ℕ) (rows : List ObjectRow) → AreCountersRising low rows → counter ≤ low → with_change change counter rows ≡ rows
unchanged change low counter [] rising le = refl
unchanged change low counter (row ∷ rest) rising le =
    let first : low < row.counter = rising.0 in
    rw (behind counter row.counter (omega arith)) (ap (λ (rows : List ObjectRow). row ∷ rows) (unchanged change row.counter counter rest rising.1 (omega arith)))

-- a change that keeps the ranges of one object keeps them of all
pub AreRowsUpTo-with_change : (change : Attr → Attr) (low greatest counter : ℕ) (rows : List ObjectRow) → AreCountersRising low rows → AreRowsUpTo greatest rows
    → ((attr : Attr) → attr_at rows counter ≡ Some attr → IsAttr attr → IsAttr (change attr)) → AreRowsUpTo greatest (with_change change counter rows)
AreRowsUpTo-with_change change low greatest counter [] rising within keeps = tt
AreRowsUpTo-with_change change low greatest counter (row ∷ rest) rising within keeps =
    elim (row.counter == counter) as (λ b.
    (row.counter == counter) ≡ b → ((attr : Attr) → (if b then Some row.attr else attr_at rest counter) ≡ Some attr → IsAttr attr → IsAttr (change attr))
    → (row.counter ≤ greatest) × IsAttr (changed_if b change row.attr) × AreRowsUpTo greatest (with_change change counter rest)) [
      | true ↦ λ is keeps. (within.0, keeps row.attr refl within.1, rw (unchanged change row.counter counter rest rising.1 (at-most row.counter counter is)) within.2)
      | false ↦ λ is keeps. (within.0, within.1, AreRowsUpTo-with_change change row.counter greatest counter rest rising.1 within.2 keeps)
    ] refl keeps
  where
    at-most : (a b : ℕ) → (a == b) ≡ true → b ≤ a
    at-most a b is = grind (arith, nat_tests)

-- a change that keeps rooms keeps their sum
pub rooms-with_change : (change : Attr → Attr) (counter : ℕ) (rows : List ObjectRow) → ((attr : Attr) → (change attr).room ≡ attr.room) → rooms (with_change change counter rows) ≡ rooms rows
rooms-with_change change counter [] keeps = refl
rooms-with_change change counter (row ∷ rest) keeps =
    let first : (changed_if (row.counter == counter) change row.attr).room ≡ row.attr.room = room-if (row.counter == counter) in
    let later = rooms-with_change change counter rest keeps in
    let changed : ObjectRow = record row { attr = changed_if (row.counter == counter) change row.attr } in
    let after = sum_by-cons (λ (r : ObjectRow). r.attr.room) changed (with_change change counter rest) in
    let before-it = sum_by-cons (λ (r : ObjectRow). r.attr.room) row rest in
    omega (arith, after, before-it)
  where
    room-if : (b : Bool) → (changed_if b change row.attr).room ≡ row.attr.room
    room-if true = keeps row.attr
    room-if false = refl

-- what is found after a change
pub attr_at-with_change : (change : Attr → Attr) (counter q : ℕ) (rows : List ObjectRow)
    → attr_at (with_change change counter rows) q ≡ option_map (changed_if (q == counter) change) (attr_at rows q)
attr_at-with_change change counter q [] = refl
attr_at-with_change change counter q (row ∷ rest) =
    elim (row.counter == q) as (λ b. (row.counter == q) ≡ b →
    (if b then Some (changed_if (row.counter == counter) change row.attr) else attr_at (with_change change counter rest) q)
    ≡ option_map (changed_if (q == counter) change) (if b then Some row.attr else attr_at rest q)) [
      | true ↦ λ is. ap (λ n. Some (changed_if (n == counter) change row.attr)) (eqb-true row.counter q is)
      | false ↦ λ is. attr_at-with_change change counter q rest
    ] refl

-- the rooms that are found stay
pub room-with_change : (change : Attr → Attr) (counter q : ℕ) (rows : List ObjectRow) → ((attr : Attr) → (change attr).room ≡ attr.room)
    → room_of (attr_at (with_change change counter rows) q) ≡ room_of (attr_at rows q)
room-with_change change counter q rows keeps = ap room_of (attr_at-with_change change counter q rows) ∙ room-mapped (q == counter) (attr_at rows q)
  where
    room-mapped : (b : Bool) (o : Option Attr) → room_of (option_map (changed_if b change) o) ≡ room_of o
    room-mapped b None = refl
    room-mapped true (Some attr) = keeps attr
    room-mapped false (Some attr) = refl

-- the order stays without a row
pub AreCountersRising-without_row : (low counter : ℕ) (rows : List ObjectRow) → AreCountersRising low rows → AreCountersRising low (without_row counter rows)
AreCountersRising-without_row low counter [] rising = tt
AreCountersRising-without_row low counter (row ∷ rest) rising =
    let first : low < row.counter = rising.0 in
    let later : AreCountersRising row.counter (without_row counter rest) = AreCountersRising-without_row row.counter counter rest rising.1 in
    elim (row.counter == counter) as (λ b. AreCountersRising low (cond (not b) (row ∷ without_row counter rest) (without_row counter rest))) [
      | true ↦ AreCountersRising-lower row.counter low (without_row counter rest) (omega arith) later
      | false ↦ (first, later)
    ]

-- the ranges stay without a row
pub AreRowsUpTo-without_row : (greatest counter : ℕ) (rows : List ObjectRow) → AreRowsUpTo greatest rows → AreRowsUpTo greatest (without_row counter rows)
AreRowsUpTo-without_row greatest counter [] within = tt
AreRowsUpTo-without_row greatest counter (row ∷ rest) within =
    let later : AreRowsUpTo greatest (without_row counter rest) = AreRowsUpTo-without_row greatest counter rest within.2 in
    elim (row.counter == counter) as (λ b. AreRowsUpTo greatest (cond (not b) (row ∷ without_row counter rest) (without_row counter rest))) [
      | true ↦ later
      | false ↦ (within.0, within.1, later)
    ]

-- the sum of the rooms does not rise without a row
pub rooms-without_row-le : (counter : ℕ) (rows : List ObjectRow) → rooms (without_row counter rows) ≤ rooms rows
rooms-without_row-le counter [] = omega arith
rooms-without_row-le counter (row ∷ rest) =
    let later = rooms-without_row-le counter rest in
    elim (row.counter == counter) as (λ b. rooms (cond (not b) (row ∷ without_row counter rest) (without_row counter rest)) ≤ rooms (row ∷ rest)) [
      | true ↦ omega (arith, sum_by-cons (λ (r : ObjectRow). r.attr.room) row rest)
      | false ↦ omega (arith, sum_by-cons (λ (r : ObjectRow). r.attr.room) row rest, sum_by-cons (λ (r : ObjectRow). r.attr.room) row (without_row counter rest))
    ]

-- a first row that is not of the object stays before what is found of it
beside : (counter q r : ℕ) (s a o o' : Option Attr) → (r == counter) ≡ false → o ≡ (if q == counter then s else o')
    → (if r == q then a else o) ≡ (if q == counter then s else (if r == q then a else o'))
beside counter q r s a o o' other is = by (r == q) (q == counter) (not-both counter q r other) is
  where
    not-both : (counter q r : ℕ) → (r == counter) ≡ false → (r == q) ≡ true → (q == counter) ≡ false
    not-both counter q r other at = grind (arith, nat_tests)

    by : (b c : Bool) → (b ≡ true → c ≡ false) → o ≡ (if c then s else o') → (if b then a else o) ≡ (if c then s else (if b then a else o'))
    by true true apart is = let e = apart refl in cc
    by true false apart is = refl
    by false c apart is = is

-- a first row of the object is not found behind it
over : (counter q r : ℕ) (a o o' : Option Attr) → (r == counter) ≡ true → o ≡ (if q == counter then None else o')
    → o ≡ (if q == counter then None else (if r == q then a else o'))
over counter q r a o o' same is = by (r == q) (q == counter) (both counter q r same) is
  where
    both : (counter q r : ℕ) → (r == counter) ≡ true → (r == q) ≡ (q == counter)
    both counter q r same = grind (arith, nat_tests)

    by : (b c : Bool) → b ≡ c → o ≡ (if c then None else o') → o ≡ (if c then None else (if b then a else o'))
    by b true is e = e
    by true false is e = cc
    by false false is e = e

-- nothing is found in no rows
absent-always : (b : Bool) → (let none : Option Attr = None in none ≡ (if b then none else none))
absent-always true = refl
absent-always false = refl

-- what is found after a removal
pub attr_at-without_row : (counter q : ℕ) (rows : List ObjectRow) → attr_at (without_row counter rows) q ≡ (if q == counter then None else attr_at rows q)
attr_at-without_row counter q [] = absent-always (q == counter)
attr_at-without_row counter q (row ∷ rest) =
    elim (row.counter == counter) as (λ b. (row.counter == counter) ≡ b →
    attr_at (cond (not b) (row ∷ without_row counter rest) (without_row counter rest)) q
    ≡ (if q == counter then None else (if row.counter == q then Some row.attr else attr_at rest q))) [
      | true ↦ λ is. over counter q row.counter (Some row.attr) _ _ is (attr_at-without_row counter q rest)
      | false ↦ λ is. beside counter q row.counter None (Some row.attr) _ _ is (attr_at-without_row counter q rest)
    ] refl

-- what is found after a making
pub attr_at-push : (greatest q : ℕ) (rows : List ObjectRow) (row : ObjectRow) → AreRowsUpTo greatest rows → greatest < row.counter
    → attr_at (rows ++ row ∷ []) q ≡ (if q == row.counter then Some row.attr else attr_at rows q)
attr_at-push greatest q [] row within lt = ap (λ (b : Bool). if b then Some row.attr else None) (eqb-sym row.counter q)
attr_at-push greatest q (r ∷ rows) row within lt =
    let first : r.counter ≤ greatest = within.0 in
    beside row.counter q r.counter (Some row.attr) (Some r.attr) _ _ (before r.counter row.counter (omega arith)) (attr_at-push greatest q rows row within.2 lt)

-- the attributes of a row are in their ranges
pub IsAttr-get_or : (greatest : ℕ) (rows : List ObjectRow) (at : ℕ) (d : ObjectRow) → at < length rows → AreRowsUpTo greatest rows → IsAttr (get_or rows at d).attr
IsAttr-get_or greatest [] at d lt within = absurd (omega arith)
IsAttr-get_or greatest (row ∷ rest) zero d lt within = within.1
IsAttr-get_or greatest (row ∷ rest) (suc at) d lt within = IsAttr-get_or greatest rest at d (omega arith) within.2

-- there are no more objects than pages
pub length-le-rooms : (greatest : ℕ) (rows : List ObjectRow) → AreRowsUpTo greatest rows → length rows ≤ rooms rows
length-le-rooms greatest [] within = omega arith
length-le-rooms greatest (row ∷ rest) within =
    let later = length-le-rooms greatest rest within.2 in
    let attr : IsAttr row.attr = within.1 in
    rw sum_by-cons (omega (arith, attr.room_low))
