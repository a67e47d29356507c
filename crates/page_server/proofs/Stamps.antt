-- How high the stamps of a home are.
use Rattle.std.proofs.Common.{◌≡◌, ℕ, ◌+◌, ◌≤◌, ◌==◌, List, [], ◌∷◌, ◌++◌, subst, arith}
use Rattle.std.specs.Prelude.{Bool, true, false, not, if◌then◌else◌, Some, None}
use Rattle.uid_names.specs.Names.{ObjectName}
use Rattle.object_store.specs.declared.attributes.Attr.{Attr}
use Rattle.object_store.specs.declared.attributes.ObjectRow.{ObjectRow}
use Rattle.object_store.specs.Objects.{attr_at, changed_if, with_change, without_row}
use Rattle.object_store.specs.HomeStates.{HomeState, attr_of}
use Rattle.page_server.specs.ServerStates.{AreStampedTo}

pub AreStampedTo-weaker : (low high : ℕ) (rows : List ObjectRow) → low ≤ high → AreStampedTo low rows → AreStampedTo high rows
AreStampedTo-weaker low high [] le stamped = tt
AreStampedTo-weaker low high (row ∷ rest) le stamped =
    let first : row.attr.stamp ≤ low = stamped.0 in
    (omega arith, AreStampedTo-weaker low high rest le stamped.1)

pub AreStampedTo-push : (high : ℕ) (rows : List ObjectRow) (row : ObjectRow) → AreStampedTo high rows → row.attr.stamp ≤ high → AreStampedTo high (rows ++ row ∷ [])
AreStampedTo-push high [] row stamped le = (le, tt)
AreStampedTo-push high (first ∷ rest) row stamped le = (stamped.0, AreStampedTo-push high rest row stamped.1 le)

pub AreStampedTo-without_row : (high counter : ℕ) (rows : List ObjectRow) → AreStampedTo high rows → AreStampedTo high (without_row counter rows)
AreStampedTo-without_row high counter [] stamped = tt
AreStampedTo-without_row high counter (row ∷ rest) stamped = by (not (row.counter == counter)) (AreStampedTo-without_row high counter rest stamped.1)
  where
    by : (b : Bool) → AreStampedTo high (without_row counter rest) → AreStampedTo high (if b then row ∷ without_row counter rest else without_row counter rest)
    by true others = (stamped.0, others)
    by false others = others

-- a change that raises a stamp by 1
pub AreStampedTo-with_change : (change : Attr → Attr) (high counter : ℕ) (rows : List ObjectRow) → ((attr : Attr) → (change attr).stamp ≡ attr.stamp + 1)
    → AreStampedTo high rows → AreStampedTo (high + 1) (with_change change counter rows)
AreStampedTo-with_change change high counter [] raises stamped = tt
AreStampedTo-with_change change high counter (row ∷ rest) raises stamped =
    (by (row.counter == counter), AreStampedTo-with_change change high counter rest raises stamped.1)
  where
    by : (b : Bool) → (changed_if b change row.attr).stamp ≤ high + 1
    by true = let first : row.attr.stamp ≤ high = stamped.0 in omega (arith, raises row.attr)
    by false = let first : row.attr.stamp ≤ high = stamped.0 in omega arith

stamp-attr_at : (high counter : ℕ) (rows : List ObjectRow) (attr : Attr) → AreStampedTo high rows → attr_at rows counter ≡ Some attr → attr.stamp ≤ high
stamp-attr_at high counter [] attr stamped is = cc
stamp-attr_at high counter (row ∷ rest) attr stamped is = by (row.counter == counter) is (stamp-attr_at high counter rest attr stamped.1)
  where
    by : (b : Bool) → (if b then Some row.attr else attr_at rest counter) ≡ Some attr → (attr_at rest counter ≡ Some attr → attr.stamp ≤ high) → attr.stamp ≤ high
    by true is others = let one : row.attr ≡ attr = cc in subst (λ (a : Attr). a.stamp ≤ high) one stamped.0
    by false is others = others is

-- the stamp of an object that is there
pub stamp-attr_of : (high : ℕ) (home : HomeState) (u : ObjectName) (attr : Attr) → AreStampedTo high home.objects → attr_of home u ≡ Some attr → attr.stamp ≤ high
stamp-attr_of high home u attr stamped = by (u.home == home.node)
  where
    by : (b : Bool) → (if b then attr_at home.objects u.counter else None) ≡ Some attr → attr.stamp ≤ high
    by true is = stamp-attr_at high u.counter home.objects attr stamped is
    by false is = cc
