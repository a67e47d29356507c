-- The enabled events of nodes are counted.
use Rattle.std.proofs.Common.{◌≡◌, ℕ, zero, suc, ◌+◌, ◌-◌, ◌^◌, ◌<◌, ◌≤◌, Some, List, [], ◌∷◌, take, length, get_or, sym, ap, subst, ◌∙◌, arith}
use Rattle.std.specs.Prelude.{sum, slice_get, vec_len}
use Rattle.std.proofs.lemmas.Grind.{common_steps}
use Rattle.world_core.specs.declared.station.Station.{Station}
use Rattle.world_core.specs.Places.{enabled_counts}

module _ {P G : Type 0} where
  -- one node more
  pub counts_step : (stations : List (Station P G)) (i : ℕ) (y : Station P G) → i < length stations → y ≡ get_or stations i y
      → sum (take (i + 1) (enabled_counts stations)) ≡ sum (take i (enabled_counts stations)) + length y.enabled.items
  counts_step [] i y within is = absurd (omega (arith, within))
  counts_step (x ∷ more) zero y within is = grind (arith, common_steps)
  counts_step (x ∷ more) (suc i) y within is = let rest = counts_step more i y (omega (arith, within)) is in grind (arith, common_steps, rest)

  -- the count of this node
  pub count_at : (stations : List (Station P G)) (i : ℕ) (y : Station P G) → i < length stations → y ≡ get_or stations i y
      → slice_get (enabled_counts stations) i ≡ Some (length y.enabled.items)
  count_at [] i y within is = absurd (omega (arith, within))
  count_at (x ∷ more) zero y within is = ap (λ (z : Station P G). Some (length z.enabled.items)) (sym is)
  count_at (x ∷ more) (suc i) y within is = count_at more i y (omega (arith, within)) is

  -- all of them
  pub counts_all : (stations : List (Station P G)) (i : ℕ) → length stations ≤ i → take i (enabled_counts stations) ≡ enabled_counts stations
  counts_all [] i past = grind (arith, common_steps)
  counts_all (x ∷ more) zero past = absurd (omega (arith, past))
  counts_all (x ∷ more) (suc i) past = ap (λ (ns : List ℕ). length x.enabled.items ∷ ns) (counts_all more i (omega (arith, past)))

pub part_low : (ns : List ℕ) (k : ℕ) → sum (take k ns) ≤ sum ns
part_low [] k = grind (arith, common_steps)
part_low (n ∷ ns) zero = omega arith
part_low (n ∷ ns) (suc k) = let rest = part_low ns k in grind (arith, common_steps, rest)

-- how many events a node lists
pub len-items : {P G : Type 0} (y : Station P G) → vec_len y.enabled ≡ length y.enabled.items
len-items y = let ok = y.enabled.ok.0 in omega (arith, ok)

-- the nodes that are looked at, in the order of all
module _ {P G : Type 0} (all items : List (Station P G)) (same : items ≡ all) (i : ℕ) where
  module _ (y : Station P G) (within : i < length items) (is : y ≡ get_or items i y) where
    -- its count is that of the node at its place
    pub count-here : slice_get (enabled_counts all) i ≡ Some (length y.enabled.items)
    count-here = subst (λ (ys : List (Station P G)). slice_get (enabled_counts ys) i ≡ Some (length y.enabled.items)) same (count_at items i y within is)

    step-here : sum (take (i + 1) (enabled_counts all)) ≡ sum (take i (enabled_counts all)) + length y.enabled.items
    step-here = subst (λ (ys : List (Station P G)). sum (take (i + 1) (enabled_counts ys)) ≡ sum (take i (enabled_counts ys)) + length y.enabled.items) same (counts_step items i y within is)

    -- what was counted so far, with its count
    pub counted-on : (count own : ℕ) → count ≡ sum (take i (enabled_counts all)) → own ≡ length y.enabled.items → count + own ≡ sum (take (i + 1) (enabled_counts all))
    counted-on count own so_far here = ap (λ (n : ℕ). n + own) so_far ∙ ap (λ (n : ℕ). sum (take i (enabled_counts all)) + n) here ∙ sym step-here

    pub counted-fits : (count own : ℕ) → count ≡ sum (take i (enabled_counts all)) → own ≡ length y.enabled.items → sum (enabled_counts all) < 2 ^ 64 → count + own < 2 ^ 64
    counted-fits count own so_far here fits = let on = counted-on count own so_far here in let low = part_low (enabled_counts all) (i + 1) in omega (arith, on, low, fits)

    -- what is left of a place, without its count
    pub left-on : (left own place : ℕ) → sum (take i (enabled_counts all)) + left ≡ place → own ≡ length y.enabled.items → own ≤ left
        → sum (take (i + 1) (enabled_counts all)) + (left - own) ≡ place
    left-on left own place so_far here some = let step = step-here in omega (arith, step, so_far, here, some)

  module _ (past : length items ≤ i) where
    all-here : take i (enabled_counts all) ≡ enabled_counts all
    all-here = subst (λ (ys : List (Station P G)). take i (enabled_counts ys) ≡ enabled_counts ys) same (counts_all items i past)

    pub counted-all : (count : ℕ) → count ≡ sum (take i (enabled_counts all)) → count ≡ sum (enabled_counts all)
    counted-all count so_far = so_far ∙ ap (λ (ns : List ℕ). sum ns) all-here

    -- the place is behind all
    pub place-behind : (left place : ℕ) → sum (take i (enabled_counts all)) + left ≡ place → sum (enabled_counts all) ≤ place
    place-behind left place so_far = let e : sum (take i (enabled_counts all)) ≡ sum (enabled_counts all) = ap (λ (ns : List ℕ). sum ns) all-here in omega (arith, e, so_far)
