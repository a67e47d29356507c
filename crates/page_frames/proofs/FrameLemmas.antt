-- What a pool has after a change, for its callers.
use Rattle.std.proofs.Common.{◌≡◌, ◌≢◌, ℕ, ◌+◌, ◌-◌, true, false, Some, None, refl, sym, ap, inl, inr, arith}
use Rattle.std.proofs.lemmas.Bool.{cases_eq}
use Rattle.std.proofs.lemmas.Bool.Decides.{nat_tests}
use Rattle.std.specs.Ordering.{nat_cmp, eq_by_cmp}
use Rattle.std.specs.Cmp.{nat_cmp_total}
use Rattle.std.specs.FinMap.{get, insert, remove, len, same_map, nat_cmp-IsAntisymmetric, get-insert, get-remove, len-insert, len-remove}
use Rattle.page_frames.specs.Pools.{Frame, Pool, IsTaken, frame_at, with_frame, without_frame}

-- the order of numbers ties a number with itself
pub tied : (q : ℕ) → eq_by_cmp nat_cmp q q ≡ true
tied q = grind (arith, nat_tests)

-- and no other number
pub apart : (q k : ℕ) → q ≢ k → eq_by_cmp nat_cmp q k ≡ false
apart q k ne = grind (arith, nat_tests)

-- the frame that was put there is there
pub frame_at-with_frame-same : (p : Pool) (n : ℕ) (f : Frame) → frame_at (with_frame p n f) n ≡ Some f
frame_at-with_frame-same p n f = rw (get-insert nat_cmp_total p.taken n f n, tied n) refl

-- any other frame is as it was
pub frame_at-with_frame-other : (p : Pool) (n q : ℕ) (f : Frame) → q ≢ n → frame_at (with_frame p n f) q ≡ frame_at p q
frame_at-with_frame-other p n q f differs = rw (get-insert nat_cmp_total p.taken n f q, apart q n differs) refl

-- the frame is free
pub frame_at-without_frame-same : (p : Pool) (n : ℕ) → frame_at (without_frame p n) n ≡ None
frame_at-without_frame-same p n = rw (get-remove nat_cmp_total p.taken n n, tied n) refl

-- any other frame is as it was
pub frame_at-without_frame-other : (p : Pool) (n q : ℕ) → q ≢ n → frame_at (without_frame p n) q ≡ frame_at p q
frame_at-without_frame-other p n q differs = rw (get-remove nat_cmp_total p.taken n q, apart q n differs) refl

-- a frame more is taken, where it was free
pub len-with_frame-free : (p : Pool) (n : ℕ) (f : Frame) → frame_at p n ≡ None → len (with_frame p n f).taken ≡ len p.taken + 1
len-with_frame-free p n f free = rw (len-insert nat_cmp_total p.taken n f, free) refl

-- as many are taken, where it was taken
pub len-with_frame-taken : (p : Pool) (n : ℕ) (f : Frame) → IsTaken p n → len (with_frame p n f).taken ≡ len p.taken
len-with_frame-taken p n f taken = rw (len-insert nat_cmp_total p.taken n f, taken) refl

-- a frame less is taken
pub len-without_frame : (p : Pool) (n : ℕ) → IsTaken p n → len (without_frame p n).taken ≡ len p.taken - 1
len-without_frame p n taken = rw (len-remove nat_cmp_total p.taken n, taken) refl

-- a frame that was free and is taken and given back leaves the pool as it was
pub without_frame-with_frame : (p : Pool) (n : ℕ) (f : Frame) → frame_at p n ≡ None → without_frame (with_frame p n f) n ≡ p
without_frame-with_frame p n f free = ap (λ m. record p { taken = m }) (same_map nat_cmp_total nat_cmp-IsAntisymmetric _ _ each)
  where
    each : (q : ℕ) → get (remove (insert p.taken n f) n) q ≡ get p.taken q
    each q = elim (cases_eq q n) [
      | inl same ↦ rw (get-remove nat_cmp_total (insert p.taken n f) n q, same, tied n) (sym free)
      | inr differs ↦ rw (get-remove nat_cmp_total (insert p.taken n f) n q, apart q n differs, get-insert nat_cmp_total p.taken n f q, apart q n differs) refl
    ]

-- what a pool has at the number that was changed, and how many are taken
pub ruleset after_a_change = (frame_at-with_frame-same, frame_at-without_frame-same, len-with_frame-free, len-with_frame-taken, len-without_frame)
