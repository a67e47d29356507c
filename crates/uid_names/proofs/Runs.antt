-- Where runs of segments may begin, and the lowest one that passes a test.
use Rattle.std.proofs.Common.{◌≡◌, ℕ, ◌+◌, ◌-◌, ◌<◌, ◌≤◌, Bool, false, refl, arith}
use Rattle.std.specs.Prelude.{find, Some, None, if◌then◌else◌}
use Rattle.uid_names.specs.declared.segment.TheConstants.{SEGMENTS}
use Rattle.uid_names.specs.Segments.{starts_from}
use Rattle.uid_names.proofs.Finds.{find-range_step, find-range_lowest, find-range_none, find-range_within}

-- a run begins at a, or behind it
pub find-starts_step : (test : ℕ → Bool) (a : ℕ) → a < SEGMENTS → find test (starts_from a) ≡ (if test a then Some a else find test (starts_from (a + 1)))
unfolding starts_from
find-starts_step test a below = find-range_step test a SEGMENTS below

-- no run begins behind the last segment
pub find-starts_end : (test : ℕ → Bool) (a : ℕ) → SEGMENTS ≤ a → find test (starts_from a) ≡ None
unfolding starts_from
find-starts_end test a past =
    let e : SEGMENTS - a ≡ 0 = omega (arith, past) in
    rw e refl

-- no run begins lower than the one that is found
pub find-starts_lowest : (test : ℕ → Bool) (k : ℕ) → find test (starts_from 0) ≡ Some k → (j : ℕ) → j < k → test j ≡ false
unfolding starts_from
find-starts_lowest test k found j below = find-range_lowest test 0 SEGMENTS k found j (omega arith) below

-- where none is found, none begins at any segment
pub find-starts_none : (test : ℕ → Bool) → find test (starts_from 0) ≡ None → (j : ℕ) → j < SEGMENTS → test j ≡ false
unfolding starts_from
find-starts_none test none j below = find-range_none test 0 SEGMENTS none j (omega arith) below

-- each run begins at one of the segments
pub starts-below : (first : ℕ) (test : ℕ → Bool) → find test (starts_from 0) ≡ Some first → first < SEGMENTS
unfolding starts_from
starts-below first test found = omega (arith, find-range_within test 0 SEGMENTS first found)
