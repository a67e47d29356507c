-- Lemmas on the loops over the slots, from the one used longest ago and from the one used last.
use Rattle.std.proofs.Common.{◌≡◌, ◌+◌, ◌<◌, Bool, true, false, not, ◌&&◌, cond, List, [], ◌∷◌, ◌++◌, map, reverse, Some, None, refl, sym, ap, ◌∙◌, arith, count_by}
use Rattle.std.proofs.lemmas.Bool.Decides.{nat_tests}
use Rattle.std.proofs.lemmas.List.{reverse-append, map-append}
use Rattle.std.specs.Option.{option_or}
use Rattle.page_frames.specs.declared.frame.Flags.{Flags}
use Rattle.page_frames.specs.Pools.{Pool, IsTaken, frame_in}
use Rattle.page_cache.specs.Caches.{Resident}
use Rattle.page_cache.specs.Victims.{oldest, is_clean_choice, is_dirty_choice}
use Rattle.page_cache.specs.Insides.{Slot, are_clean, slot_in, seen}
use Rattle.uid_names.proofs.ListLemmas.{count_by-cons, count_by-cons_passes, count_by-push, find-push}
use Rattle.uid_names.proofs.Somes.{option_or-none}
use Rattle.page_cache.proofs.CacheLemmas.{AreTaken, slot_limit-taken}
use Rattle.page_cache.proofs.PageLemmas.{reverse-cons, oldest-none, oldest-some}

-- a page is clean and not in transit as the flags of its frame say
pub is_clean_choice-seen : (pool : Pool) (s : Slot) (flags : Flags) (clean : Bool) → flags ≡ (frame_in pool s.1).flags → clean ≡ are_clean flags → is_clean_choice (seen pool s) ≡ clean
is_clean_choice-seen pool s flags clean of_frame is = sym (is ∙ ap are_clean of_frame)

-- and dirty and not in transit
pub is_dirty_choice-seen : (pool : Pool) (s : Slot) (flags : Flags) → flags ≡ (frame_in pool s.1).flags → is_dirty_choice (seen pool s) ≡ (flags.dirty && not flags.transit)
is_dirty_choice-seen pool s flags of_frame = sym (ap (λ f. f.dirty && not f.transit) of_frame)

-- two tests fail where one does
pub fails_either : (a b : Bool) → (a ≡ false) → (a && b) ≡ false
fails_either a b is = rw is refl

-- or of the other
pub fails_second : (a b : Bool) → b ≡ false → (a && b) ≡ false
fails_second true b is = is
fails_second false b is = refl

module _ (pool : Pool) (all rest : List Slot) (s : Slot) (is : all ≡ rest ++ s ∷ []) where
  -- the slots before the last
  pub AreTaken-before : AreTaken pool all → AreTaken pool rest
  AreTaken-before taken frame =
      let more = ap (λ (xs : List Slot). count_by (slot_in frame) xs) is in
      omega (arith, taken frame, more, count_by-push (slot_in frame) rest s, count_by-cons (slot_in frame) s rest)

  -- the last one's frame is taken
  pub IsTaken-last : AreTaken pool all → IsTaken pool s.1
  IsTaken-last taken =
      let more = ap (λ (xs : List Slot). count_by (slot_in s.1) xs) is in
      slot_limit-taken pool s.1 (omega (arith, taken s.1, more, count_by-push (slot_in s.1) rest s, count_by-cons_passes (slot_in s.1) s rest (grind (arith, nat_tests))))

  -- the last is the oldest where it passes, and else the oldest is before it
  oldest-last : (test : Resident → Bool) → oldest test (map (seen pool) all) ≡ cond (test (seen pool s)) (Some (seen pool s)) (oldest test (map (seen pool) rest))
  oldest-last test = rw (is, map-append (seen pool) rest (s ∷ []), reverse-append (map (seen pool) rest) (seen pool s ∷ [])) refl

  -- where the last passes, it is the oldest
  pub oldest-is_last : (test : Resident → Bool) → test (seen pool s) ≡ true → oldest test (map (seen pool) all) ≡ Some (seen pool s)
  oldest-is_last test passes = rw (oldest-last test, passes) refl

  -- where the last fails, the oldest is before it
  pub oldest-before : (test : Resident → Bool) → test (seen pool s) ≡ false → oldest test (map (seen pool) all) ≡ oldest test (map (seen pool) rest)
  oldest-before test fails = rw (oldest-last test, fails) refl

module _ (pool : Pool) (all rest : List Slot) (s : Slot) (is : all ≡ s ∷ rest) where
  -- the slots behind the first
  pub AreTaken-behind : AreTaken pool all → AreTaken pool rest
  AreTaken-behind taken frame =
      let more = ap (λ (xs : List Slot). count_by (slot_in frame) xs) is in
      omega (arith, taken frame, more, count_by-cons (slot_in frame) s rest)

  -- the first one's frame is taken
  pub IsTaken-first : AreTaken pool all → IsTaken pool s.1
  IsTaken-first taken =
      let more = ap (λ (xs : List Slot). count_by (slot_in s.1) xs) is in
      slot_limit-taken pool s.1 (omega (arith, taken s.1, more, count_by-cons_passes (slot_in s.1) s rest (grind (arith, nat_tests))))

  module _ (test : Resident → Bool) where
    -- the oldest is behind the first, or else the first where it passes
    oldest-first : oldest test (map (seen pool) all) ≡ option_or (oldest test (map (seen pool) rest)) (cond (test (seen pool s)) (Some (seen pool s)) None)
    oldest-first = rw (is, reverse-cons (seen pool s) (map (seen pool) rest)) (find-push test (reverse (map (seen pool) rest)) (seen pool s))

    -- one passes less where the first does
    pub count-first : count_by test (map (seen pool) all) ≡ cond (test (seen pool s)) 1 0 + count_by test (map (seen pool) rest)
    count-first = rw is (count_by-cons test (seen pool s) (map (seen pool) rest))

    -- where the first fails, the oldest is behind it
    pub oldest-behind_failed : test (seen pool s) ≡ false → oldest test (map (seen pool) all) ≡ oldest test (map (seen pool) rest)
    oldest-behind_failed fails = rw (oldest-first, fails) (option_or-none (oldest test (map (seen pool) rest)))

    -- so it is where some pass behind it
    pub oldest-behind_more : 0 < count_by test (map (seen pool) rest) → oldest test (map (seen pool) all) ≡ oldest test (map (seen pool) rest)
    oldest-behind_more some = oldest-first ∙ oldest-some test (map (seen pool) rest) _ some

    -- where the first is the only one that passes, it is the oldest
    pub oldest-is_first : test (seen pool s) ≡ true → count_by test (map (seen pool) rest) ≡ 0 → oldest test (map (seen pool) all) ≡ Some (seen pool s)
    oldest-is_first passes none = rw (oldest-first, oldest-none test (map (seen pool) rest) none, passes) refl
