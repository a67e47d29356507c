-- What a store of bytes somewhere in an object leaves there.
use Rattle.std.proofs.Common.{if◌then◌else◌, ◌≡◌, ◌<◌, ◌≤◌, ◌+◌, ◌-◌, ◌⊎◌, inl, inr, ℕ, zero, suc, Bool, true, false, ◌&&◌, max, Option, Some, None, List, [], ◌∷◌, ◌++◌, length, take, get_or, replicate, refl, ap, ◌∙◌, sym, arith}
use Rattle.std.specs.Prelude.{nat_le, nat_lt, slice_index}
use Rattle.std.proofs.Math.Seq.{take-suc, take-length}
use Rattle.std.proofs.lemmas.Bool.Decides.{nat_tests}
use Rattle.uid_names.specs.Names.{ProcName, ObjectName, same_uid}
use Rattle.uid_names.specs.Openings.{Start}
use Rattle.dom_history.specs.declared.op.Spot.{Spot}
use Rattle.dom_history.specs.StoreEffects.{StoreEffect, Makes, TakesLock, FreesLock, Deletes, Writes, Maps, Unmaps}
use Rattle.dom_history.specs.Mappings.{Target, target}
use Rattle.dom_history.specs.Bytes.{byte, byte_after, bytes_from, end_after, length_of}

-- a place of an object
abbrev pub at_place : ObjectName → ℕ → Target
at_place u n = record { uid = u; offset = n }

module _ (opening : Start) where
  -- what leaves each byte of a range leaves the range
  pub bytes_stay : (past later : List StoreEffect) (u : ObjectName) (o n : ℕ) → ((i : ℕ) → i < n → byte opening later u (o + i) ≡ byte opening past u (o + i)) → bytes_from opening later u o n ≡ bytes_from opening past u o n
  bytes_stay past later u o zero same = refl
  bytes_stay past later u o (suc n) same =
      ap (λ bytes. bytes ++ byte opening later u (o + n) ∷ []) (bytes_stay past later u o n (λ i h. same i (omega (arith, h))))
      ∙ ap (λ b. bytes_from opening past u o n ++ b ∷ []) (same n (omega arith))

  module _ (past : List StoreEffect) (p : ProcName) (spot : Spot) (bytes : List ℕ) (u : ObjectName) (n : ℕ) (at : target opening past p spot ≡ Some (at_place u n)) where
    abbrev pub written : List StoreEffect
    written = Writes p spot bytes ∷ past

    byte_written : (i : ℕ) → byte opening written u i ≡ byte_after (Some (at_place u n)) bytes u i (byte opening past u i)
    byte_written i = ap (λ t. byte_after t bytes u i (byte opening past u i)) at

    -- before it and behind it bytes stay
    pub byte_before : (i : ℕ) → i < n → byte opening written u i ≡ byte opening past u i
    byte_before i h =
        let test : (same_uid u u && nat_le n i && nat_lt i (n + length bytes)) ≡ false = grind (arith, nat_tests, h) in
        byte_written i ∙ rw test refl

    pub byte_behind : (i : ℕ) → n + length bytes ≤ i → byte opening written u i ≡ byte opening past u i
    byte_behind i h =
        let test : (same_uid u u && nat_le n i && nat_lt i (n + length bytes)) ≡ false = grind (arith, nat_tests, h) in
        byte_written i ∙ rw test refl

    -- in it they are its own
    pub byte_at : (i : ℕ) → i < length bytes → byte opening written u (n + i) ≡ get_or bytes i 0
    byte_at i h =
        let test : (same_uid u u && nat_le n (n + i) && nat_lt (n + i) (n + length bytes)) ≡ true = grind (arith, nat_tests, h) in
        let place : n + i - n ≡ i = omega arith in
        byte_written (n + i) ∙ rw (test, place) refl

    pub length_written : length_of opening written u ≡ max (length_of opening past u) (n + length bytes)
    length_written =
        let own : same_uid u u ≡ true = grind (arith, nat_tests) in
        ap (λ t. end_after t bytes u (length_of opening past u)) at ∙ rw own refl

    -- a range apart from it stays
    pub range_stays : (o m : ℕ) → (o + m ≤ n) ⊎ (n + length bytes ≤ o) → bytes_from opening written u o m ≡ bytes_from opening past u o m
    range_stays o m (inl before) = bytes_stay past written u o m (λ i h. byte_before (o + i) (omega (arith, before, h)))
    range_stays o m (inr behind) = bytes_stay past written u o m (λ i h. byte_behind (o + i) (omega (arith, behind, h)))

    -- and its own is what was stored
    range_taken : (k : ℕ) → k ≤ length bytes → bytes_from opening written u n k ≡ take k bytes
    range_taken zero few = refl
    range_taken (suc k) few =
        ap (λ front. front ++ byte opening written u (n + k) ∷ []) (range_taken k (omega (arith, few)))
        ∙ ap (λ b. take k bytes ++ b ∷ []) (byte_at k (omega (arith, few)))
        ∙ sym (take-suc bytes k 0 (omega (arith, few)))

    pub range_stored : bytes_from opening written u n (length bytes) ≡ bytes
    range_stored = range_taken (length bytes) (omega arith) ∙ take-length bytes

    -- another object is as it was
    pub byte_elsewhere : (v : ObjectName) → same_uid u v ≡ false → (i : ℕ) → byte opening written v i ≡ byte opening past v i
    byte_elsewhere v other i = ap (λ t. byte_after t bytes v i (byte opening past v i)) at ∙ rw other refl

    pub length_elsewhere : (v : ObjectName) → same_uid u v ≡ false → length_of opening written v ≡ length_of opening past v
    length_elsewhere v other = ap (λ t. end_after t bytes v (length_of opening past v)) at ∙ rw other refl

  -- behind the length of an object there are zeros
  behind_end : (t : Option Target) (bytes : List ℕ) (u : ObjectName) (i before b : ℕ) → end_after t bytes u before ≤ i → (before ≤ i → b ≡ 0) → byte_after t bytes u i b ≡ 0
  behind_end None bytes u i before b far zero_there = zero_there far
  behind_end (Some t) bytes u i before b far zero_there = by_own (same_uid t.uid u) far
    where
      by_own : (own : Bool) → (if own then max before (t.offset + length bytes) else before) ≤ i → (if own && nat_le t.offset i && nat_lt i (t.offset + length bytes) then slice_index bytes (i - t.offset) else b) ≡ 0
      by_own false h = zero_there h
      by_own true h =
          let out : (nat_le t.offset i && nat_lt i (t.offset + length bytes)) ≡ false = grind (arith, nat_tests, h) in
          rw out (zero_there (grind (arith, h)))

  pub zeros_behind : (past : List StoreEffect) (u : ObjectName) (i : ℕ) → length_of opening past u ≤ i → byte opening past u i ≡ 0
  zeros_behind [] u i h = refl
  zeros_behind (Writes p spot bytes ∷ past) u i h =
      behind_end (target opening past p spot) bytes u i (length_of opening past u) (byte opening past u i) h (zeros_behind past u i)
  zeros_behind (Makes object ∷ past) u i h = zeros_behind past u i h
  zeros_behind (TakesLock p v m ∷ past) u i h = zeros_behind past u i h
  zeros_behind (FreesLock p v ∷ past) u i h = zeros_behind past u i h
  zeros_behind (Deletes p v ∷ past) u i h = zeros_behind past u i h
  zeros_behind (Maps p v a ∷ past) u i h = zeros_behind past u i h
  zeros_behind (Unmaps p v ∷ past) u i h = zeros_behind past u i h

  -- so a range behind it is zeros
  pub range_of_zeros : (past : List StoreEffect) (u : ObjectName) (o n : ℕ) → ((i : ℕ) → i < n → byte opening past u (o + i) ≡ 0) → bytes_from opening past u o n ≡ replicate n 0
  range_of_zeros past u o zero same = refl
  range_of_zeros past u o (suc n) same =
      ap (λ front. front ++ byte opening past u (o + n) ∷ []) (range_of_zeros past u o n (λ i h. same i (omega (arith, h))))
      ∙ ap (λ (b : ℕ). replicate n 0 ++ b ∷ []) (same n (omega arith))
      ∙ one_more n 0
    where
      one_more : (n a : ℕ) → replicate n a ++ a ∷ [] ≡ replicate (suc n) a
      one_more zero a = refl
      one_more (suc n) a = ap (λ zs. a ∷ zs) (one_more n a)
