-- The bytes of objects: how ranges are joined, and what a store puts behind them.
use Rattle.std.proofs.Common.{◌≡◌, ◌<◌, ◌≤◌, ◌+◌, ◌-◌, ℕ, zero, suc, true, false, ◌&&◌, max, Some, List, [], ◌∷◌, ◌++◌, length, take, get_or, refl, ap, ◌∙◌, sym, arith, append-nil, length-append}
use Rattle.std.specs.Prelude.{nat_le, nat_lt}
use Rattle.std.proofs.Math.Seq.{take-suc, take-length}
use Rattle.std.proofs.lemmas.Bool.Decides.{nat_tests}
use Rattle.std.proofs.lemmas.List.{append_assoc}
use Rattle.uid_names.specs.Names.{ProcName, ObjectName, same_uid}
use Rattle.uid_names.specs.Openings.{Start}
use Rattle.dom_history.specs.declared.op.Spot.{Spot}
use Rattle.dom_history.specs.StoreEffects.{StoreEffect, Writes}
use Rattle.dom_history.specs.Mappings.{target}
use Rattle.dom_history.specs.Bytes.{byte, byte_after, length_of, end_after, bytes_from}
use Rattle.mapped_streams.specs.OneStore.{content}

module _ (opening : Start) where
  -- two ranges that meet
  pub bytes_joined : (past : List StoreEffect) (u : ObjectName) (o n m : ℕ) → bytes_from opening past u o n ++ bytes_from opening past u (o + n) m ≡ bytes_from opening past u o (n + m)
  bytes_joined past u o n zero = append-nil (bytes_from opening past u o n) ∙ ap (λ m. bytes_from opening past u o m) (no_more n)
    where
      no_more : (n : ℕ) → n ≡ n + 0
      no_more n = omega arith
  bytes_joined past u o n (suc m) =
      let place : o + n + m ≡ o + (n + m) = omega arith in
      sym (append_assoc (bytes_from opening past u o n) (bytes_from opening past u (o + n) m) (byte opening past u (o + n + m) ∷ []))
      ∙ ap (λ bytes. bytes ++ byte opening past u (o + n + m) ∷ []) (bytes_joined past u o n m)
      ∙ ap (λ i. bytes_from opening past u o (n + m) ++ byte opening past u i ∷ []) place
      ∙ ap (λ k. bytes_from opening past u o k) (one_more n m)
    where
      one_more : (n m : ℕ) → suc (n + m) ≡ n + suc m
      one_more n m = omega arith

  -- what leaves each byte leaves a range
  pub bytes_stay : (past later : List StoreEffect) (u : ObjectName) (o n : ℕ) → ((i : ℕ) → i < n → byte opening later u (o + i) ≡ byte opening past u (o + i)) → bytes_from opening later u o n ≡ bytes_from opening past u o n
  bytes_stay past later u o zero same = refl
  bytes_stay past later u o (suc n) same =
      ap (λ bytes. bytes ++ byte opening later u (o + n) ∷ []) (bytes_stay past later u o n (λ i h. same i (omega (arith, h))))
      ∙ ap (λ b. bytes_from opening past u o n ++ b ∷ []) (same n (omega arith))

  -- bytes that are those of a list are that list
  bytes_taken : (past : List StoreEffect) (u : ObjectName) (o : ℕ) (xs : List ℕ) (k : ℕ) → k ≤ length xs → ((i : ℕ) → i < length xs → byte opening past u (o + i) ≡ get_or xs i 0) → bytes_from opening past u o k ≡ take k xs
  bytes_taken past u o xs zero few same = refl
  bytes_taken past u o xs (suc k) few same =
      ap (λ bytes. bytes ++ byte opening past u (o + k) ∷ []) (bytes_taken past u o xs k (omega (arith, few)) same)
      ∙ ap (λ b. take k xs ++ b ∷ []) (same k (omega (arith, few)))
      ∙ sym (take-suc xs k 0 (omega (arith, few)))

  bytes_are : (past : List StoreEffect) (u : ObjectName) (o : ℕ) (xs : List ℕ) → ((i : ℕ) → i < length xs → byte opening past u (o + i) ≡ get_or xs i 0) → bytes_from opening past u o (length xs) ≡ xs
  bytes_are past u o xs same = bytes_taken past u o xs (length xs) (omega arith) same ∙ take-length xs

  -- a store of bytes at the end of an object
  module _ (past : List StoreEffect) (p : ProcName) (spot : Spot) (bytes : List ℕ) (u : ObjectName) (n : ℕ) (at : target opening past p spot ≡ Some (record { uid = u; offset = n })) where
    -- the effects behind it
    abbrev pub written : List StoreEffect
    written = Writes p spot bytes ∷ past

    byte_written : (i : ℕ) → byte opening written u i ≡ byte_after (Some (record { uid = u; offset = n })) bytes u i (byte opening past u i)
    byte_written i = ap (λ t. byte_after t bytes u i (byte opening past u i)) at

    byte_before : (i : ℕ) → i < n → byte opening written u i ≡ byte opening past u i
    byte_before i h =
        let test : (same_uid u u && nat_le n i && nat_lt i (n + length bytes)) ≡ false = grind (arith, nat_tests, h) in
        byte_written i ∙ rw test refl

    byte_at : (i : ℕ) → i < length bytes → byte opening written u (n + i) ≡ get_or bytes i 0
    byte_at i h =
        let test : (same_uid u u && nat_le n (n + i) && nat_lt (n + i) (n + length bytes)) ≡ true = grind (arith, nat_tests, h) in
        let place : n + i - n ≡ i = omega arith in
        byte_written (n + i) ∙ rw (test, place) refl

    none_before : (n : ℕ) → 0 + n ≡ n
    none_before n = omega arith

    pub length_written : length_of opening past u ≡ n → length_of opening written u ≡ n + length bytes
    length_written long =
        let own : same_uid u u ≡ true = grind (arith, nat_tests) in
        let greatest : max n (n + length bytes) ≡ n + length bytes = omega arith in
        ap (λ t. end_after t bytes u (length_of opening past u)) at ∙ rw (own, long, greatest) refl

    -- puts them behind what was there
    pub content_written : length_of opening past u ≡ n → bytes_from opening written u 0 (n + length bytes) ≡ bytes_from opening past u 0 n ++ bytes
    content_written long =
        sym (bytes_joined written u 0 n (length bytes))
        ∙ ap (λ front. front ++ bytes_from opening written u (0 + n) (length bytes)) (bytes_stay past written u 0 n (λ i h. byte_before (0 + i) (omega (arith, h))))
        ∙ ap (λ o. bytes_from opening past u 0 n ++ bytes_from opening written u o (length bytes)) (none_before n)
        ∙ ap (λ back. bytes_from opening past u 0 n ++ back) (bytes_are written u n bytes byte_at)

    -- and leaves each other object
    pub byte_elsewhere : (v : ObjectName) → same_uid u v ≡ false → (i : ℕ) → byte opening written v i ≡ byte opening past v i
    byte_elsewhere v other i = ap (λ t. byte_after t bytes v i (byte opening past v i)) at ∙ rw other refl

  -- as many bytes as are asked for
  pub length_of_bytes : (past : List StoreEffect) (u : ObjectName) (o n : ℕ) → length (bytes_from opening past u o n) ≡ n
  length_of_bytes past u o zero = refl
  length_of_bytes past u o (suc n) = grind (arith, length-append, length_of_bytes past u o n)

  -- what leaves the bytes and the length of an object leaves what it holds
  pub content_stays : (past later : List StoreEffect) (u : ObjectName) → length_of opening later u ≡ length_of opening past u → ((i : ℕ) → byte opening later u i ≡ byte opening past u i) → content opening later u ≡ content opening past u
  content_stays past later u long same =
      ap (λ n. bytes_from opening later u 0 n) long ∙ bytes_stay past later u 0 (length_of opening past u) (λ i h. same (0 + i))
