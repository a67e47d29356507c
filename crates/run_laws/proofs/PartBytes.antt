-- Bytes of a part of an object.
use Rattle.std.proofs.Common.{◌≡◌, ℕ, zero, suc, ◌+◌, ◌*◌, ◌/◌, ◌%◌, ◌<◌, ◌≤◌, List, [], ◌∷◌, ◌++◌, length, get_or, take, drop, inl, inr, refl, sym, ap, ◌∙◌, arith, length-drop, length-append}
use Rattle.std.proofs.Math.Seq.{take-suc, get_or-append_seam}
use Rattle.std.proofs.lemmas.List.{get_or_append_left, get_or-drop}
use Rattle.std.proofs.lemmas.Bool.{cases_eq}
use Rattle.uid_names.specs.Names.{ObjectName}
use Rattle.uid_names.specs.Openings.{Start}
use Rattle.uid_names.specs.declared.limits.TheConstants.{PAGE_BYTES}
use Rattle.dom_history.specs.StoreEffects.{StoreEffect}
use Rattle.dom_history.specs.Bytes.{byte, bytes_from}

module _ (opening : Start) (past : List StoreEffect) (u : ObjectName) where
  all_length : (o n : ℕ) → length (bytes_from opening past u o n) ≡ n
  all_length o zero = refl
  all_length o (suc n) = let e = all_length o n in length-append (bytes_from opening past u o n) (byte opening past u (o + n) ∷ []) ∙ omega (arith, e)

  byte-in : (o n i : ℕ) → i < n → get_or (bytes_from opening past u o n) i 0 ≡ byte opening past u (o + i)
  byte-in o zero i lt = absurd (omega (arith, lt))
  byte-in o (suc n) i lt =
      let whole = all_length o n in
      elim (cases_eq i n) [
        | inl last ↦ ap (λ k. get_or (bytes_from opening past u o n ++ byte opening past u (o + n) ∷ []) k 0) (last ∙ sym whole) ∙ get_or-append_seam (bytes_from opening past u o n) (byte opening past u (o + n)) [] 0 ∙ ap (λ k. byte opening past u (o + k)) (sym last)
        | inr before ↦ (let low : i < n = omega (arith, lt, before) in let f : i < length (bytes_from opening past u o n) = omega (arith, low, whole) in
            get_or_append_left (bytes_from opening past u o n) (byte opening past u (o + n) ∷ []) 0 i f ∙ byte-in o n i low)
      ]

  part : (o whole a n : ℕ) → a + n ≤ whole → take n (drop a (bytes_from opening past u o whole)) ≡ bytes_from opening past u (o + a) n
  part o whole a zero le = refl
  part o whole a (suc n) le =
      let xs = bytes_from opening past u o whole in
      let size = all_length o whole in
      let left = length-drop a xs in
      let within : n < length (drop a xs) = omega (arith, le, size, left) in
      let last : get_or (drop a xs) n 0 ≡ byte opening past u (o + a + n) = get_or-drop a xs n 0 ∙ byte-in o whole (a + n) (omega (arith, le)) ∙ ap (byte opening past u) (let e : o + (a + n) ≡ o + a + n = omega arith in e) in
      take-suc (drop a xs) n 0 within ∙ ap (λ ys. ys ++ get_or (drop a xs) n 0 ∷ []) (part o whole a n (omega (arith, le))) ∙ ap (λ b. bytes_from opening past u (o + a) n ++ b ∷ []) last

  -- bytes that lie in one page
  pub in-page : (o n : ℕ) (page : List ℕ) → page ≡ bytes_from opening past u (PAGE_BYTES * (o / PAGE_BYTES)) PAGE_BYTES → o % PAGE_BYTES + n ≤ PAGE_BYTES → take n (drop (o % PAGE_BYTES) page) ≡ bytes_from opening past u o n
  in-page o n page is le =
      ap (λ ys. take n (drop (o % PAGE_BYTES) ys)) is
      ∙ part (PAGE_BYTES * (o / PAGE_BYTES)) PAGE_BYTES (o % PAGE_BYTES) n le
      ∙ ap (λ k. bytes_from opening past u k n) (let e : PAGE_BYTES * (o / PAGE_BYTES) + o % PAGE_BYTES ≡ o = omega arith in e)
