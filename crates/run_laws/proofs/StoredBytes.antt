-- What a store leaves of each page of an object, and of its length.
use Rattle.std.proofs.Common.{◌≡◌, ◌≢◌, ℕ, suc, zero, ◌+◌, ◌-◌, ◌*◌, ◌/◌, ◌%◌, ◌<◌, ◌≤◌, Bool, true, false, List, [], ◌∷◌, ◌++◌, length, get_or, take, drop, Some, refl, sym, ◌∙◌, ap, arith, length-append}
use Rattle.std.specs.Prelude.{◌&&◌, nat_le, nat_lt, max, if◌then◌else◌}
use Rattle.std.proofs.Math.Seq.{get_or-append_right, take-append_seam, drop-append_seam}
use Rattle.std.proofs.lemmas.List.{append_assoc, get_or_append_left, get_or-take, get_or-drop, length-take-le, ext_get_or}
use Rattle.std.proofs.lemmas.Bool.{leb-true, leb-false}
use Rattle.std.proofs.lemmas.Bool.Decides.{nat_tests}
use Rattle.uid_names.specs.Names.{ProcName, ObjectName, same_uid}
use Rattle.uid_names.specs.Openings.{Start}
use Rattle.uid_names.specs.declared.limits.TheConstants.{PAGE_BYTES}
use Rattle.uid_names.proofs.ListLemmas.{by_cases}
use Rattle.dom_history.specs.declared.op.Spot.{Spot}
use Rattle.dom_history.specs.StoreEffects.{StoreEffect, Writes}
use Rattle.dom_history.specs.Bytes.{byte, byte_after, end_after, length_of, bytes_from}
use Rattle.dom_history.specs.Mappings.{target}
use Rattle.page_cache.specs.Changes.{spliced}
use Rattle.fault_handler.proofs.PageKeeps.{length-spliced}

-- bytes before those that were put in stay
spliced-below : (s i : ℕ) (old bytes : List ℕ) → i < s → s ≤ length old → get_or (spliced old s bytes) i 0 ≡ get_or old i 0
spliced-below s i old bytes h l =
    let front : i < length (take s old) = omega (arith, length-take-le s old l) in
    get_or_append_left (take s old) (bytes ++ drop (s + length bytes) old) 0 i front ∙ get_or-take s old i 0 h

spliced-inside : (s i : ℕ) (old bytes : List ℕ) → s ≤ i → i < s + length bytes → s ≤ length old → get_or (spliced old s bytes) i 0 ≡ get_or bytes (i - s) 0
spliced-inside s i old bytes a b l =
    let front : length (take s old) ≡ s = length-take-le s old l in
    let behind : length (take s old) ≤ i = omega arith in
    let within : i - s < length bytes = omega arith in
    get_or-append_right (take s old) (bytes ++ drop (s + length bytes) old) i 0 behind ∙ rw front (get_or_append_left bytes (drop (s + length bytes) old) 0 (i - s) within)

spliced-above : (s i : ℕ) (old bytes : List ℕ) → s + length bytes ≤ i → s ≤ length old → get_or (spliced old s bytes) i 0 ≡ get_or old i 0
spliced-above s i old bytes a l =
    let front : length (take s old) ≡ s = length-take-le s old l in
    let behind : length (take s old) ≤ i = omega arith in
    let past : length bytes ≤ i - s = omega arith in
    let place : s + length bytes + (i - s - length bytes) ≡ i = omega arith in
    get_or-append_right (take s old) (bytes ++ drop (s + length bytes) old) i 0 behind
    ∙ rw front (get_or-append_right bytes (drop (s + length bytes) old) (i - s) 0 past
    ∙ get_or-drop (s + length bytes) old (i - s - length bytes) 0
    ∙ ap (λ n. get_or old n 0) place)

-- by the tests on the offset x of index i, where the bytes are put at offset o, of index s
spliced-at : (from below : Bool) (old bytes : List ℕ) (low s i o x : ℕ) → o ≡ low + s → x ≡ low + i → s ≤ length old → nat_le o x ≡ from → nat_lt x (o + length bytes) ≡ below
    → get_or (spliced old s bytes) i 0 ≡ (if from && below then get_or bytes (x - o) 0 else get_or old i 0)
spliced-at false below old bytes low s i o x at_o at_x l e f = let under : x < o = leb-false o x e in spliced-below s i old bytes (omega (arith, under, at_o, at_x)) l
spliced-at true false old bytes low s i o x at_o at_x l e f = let above : o + length bytes ≤ x = grind (arith, nat_tests, f) in spliced-above s i old bytes (omega (arith, above, at_o, at_x)) l
spliced-at true true old bytes low s i o x at_o at_x l e f =
    let least : o ≤ x = leb-true o x e in
    let under : x < o + length bytes = grind (arith, nat_tests, f) in
    let place : i - s ≡ x - o = omega (arith, at_o, at_x, least) in
    spliced-inside s i old bytes (omega (arith, least, at_o, at_x)) (omega (arith, under, at_o, at_x)) l ∙ ap (λ n. get_or bytes n 0) place

-- to put the same bytes in again changes nothing, where a front of the page stands before them
pub put-again : (old bytes : List ℕ) (s : ℕ) → s ≤ length old → spliced (spliced old s bytes) s bytes ≡ spliced old s bytes
put-again old bytes s fits =
    let front : length (take s old) ≡ s = length-take-le s old fits in
    let rest = drop (s + length bytes) old in
    let one : take s (spliced old s bytes) ≡ take s old = ap (λ i. take i (spliced old s bytes)) (sym front) ∙ take-append_seam (take s old) (bytes ++ rest) in
    let low : length (take s old ++ bytes) ≡ s + length bytes = (let h = length-append (take s old) bytes in omega (arith, h, front)) in
    let two : drop (s + length bytes) (spliced old s bytes) ≡ rest = ap (λ i. drop i (spliced old s bytes)) (sym low) ∙ (ap (drop (length (take s old ++ bytes))) (sym (append_assoc (take s old) bytes rest)) ∙ drop-append_seam (take s old ++ bytes) rest) in
    ap (λ x. x ++ (bytes ++ drop (s + length bytes) (spliced old s bytes))) one ∙ ap (λ x. take s old ++ (bytes ++ x)) two

module _ (opening : Start) where
  pub length-bytes : (past : List StoreEffect) (u : ObjectName) (o n : ℕ) → length (bytes_from opening past u o n) ≡ n
  length-bytes past u o zero = refl
  length-bytes past u o (suc n) = let rest = length-bytes past u o n in let both = length-append (bytes_from opening past u o n) (byte opening past u (o + n) ∷ []) in omega (arith, rest, both)

  pub get-bytes : (past : List StoreEffect) (u : ObjectName) (o n i : ℕ) → i < n → get_or (bytes_from opening past u o n) i 0 ≡ byte opening past u (o + i)
  get-bytes past u o zero i under = absurd (omega (arith, under))
  get-bytes past u o (suc n) i under = by (nat_lt i n) refl (λ less. get-bytes past u o n i less)
    where
      whole : length (bytes_from opening past u o n) ≡ n
      whole = length-bytes past u o n

      by : (b : Bool) → nat_lt i n ≡ b → (i < n → get_or (bytes_from opening past u o n) i 0 ≡ byte opening past u (o + i)) → get_or (bytes_from opening past u o (suc n)) i 0 ≡ byte opening past u (o + i)
      by true e rest =
          let less : i < n = grind (arith, nat_tests, e) in
          get_or_append_left (bytes_from opening past u o n) (byte opening past u (o + n) ∷ []) 0 i (omega (arith, less, whole)) ∙ rest less
      by false e rest =
          let last : i ≡ n = (let f : n ≤ i = grind (arith, nat_tests, e) in omega (arith, f, under)) in
          let none : i - length (bytes_from opening past u o n) ≡ 0 = omega (arith, last, whole) in
          get_or-append_right (bytes_from opening past u o n) (byte opening past u (o + n) ∷ []) i 0 (omega (arith, last, whole))
          ∙ ap (λ j. get_or (byte opening past u (o + n) ∷ []) j 0) none ∙ ap (λ j. byte opening past u (o + j)) (sym last)

  -- a store
  module _ (past : List StoreEffect) (p : ProcName) (spot : Spot) (bytes : List ℕ) (v : ObjectName) (o : ℕ) (at : target opening past p spot ≡ Some (record { uid = v; offset = o })) (within : o % PAGE_BYTES + length bytes ≤ PAGE_BYTES) where
    abbrev later : List StoreEffect
    later = Writes p spot bytes ∷ past

    abbrev page : List StoreEffect → ObjectName → ℕ → List ℕ
    page effects u k = bytes_from opening effects u (PAGE_BYTES * k) PAGE_BYTES

    byte-later : (u : ObjectName) (x : ℕ) → byte opening later u x ≡ (if same_uid v u && nat_le o x && nat_lt x (o + length bytes) then get_or bytes (x - o) 0 else byte opening past u x)
    byte-later u x = ap (λ t. byte_after t bytes u x (byte opening past u x)) at

    here : (u : ObjectName) → same_uid v u ≡ true → (x : ℕ) → byte opening later u x ≡ (if nat_le o x && nat_lt x (o + length bytes) then get_or bytes (x - o) 0 else byte opening past u x)
    here u same x = byte-later u x ∙ ap (λ b. if b && nat_le o x && nat_lt x (o + length bytes) then get_or bytes (x - o) 0 else byte opening past u x) same

    pub page-put : (u : ObjectName) → same_uid v u ≡ true → spliced (page past u (o / PAGE_BYTES)) (o % PAGE_BYTES) bytes ≡ page later u (o / PAGE_BYTES)
    page-put u same =
        let k = o / PAGE_BYTES in
        let s = o % PAGE_BYTES in
        let whole : length (page past u k) ≡ PAGE_BYTES = length-bytes past u (PAGE_BYTES * k) PAGE_BYTES in
        let left : length (spliced (page past u k) s bytes) ≡ length (page later u k) = length-spliced (page past u k) s bytes (omega (arith, within, whole)) ∙ whole ∙ sym (length-bytes later u (PAGE_BYTES * k) PAGE_BYTES) in
        ext_get_or 0 _ _ left (λ i under.
        let low : i < PAGE_BYTES = (let f = length-bytes later u (PAGE_BYTES * k) PAGE_BYTES in omega (arith, under, left, f)) in
        let at_o : o ≡ PAGE_BYTES * k + s = omega arith in
        spliced-at (nat_le o (PAGE_BYTES * k + i)) (nat_lt (PAGE_BYTES * k + i) (o + length bytes)) (page past u k) bytes (PAGE_BYTES * k) s i o (PAGE_BYTES * k + i) at_o refl (omega (arith, within, whole)) refl refl
        ∙ ap (λ y. if nat_le o (PAGE_BYTES * k + i) && nat_lt (PAGE_BYTES * k + i) (o + length bytes) then get_or bytes (PAGE_BYTES * k + i - o) 0 else y) (get-bytes past u (PAGE_BYTES * k) PAGE_BYTES i low)
        ∙ sym (here u same (PAGE_BYTES * k + i)) ∙ sym (get-bytes later u (PAGE_BYTES * k) PAGE_BYTES i low))

    pub page-again : (u : ObjectName) → same_uid v u ≡ true → spliced (page later u (o / PAGE_BYTES)) (o % PAGE_BYTES) bytes ≡ page later u (o / PAGE_BYTES)
    page-again u same =
        let k = o / PAGE_BYTES in
        let whole = length-bytes past u (PAGE_BYTES * k) PAGE_BYTES in
        ap (λ x. spliced x (o % PAGE_BYTES) bytes) (sym (page-put u same)) ∙ put-again (page past u k) bytes (o % PAGE_BYTES) (omega (arith, within, whole)) ∙ page-put u same

    -- another object's bytes stay
    byte-apart : (u : ObjectName) → same_uid v u ≡ false → (x : ℕ) → byte opening later u x ≡ byte opening past u x
    byte-apart u differs x = byte-later u x ∙ ap (λ b. if b && nat_le o x && nat_lt x (o + length bytes) then get_or bytes (x - o) 0 else byte opening past u x) differs

    elsewhere : (from below : Bool) (k x i a b : ℕ) → x ≡ PAGE_BYTES * k + i → i < PAGE_BYTES → k ≢ o / PAGE_BYTES → nat_le o x ≡ from → nat_lt x (o + length bytes) ≡ below → (if from && below then a else b) ≡ b
    elsewhere false below k x i a b is low other e f = refl
    elsewhere true false k x i a b is low other e f = refl
    elsewhere true true k x i a b is low other e f =
        let least : o ≤ x = leb-true o x e in
        let under : x < o + length bytes = grind (arith, nat_tests, f) in
        absurd (other (let number : k ≡ o / PAGE_BYTES = omega (arith, least, under, is, low, within) in number))

    pub page-elsewhere : (u : ObjectName) (k : ℕ) → k ≢ o / PAGE_BYTES → page later u k ≡ page past u k
    page-elsewhere u k other =
        let one = length-bytes later u (PAGE_BYTES * k) PAGE_BYTES in
        ext_get_or 0 _ _ (one ∙ sym (length-bytes past u (PAGE_BYTES * k) PAGE_BYTES)) (λ i under.
        let low : i < PAGE_BYTES = omega (arith, under, one) in
        get-bytes later u (PAGE_BYTES * k) PAGE_BYTES i low ∙ at-index i low ∙ sym (get-bytes past u (PAGE_BYTES * k) PAGE_BYTES i low))
      where
        at-index : (i : ℕ) → i < PAGE_BYTES → byte opening later u (PAGE_BYTES * k + i) ≡ byte opening past u (PAGE_BYTES * k + i)
        at-index i low = by_cases (same_uid v u) (byte opening later u (PAGE_BYTES * k + i) ≡ byte opening past u (PAGE_BYTES * k + i))
            (λ same. here u same (PAGE_BYTES * k + i) ∙ elsewhere (nat_le o (PAGE_BYTES * k + i)) (nat_lt (PAGE_BYTES * k + i) (o + length bytes)) k (PAGE_BYTES * k + i) i _ _ refl low other refl refl)
            (λ differs. byte-apart u differs (PAGE_BYTES * k + i))

    -- another object's pages and length stay
    pub page-apart : (u : ObjectName) → same_uid v u ≡ false → (k : ℕ) → page later u k ≡ page past u k
    page-apart u differs k =
        let one = length-bytes later u (PAGE_BYTES * k) PAGE_BYTES in
        ext_get_or 0 _ _ (one ∙ sym (length-bytes past u (PAGE_BYTES * k) PAGE_BYTES)) (λ i under.
        let low : i < PAGE_BYTES = omega (arith, under, one) in
        get-bytes later u (PAGE_BYTES * k) PAGE_BYTES i low ∙ byte-apart u differs (PAGE_BYTES * k + i) ∙ sym (get-bytes past u (PAGE_BYTES * k) PAGE_BYTES i low))

    length-later : (u : ObjectName) → length_of opening later u ≡ (if same_uid v u then max (length_of opening past u) (o + length bytes) else length_of opening past u)
    length-later u = ap (λ t. end_after t bytes u (length_of opening past u)) at

    pub length-put : (u : ObjectName) → same_uid v u ≡ true → length_of opening later u ≡ max (length_of opening past u) (o + length bytes)
    length-put u same = length-later u ∙ ap (λ b. if b then max (length_of opening past u) (o + length bytes) else length_of opening past u) same

    pub length-apart : (u : ObjectName) → same_uid v u ≡ false → length_of opening later u ≡ length_of opening past u
    length-apart u differs = length-later u ∙ ap (λ b. if b then max (length_of opening past u) (o + length bytes) else length_of opening past u) differs
