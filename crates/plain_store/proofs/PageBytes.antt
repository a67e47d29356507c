-- Bytes in pages.
use Rattle.std.proofs.Common.{◌≡◌, ℕ, suc, zero, ◌+◌, ◌-◌, ◌/◌, ◌%◌, ◌<◌, ◌≤◌, Bool, true, false, cond, List, ◌++◌, length, get_or, take, drop, refl, sym, ◌∙◌, ap, arith, length-drop}
use Rattle.std.specs.Prelude.{◌==◌, ◌&&◌, nat_le, nat_lt, if◌then◌else◌, Option, Some, unwrap_or}
use Rattle.std.proofs.Math.Seq.{get_or-append_right, take-suc}
use Rattle.std.proofs.lemmas.List.{get_or_append_left, get_or-take, get_or-drop, length-take-le}
use Rattle.std.proofs.lemmas.Bool.{leb-true, leb-false, eqb-true, eqb-false}
use Rattle.std.proofs.lemmas.Bool.Decides.{nat_tests}
use borrow.Rule.Slice.PartMut.{put_mid, post_of}
use Rattle.uid_names.specs.Names.{ObjectName}
use Rattle.uid_names.specs.Openings.{Start}
use Rattle.uid_names.specs.declared.limits.TheConstants.{PAGE_BYTES}
use Rattle.plain_store.specs.declared.pages.Pages.{Pages}
use Rattle.dom_history.specs.StoreEffects.{StoreEffect}
use Rattle.dom_history.specs.Bytes.{byte, bytes_from}
use Rattle.plain_store.specs.KeptPages.{page_in, HoldBytes}

-- bytes before those that were put in stay
put-below : (s k i : ℕ) (page bytes : List ℕ) → i < s → s ≤ length page → get_or (put_mid s k page bytes) i 0 ≡ get_or page i 0
put-below s k i page bytes h l =
    let front : i < length (take s page) = omega (arith, length-take-le s page l) in
    get_or_append_left (take s page) (bytes ++ post_of s k page) 0 i front ∙ get_or-take s page i 0 h

-- the bytes that were put in
put-inside : (s k i : ℕ) (page bytes : List ℕ) → s ≤ i → i < s + length bytes → s ≤ length page → get_or (put_mid s k page bytes) i 0 ≡ get_or bytes (i - s) 0
put-inside s k i page bytes a b l =
    let front : length (take s page) ≡ s = length-take-le s page l in
    let behind : length (take s page) ≤ i = omega arith in
    let within : i - s < length bytes = omega arith in
    get_or-append_right (take s page) (bytes ++ post_of s k page) i 0 behind ∙ rw front (get_or_append_left bytes (post_of s k page) 0 (i - s) within)

-- bytes behind those that were put in stay
put-above : (s k i : ℕ) (page bytes : List ℕ) → s + length bytes ≤ i → s ≤ length page → k ≡ length bytes → get_or (put_mid s k page bytes) i 0 ≡ get_or page i 0
put-above s k i page bytes a l e =
    let front : length (take s page) ≡ s = length-take-le s page l in
    let behind : length (take s page) ≤ i = omega arith in
    let past : length bytes ≤ i - s = omega arith in
    let place : s + (k + (i - s - length bytes)) ≡ i = omega arith in
    get_or-append_right (take s page) (bytes ++ post_of s k page) i 0 behind
    ∙ rw front (get_or-append_right bytes (post_of s k page) (i - s) 0 past
    ∙ get_or-drop k (drop s page) (i - s - length bytes) 0
    ∙ get_or-drop s page (k + (i - s - length bytes)) 0
    ∙ ap (λ n. get_or page n 0) place)

-- the byte at o in the page of a store, by the tests on o
stored-here : (from below : Bool) (page bytes : List ℕ) (at o k kept : ℕ) → at % PAGE_BYTES + length bytes ≤ PAGE_BYTES → length page ≡ PAGE_BYTES → k ≡ length bytes
    → nat_le at o ≡ from → nat_lt o (at + length bytes) ≡ below → at / PAGE_BYTES ≡ o / PAGE_BYTES → get_or page (o % PAGE_BYTES) 0 ≡ kept
    → get_or (put_mid (at % PAGE_BYTES) k page bytes) (o % PAGE_BYTES) 0 ≡ (if from && below then get_or bytes (o - at) 0 else kept)
stored-here false below page bytes at o k kept h l e f b n was =
    let under : o < at = leb-false at o f in
    put-below (at % PAGE_BYTES) k (o % PAGE_BYTES) page bytes (omega arith) (omega arith) ∙ was
stored-here true false page bytes at o k kept h l e f b n was =
    let above : at + length bytes ≤ o = grind (arith, nat_tests, b) in
    put-above (at % PAGE_BYTES) k (o % PAGE_BYTES) page bytes (omega arith) (omega arith) e ∙ was
stored-here true true page bytes at o k kept h l e f b n was =
    let least : at ≤ o = leb-true at o f in
    let under : o < at + length bytes = grind (arith, nat_tests, b) in
    let place : o % PAGE_BYTES - at % PAGE_BYTES ≡ o - at = omega arith in
    put-inside (at % PAGE_BYTES) k (o % PAGE_BYTES) page bytes (omega arith) (omega arith) (omega arith) ∙ ap (λ i. get_or bytes i 0) place

-- bytes within one page are at no offset of another
stored-elsewhere : (from below : Bool) (at o n x y : ℕ) → at % PAGE_BYTES + n ≤ PAGE_BYTES → (at / PAGE_BYTES == o / PAGE_BYTES) ≡ false → nat_le at o ≡ from → nat_lt o (at + n) ≡ below → y ≡ (if from && below then x else y)
stored-elsewhere false below at o n x y h ne f b = refl
stored-elsewhere true false at o n x y h ne f b = refl
stored-elsewhere true true at o n x y h ne f b =
    let least : at ≤ o = leb-true at o f in
    let under : o < at + n = grind (arith, nat_tests, b) in
    let number : at / PAGE_BYTES ≡ o / PAGE_BYTES = omega arith in
    absurd (eqb-false (at / PAGE_BYTES) (o / PAGE_BYTES) ne number)

-- the byte at o after a store, by the tests on object and page
pub stored-byte : (same paged : Bool) (old : Option (List ℕ)) (page zeros bytes : List ℕ) (at o k : ℕ) → at % PAGE_BYTES + length bytes ≤ PAGE_BYTES → length page ≡ PAGE_BYTES → k ≡ length bytes
    → (at / PAGE_BYTES == o / PAGE_BYTES) ≡ paged → (same ≡ true → at / PAGE_BYTES ≡ o / PAGE_BYTES → unwrap_or old zeros ≡ page)
    → get_or (unwrap_or (cond (same && paged) (Some (put_mid (at % PAGE_BYTES) k page bytes)) old) zeros) (o % PAGE_BYTES) 0 ≡ (if (same && nat_le at o) && nat_lt o (at + length bytes) then get_or bytes (o - at) 0 else get_or (unwrap_or old zeros) (o % PAGE_BYTES) 0)
stored-byte false paged old page zeros bytes at o k h l e pe was = refl
stored-byte true false old page zeros bytes at o k h l e pe was =
    stored-elsewhere (nat_le at o) (nat_lt o (at + length bytes)) at o (length bytes) _ (get_or (unwrap_or old zeros) (o % PAGE_BYTES) 0) h pe refl refl
stored-byte true true old page zeros bytes at o k h l e pe was =
    let number : at / PAGE_BYTES ≡ o / PAGE_BYTES = eqb-true (at / PAGE_BYTES) (o / PAGE_BYTES) pe in
    stored-here (nat_le at o) (nat_lt o (at + length bytes)) page bytes at o k (get_or (unwrap_or old zeros) (o % PAGE_BYTES) 0) h l e refl refl number (ap (λ p. get_or p (o % PAGE_BYTES) 0) (sym (was refl number)))

-- bytes of one page are what the stores left
pub kept-bytes : (pages : Pages) (u : ObjectName) (o n : ℕ) (opening : Start) (past : List StoreEffect) → HoldBytes pages opening past → o % PAGE_BYTES + n ≤ PAGE_BYTES → length (page_in pages u (o / PAGE_BYTES)) ≡ PAGE_BYTES → take n (drop (o % PAGE_BYTES) (page_in pages u (o / PAGE_BYTES))) ≡ bytes_from opening past u o n
kept-bytes pages u o zero opening past held h l = refl
kept-bytes pages u o (suc n) opening past held h l =
    let within : n < length (drop (o % PAGE_BYTES) (page_in pages u (o / PAGE_BYTES))) = omega (arith, length-drop (o % PAGE_BYTES) (page_in pages u (o / PAGE_BYTES))) in
    let number : (o + n) / PAGE_BYTES ≡ o / PAGE_BYTES = omega arith in
    let place : (o + n) % PAGE_BYTES ≡ o % PAGE_BYTES + n = omega arith in
    let rest : take n (drop (o % PAGE_BYTES) (page_in pages u (o / PAGE_BYTES))) ≡ bytes_from opening past u o n = kept-bytes pages u o n opening past held (omega arith) l in
    let last : get_or (drop (o % PAGE_BYTES) (page_in pages u (o / PAGE_BYTES))) n 0 ≡ byte opening past u (o + n) =
    get_or-drop (o % PAGE_BYTES) (page_in pages u (o / PAGE_BYTES)) n 0 ∙ rw (← place, ← number) (held.bytes u (o + n)) in
    rw (take-suc (drop (o % PAGE_BYTES) (page_in pages u (o / PAGE_BYTES))) n 0 within, rest, last) refl
