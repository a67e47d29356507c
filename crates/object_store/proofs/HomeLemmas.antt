-- Each change of a home keeps what each home keeps.
use Rattle.std.proofs.Common.{◌≡◌, ℕ, ◌+◌, ◌-◌, ◌*◌, ◌^◌, ◌<◌, ◌≤◌, ◌==◌, List, [], ◌∷◌, ◌++◌, length, ◌∙◌, subst, refl, arith}
use Rattle.std.specs.Prelude.{Bool, true, false, ◌&&◌, if◌then◌else◌, Some, None}
use Rattle.std.proofs.lemmas.Bool.{eqb-true, and_parts}
use Rattle.std.proofs.lemmas.List.Sums.{sum_by_push}
use Rattle.std.proofs.lemmas.List.{length-replicate}
use Rattle.uid_names.specs.declared.limits.TheConstants.{MAX_ROOM, VOLUME_ROOM, PAGE_BYTES}
use Rattle.uid_names.specs.declared.mode.ObjKind.{ObjKind}
use Rattle.page_store.specs.Volumes.{page_of, zeros}
use Rattle.page_store.proofs.VolumeLemmas.{page_of-with_page, page_of-without_object}
use Rattle.object_store.specs.declared.attributes.Attr.{Attr}
use Rattle.object_store.specs.declared.attributes.ObjectRow.{ObjectRow}
use Rattle.object_store.specs.Objects.{attr_at, room_of, rooms, fresh, stamped, resized}
use Rattle.uid_names.specs.Names.{ObjectName}
use Rattle.object_store.specs.HomeStates.{HomeState, attr_of, next_row, after_make, after_remove, after_page, after_length}
use Rattle.object_store.specs.Kept.{IsAttr, IsHome, AreRowsUpTo}
use Rattle.object_store.proofs.RowLemmas.{attr_at-high, attr_at-push, AreCountersRising-push, AreRowsUpTo-push, AreCountersRising-with_change, AreRowsUpTo-with_change, rooms-with_change, room-with_change, AreCountersRising-without_row, AreRowsUpTo-without_row, rooms-without_row-le, attr_at-without_row}

-- a page of zeros is whole
pub length-zeros : length zeros ≡ PAGE_BYTES
unfolding zeros
length-zeros = length-replicate {A = ℕ} PAGE_BYTES 0

-- of two whole pages each is whole
whole_if : (b : Bool) (one other : List ℕ) → length one ≡ PAGE_BYTES → length other ≡ PAGE_BYTES → length (if b then one else other) ≡ PAGE_BYTES
whole_if true one other first second = first
whole_if false one other first second = second

-- a fresh object is in its ranges
pub IsAttr-fresh : (kind : ObjKind) (room : ℕ) → 1 ≤ room → room ≤ MAX_ROOM → IsAttr (fresh kind room)
IsAttr-fresh kind room low high = record { room_low = low; room_high = high; length_high = omega arith; stamp_low = omega arith }

-- a room that was found is found after a making
room-push : (greatest q : ℕ) (rows : List ObjectRow) (row : ObjectRow) → AreRowsUpTo greatest rows → greatest < row.counter → room_of (attr_at rows q) ≤ room_of (attr_at (rows ++ row ∷ []) q)
room-push greatest q rows row within lt = rw (attr_at-push greatest q rows row within lt) (by (q == row.counter) refl)
  where
    by : (b : Bool) → (q == row.counter) ≡ b → room_of (attr_at rows q) ≤ room_of (if b then Some row.attr else attr_at rows q)
    by true is =
        let one : q ≡ row.counter = eqb-true q row.counter is in
        rw (attr_at-high greatest q rows within (omega arith)) (omega arith)
    by false is = omega arith

-- a home stays one when an object is made
pub IsHome-after_make : (home : HomeState) (kind : ObjKind) (room : ℕ) → IsHome home → 1 ≤ room → room ≤ MAX_ROOM → rooms home.objects + room ≤ VOLUME_ROOM
    → IsHome (after_make home kind room)
IsHome-after_make home kind room kept low high fits = record {
  rising = AreCountersRising-push 0 home.greatest home.objects (next_row home kind room) (omega arith) kept.rising kept.rows (omega arith);
  rows = AreRowsUpTo-push home.greatest home.objects (next_row home kind room) kept.rows (omega arith) (IsAttr-fresh kind room low high);
  fits = rw sum_by_push fits;
  whole = kept.whole;
  blank = λ q page past. kept.blank q page (omega (arith, room-push home.greatest q home.objects (next_row home kind room) kept.rows (omega arith)));
}

-- the pages of the next counter are zeros
pub next-blank : (home : HomeState) (page : ℕ) → IsHome home → page_of home.pages (home.greatest + 1) page ≡ zeros
next-blank home page kept = kept.blank (home.greatest + 1) page (rw (attr_at-high home.greatest (home.greatest + 1) home.objects kept.rows (omega arith)) (omega arith))

-- a home stays one when an object is removed
pub IsHome-after_remove : (home : HomeState) (counter : ℕ) → IsHome home → IsHome (after_remove home counter)
IsHome-after_remove home counter kept = record {
  rising = AreCountersRising-without_row 0 counter home.objects kept.rising;
  rows = AreRowsUpTo-without_row home.greatest counter home.objects kept.rows;
  fits = omega (arith, kept.fits, rooms-without_row-le counter home.objects);
  whole = λ q k. rw (page_of-without_object home.pages counter q k) (whole_if (q == counter) zeros (page_of home.pages q k) length-zeros (kept.whole q k));
  blank = λ q page past. page_of-without_object home.pages counter q page ∙ by q page (q == counter) (rw (attr_at-without_row counter q home.objects) at past);
}
  where
    by : (q page : ℕ) (b : Bool) → room_of (if b then None else attr_at home.objects q) ≤ page → (if b then zeros else page_of home.pages q page) ≡ zeros
    by q page true past = refl
    by q page false past = kept.blank q page past

-- a home stays one when a page below the room is written
pub IsHome-after_page : (home : HomeState) (counter page : ℕ) (bytes : List ℕ) → IsHome home → page < room_of (attr_at home.objects counter) → length bytes ≡ PAGE_BYTES → IsHome (after_page home counter page bytes)
IsHome-after_page home counter page bytes kept below whole = record {
  rising = AreCountersRising-with_change stamped 0 counter home.objects kept.rising;
  rows = AreRowsUpTo-with_change stamped 0 home.greatest counter home.objects kept.rising kept.rows (λ attr _ range. record { room_low = range.room_low; room_high = range.room_high; length_high = range.length_high; stamp_low = omega arith });
  fits = rw (rooms-with_change stamped counter home.objects (λ attr. refl)) kept.fits;
  whole = λ q k. rw (page_of-with_page home.pages counter page bytes q k) (whole_if ((q == counter) && (k == page)) bytes (page_of home.pages q k) whole (kept.whole q k));
  blank = λ q k past.
      page_of-with_page home.pages counter page bytes q k
      ∙ by q k ((q == counter) && (k == page)) refl (rw (room-with_change stamped counter q home.objects (λ attr. refl)) at past);
}
  where
    by : (q k : ℕ) (b : Bool) → ((q == counter) && (k == page)) ≡ b → room_of (attr_at home.objects q) ≤ k → (if b then bytes else page_of home.pages q k) ≡ zeros
    by q k true is past =
        let parts = and_parts (q == counter) (k == page) is in
        let here : k ≡ page = eqb-true k page parts.1 in
        let inside : room_of (attr_at home.objects counter) ≤ k = subst (λ c. room_of (attr_at home.objects c) ≤ k) (eqb-true q counter parts.0) past in
        absurd (omega arith)
    by q k false is past = kept.blank q k past

-- a home stays one when a length within the room is written
pub IsHome-after_length : (home : HomeState) (counter length : ℕ) → IsHome home → length ≤ PAGE_BYTES * room_of (attr_at home.objects counter) → IsHome (after_length home counter length)
IsHome-after_length home counter length kept within = record {
  rising = AreCountersRising-with_change (resized length) 0 counter home.objects kept.rising;
  rows = AreRowsUpTo-with_change (resized length) 0 home.greatest counter home.objects kept.rising kept.rows
      (λ attr is range. record { room_low = range.room_low; room_high = range.room_high; length_high = rw is at within; stamp_low = omega arith });
  fits = rw (rooms-with_change (resized length) counter home.objects (λ attr. refl)) kept.fits;
  whole = kept.whole;
  blank = λ q k past. kept.blank q k (rw (room-with_change (resized length) counter q home.objects (λ attr. refl)) at past);
}

-- what is found in a home after a making
pub attr_at-after_make : (home : HomeState) (kind : ObjKind) (room q : ℕ) → IsHome home
    → attr_at (after_make home kind room).objects q ≡ (if q == home.greatest + 1 then Some (fresh kind room) else attr_at home.objects q)
attr_at-after_make home kind room q kept = attr_at-push home.greatest q home.objects (next_row home kind room) kept.rows (omega arith)

-- the attributes that are found are those of a row
IsAttr-attr_at : (greatest q : ℕ) (rows : List ObjectRow) (attr : Attr) → AreRowsUpTo greatest rows → attr_at rows q ≡ Some attr → IsAttr attr
IsAttr-attr_at greatest q [] attr within is = cc
IsAttr-attr_at greatest q (row ∷ rest) attr within is = by (row.counter == q) is (IsAttr-attr_at greatest q rest attr within.2)
  where
    by : (b : Bool) → (if b then Some row.attr else attr_at rest q) ≡ Some attr → (attr_at rest q ≡ Some attr → IsAttr attr) → IsAttr attr
    by true is later = let one : row.attr ≡ attr = cc in subst IsAttr one within.1
    by false is later = later is

-- the attributes of an object that is there
pub IsAttr-attr_of : (home : HomeState) (uid : ObjectName) (attr : Attr) → IsHome home → attr_of home uid ≡ Some attr → IsAttr attr
IsAttr-attr_of home uid attr kept = by (uid.home == home.node)
  where
    by : (b : Bool) → (if b then attr_at home.objects uid.counter else None) ≡ Some attr → IsAttr attr
    by true is = IsAttr-attr_at home.greatest uid.counter home.objects attr kept.rows is
    by false is = cc
