-- What the fields of a home are when a call is over.
use Rattle.std.proofs.Common.{◌≡◌, ℕ, ◌+◌, ◌-◌, ◌*◌, ◌^◌, ◌<◌, ◌≤◌, ◌==◌, List, [], ◌∷◌, ◌++◌, length, get_or, set, ap, sym, ◌∙◌, subst, refl, arith}
use Rattle.std.specs.Prelude.{Bool, true, false, nat_lt, nat_le, if◌then◌else◌, Some, Result, Ok, Err, is_ok, is_err, OnOk}
use Rattle.std.specs.List.{remove}
use Rattle.std.proofs.lemmas.Bool.{ltb-true, leb-true}
use Rattle.std.proofs.lemmas.List.{get_or_default}
use Rattle.std.proofs.lemmas.List.Sums.{sum_by_push, sum_by-remove}
use Rattle.uid_names.specs.Names.{ObjectName}
use Rattle.uid_names.specs.declared.limits.TheConstants.{MAX_ROOM, VOLUME_ROOM, PAGE_BYTES}
use Rattle.uid_names.specs.declared.mode.ObjKind.{ObjKind}
use Rattle.page_store.specs.Volumes.{Volume, with_page, without_object}
use Rattle.object_store.specs.declared.attributes.Attr.{Attr}
use Rattle.object_store.specs.declared.attributes.ObjectRow.{ObjectRow}
use Rattle.object_store.specs.Objects.{attr_at, room_of, rooms, fresh, stamped, resized, with_change, without_row}
use Rattle.object_store.specs.HomeStates.{HomeState, after_make, after_remove, after_page, after_length}
use Rattle.object_store.specs.Rules.{page_write, length_write, write_to, write_on}
use Rattle.object_store.specs.Kept.{IsHome}
use Rattle.object_store.specs.Places.{StandsAt}
use Rattle.object_store.proofs.RowLemmas.{attr_at-IsRowAt, with_change-IsRowAt, without_row-IsRowAt, rooms-with_change}
use Rattle.object_store.proofs.HomeLemmas.{IsHome-after_make, IsHome-after_remove, IsHome-after_page, IsHome-after_length}

-- what is known of a home is known of its fields
closed : (new after : HomeState) (taken : ℕ) → new ≡ after → IsHome after → taken ≡ rooms after.objects → IsHome new × (taken ≡ rooms new.objects)
closed new after taken same kept sum = let P : HomeState → Type 0 = λ home. IsHome home × (taken ≡ rooms home.objects) in subst P (sym same) (kept, sum)

-- what a push that did not fail left
pub pushed : {T E : Type 0} (r : Result T E) (items after before : List ObjectRow) → items ≡ (if is_ok r then after else before) → false ≡ is_err r → items ≡ after
pushed (Ok x) items after before is fine = is
pushed (Err e) items after before is fine = cc

-- what holds on success, where there was no error
pub on-success : {T E P : Type 0} (r : Result T E) → OnOk r P → false ≡ is_err r → P
on-success (Ok x) holds fine = holds
on-success (Err e) holds fine = cc

-- the fields after a making
pub made : (home : HomeState) (kind : ObjKind) (room taken : ℕ) (attr : Attr) (items : List ObjectRow) → IsHome home → taken ≡ rooms home.objects
    → 1 ≤ room → room ≤ MAX_ROOM → taken + room ≤ VOLUME_ROOM
    → attr ≡ fresh kind room → items ≡ home.objects ++ record { counter = home.greatest + 1; attr = attr } ∷ []
    → IsHome (record home { objects = items; greatest = home.greatest + 1 }) × (taken + room ≡ rooms items)
made home kind room taken attr items kept sum low high fits is added =
    let new : HomeState = record home { objects = items; greatest = home.greatest + 1 } in
    let row : Attr → ObjectRow = λ a. record { counter = home.greatest + 1; attr = a } in
    let same : items ≡ home.objects ++ row (fresh kind room) ∷ [] = added ∙ ap (λ (a : Attr). home.objects ++ row a ∷ []) is in
    closed new (after_make home kind room) (taken + room) (ap (λ (os : List ObjectRow). record home { objects = os; greatest = home.greatest + 1 }) same)
    (IsHome-after_make home kind room kept low high (omega arith)) (rw sum_by_push (omega arith))

-- the object's attributes by its place
placed-attr : (home : HomeState) (uid : ObjectName) (at : ℕ) (row : ObjectRow) → IsHome home → StandsAt home uid at → row ≡ get_or home.objects at row → attr_at home.objects uid.counter ≡ Some row.attr
placed-attr home uid at row kept stands is =
    attr_at-IsRowAt 0 uid.counter at home.objects row kept.rising stands.within (stands.named row) ∙ ap (λ (r : ObjectRow). Some r.attr) (sym is)

-- the fields after a removal
pub removed : (home : HomeState) (uid : ObjectName) (at taken : ℕ) (row : ObjectRow) (items : List ObjectRow) (pages : Volume) → IsHome home → taken ≡ rooms home.objects
    → StandsAt home uid at → row ≡ get_or home.objects at row → items ≡ remove home.objects at → pages ≡ without_object home.pages uid.counter
    → (record home { objects = items; pages = pages } ≡ after_remove home uid.counter) × (IsHome (record home { objects = items; pages = pages }) × (taken - row.attr.room ≡ rooms items))
removed home uid at taken row items pages kept sum stands is left dropped =
    let new : HomeState = record home { objects = items; pages = pages } in
    let rest : items ≡ without_row uid.counter home.objects = left ∙ sym (without_row-IsRowAt 0 uid.counter at home.objects row kept.rising stands.within (stands.named row)) in
    let same : new ≡ after_remove home uid.counter = λ i. record home { objects = rest i; pages = dropped i } in
    let less : rooms (remove home.objects at) + (get_or home.objects at row).attr.room ≡ rooms home.objects = sum_by-remove (λ (r : ObjectRow). r.attr.room) home.objects at row stands.within in
    let room : row.attr.room ≡ (get_or home.objects at row).attr.room = ap (λ (r : ObjectRow). r.attr.room) is in
    let left-rooms : rooms items ≡ rooms (remove home.objects at) = ap rooms left in
    (same, (subst IsHome (sym same) (IsHome-after_remove home uid.counter kept), omega arith))

-- a write that is taken is to what is there, and its stamp is one above
write_to-Ok : (there : Bool) (stamp base new : ℕ) → write_to there stamp base ≡ Ok new → (there ≡ true) × (new ≡ stamp + 1)
write_to-Ok true stamp base new is = by (base == stamp) is
  where
    by : (b : Bool) → write_on b stamp ≡ Ok new → (true ≡ true) × (new ≡ stamp + 1)
    by true is = (refl, cc)
    by false is = cc
write_to-Ok false stamp base new is = cc

-- a page that is written is below the room
page_write-Ok : (attr : Attr) (page base stamp : ℕ) → page_write (Some attr) page base ≡ Ok stamp → (page < attr.room) × (stamp ≡ attr.stamp + 1)
page_write-Ok attr page base stamp is =
    let taken = write_to-Ok (nat_lt page attr.room) attr.stamp base stamp is in
    (ltb-true page attr.room taken.0, taken.1)

-- a length that is written is within the room
length_write-Ok : (attr : Attr) (length base stamp : ℕ) → length_write (Some attr) length base ≡ Ok stamp → (length ≤ PAGE_BYTES * attr.room) × (stamp ≡ attr.stamp + 1)
length_write-Ok attr length base stamp is =
    let taken = write_to-Ok (nat_le length (PAGE_BYTES * attr.room)) attr.stamp base stamp is in
    (leb-true length (PAGE_BYTES * attr.room) taken.0, taken.1)

-- the rows with an object's row written
written : (change : Attr → Attr) (home : HomeState) (uid : ObjectName) (at : ℕ) (row : ObjectRow) (attr : Attr) → IsHome home → StandsAt home uid at → row ≡ get_or home.objects at row
    → attr ≡ change row.attr → set home.objects at (record { counter = row.counter; attr = attr }) ≡ with_change change uid.counter home.objects
written change home uid at row attr kept stands is changed =
    let write : ObjectRow → Attr → List ObjectRow = λ r a. set home.objects at (record { counter = r.counter; attr = a }) in
    ap (write row) changed
    ∙ ap (λ (r : ObjectRow). write r (change r.attr)) is
    ∙ sym (with_change-IsRowAt change 0 uid.counter at home.objects row kept.rising stands.within (stands.named row))

-- two readings of one place
one-row : (rows : List ObjectRow) (at : ℕ) (r s : ObjectRow) → at < length rows → r ≡ get_or rows at r → s ≡ get_or rows at s → r ≡ s
one-row rows at r s lt p q = p ∙ get_or_default rows at r s lt ∙ sym q

-- the fields after a write of a page
pub page_written : (home : HomeState) (uid : ObjectName) (at taken page base stamp : ℕ) (bytes : List ℕ) (seen row : ObjectRow) (pages : Volume) → IsHome home → taken ≡ rooms home.objects
    → StandsAt home uid at → seen ≡ get_or home.objects at seen → row ≡ get_or home.objects at row
    → length bytes ≡ PAGE_BYTES → Ok stamp ≡ page_write (Some seen.attr) page base → pages ≡ with_page home.pages uid.counter page bytes
    → let new = record home { objects = set home.objects at (record { counter = row.counter; attr = record row.attr { stamp = stamp } }); pages = pages } in
    (new ≡ after_page home uid.counter page bytes) × (IsHome new × (taken ≡ rooms new.objects))
page_written home uid at taken page base stamp bytes seen row pages kept sum stands was is whole answer put =
    let one : seen ≡ row = one-row home.objects at seen row stands.within was is in
    let rule = page_write-Ok row.attr page base stamp (sym (answer ∙ ap (λ (r : ObjectRow). page_write (Some r.attr) page base) one)) in
    let new : HomeState = record home { objects = set home.objects at (record { counter = row.counter; attr = record row.attr { stamp = stamp } }); pages = pages } in
    let rows = written stamped home uid at row (record row.attr { stamp = stamp }) kept stands is (ap (λ n. record row.attr { stamp = n }) rule.1) in
    let same : new ≡ after_page home uid.counter page bytes = λ i. record home { objects = rows i; pages = put i } in
    let below : page < room_of (attr_at home.objects uid.counter) = rw (placed-attr home uid at row kept stands is) rule.0 in
    (same, closed new (after_page home uid.counter page bytes) taken same (IsHome-after_page home uid.counter page bytes kept below whole) (sum ∙ sym (rooms-with_change stamped uid.counter home.objects (λ attr. refl))))

-- the fields after a write of the length
pub length_written : (home : HomeState) (uid : ObjectName) (at taken length base stamp : ℕ) (seen row : ObjectRow) → IsHome home → taken ≡ rooms home.objects
    → StandsAt home uid at → seen ≡ get_or home.objects at seen → row ≡ get_or home.objects at row → Ok stamp ≡ length_write (Some seen.attr) length base
    → let new = record home { objects = set home.objects at (record { counter = row.counter; attr = record row.attr { length = length; stamp = stamp } }) } in
    (new ≡ after_length home uid.counter length) × (IsHome new × (taken ≡ rooms new.objects))
length_written home uid at taken length base stamp seen row kept sum stands was is answer =
    let one : seen ≡ row = one-row home.objects at seen row stands.within was is in
    let rule = length_write-Ok row.attr length base stamp (sym (answer ∙ ap (λ (r : ObjectRow). length_write (Some r.attr) length base) one)) in
    let new : HomeState = record home { objects = set home.objects at (record { counter = row.counter; attr = record row.attr { length = length; stamp = stamp } }) } in
    let rows = written (resized length) home uid at row (record row.attr { length = length; stamp = stamp }) kept stands is (ap (λ n. record row.attr { length = length; stamp = n }) rule.1) in
    let same : new ≡ after_length home uid.counter length = λ i. record home { objects = rows i } in
    let within : length ≤ PAGE_BYTES * room_of (attr_at home.objects uid.counter) = rw (placed-attr home uid at row kept stands is) rule.0 in
    (same, closed new (after_length home uid.counter length) taken same (IsHome-after_length home uid.counter length kept within) (sum ∙ sym (rooms-with_change (resized length) uid.counter home.objects (λ attr. refl))))
