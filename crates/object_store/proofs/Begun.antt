-- A home at the start is a home.
use Rattle.std.proofs.Common.{◌≡◌, ◌∙◌, ℕ, ◌+◌, ◌≤◌, ◌==◌, List, [], ◌∷◌, length, map, refl, ap, sym, subst, arith}
use Rattle.std.specs.Prelude.{true, false, cond, All, sum_by}
use Rattle.std.proofs.lemmas.List.{length-map}
use Rattle.std.proofs.lemmas.List.Elements.{All-head, All-tail}
use Rattle.std.proofs.lemmas.List.Sums.{sum_by-cons}
use Rattle.uid_names.specs.declared.limits.TheConstants.{MAX_ROOM, ENTRY_ROOM, VOLUME_ROOM}
use Rattle.uid_names.specs.declared.opening.Object.{Object}
use Rattle.uid_names.specs.declared.mode.ObjKind.TheVariants.{Directory}
use Rattle.uid_names.specs.Openings.{Start, IsStart, IsDeclarable}
use Rattle.page_store.specs.Volumes.{Volume, no_pages}
use Rattle.page_store.proofs.VolumeLemmas.{page_of-no_pages}
use Rattle.object_store.specs.declared.attributes.ObjectRow.{ObjectRow}
use Rattle.object_store.specs.Objects.{rooms}
use Rattle.object_store.specs.HomeStates.{HomeState}
use Rattle.object_store.specs.Kept.{IsHome, AreCountersRising, AreRowsUpTo}
use Rattle.uid_names.specs.Beginnings.{AreNumbered, CanHomeBegin, at_home, entry_directory}
use Rattle.object_store.specs.Beginnings.{opened, first_rows, first_home}
use Rattle.object_store.proofs.RowLemmas.{length-le-rooms}
use Rattle.object_store.proofs.HomeLemmas.{IsAttr-fresh, length-zeros}

-- how a home begins
first-rising : (n : ℕ) (own : List Object) → AreNumbered (n + 1) own → AreCountersRising n (map opened own)
first-rising n [] numbered = tt
first-rising n (o ∷ rest) numbered =
    let counter : o.uid.counter ≡ n + 1 = numbered.0 in
    (omega arith, rw counter (first-rising (n + 1) rest numbered.1))

-- each room of the list is in its range
abbrev HaveRooms : List Object → Type 0
HaveRooms [] = Unit {0}
HaveRooms (o ∷ rest) = (1 ≤ o.room) × (o.room ≤ MAX_ROOM) × HaveRooms rest

-- numbered objects in their ranges are rows up to the last number
first-within : (n high : ℕ) (own : List Object) → AreNumbered n own → n + length own ≤ high + 1 → HaveRooms own → AreRowsUpTo high (map opened own)
first-within n high [] numbered le room = tt
first-within n high (o ∷ rest) numbered le room =
    let counter : o.uid.counter ≡ n = numbered.0 in
    (omega arith, IsAttr-fresh o.kind o.room room.0 room.1, first-within (n + 1) high rest numbered.1 (omega arith) room.2)

-- the objects of an opening at a node have rooms in their range
HaveRooms-at_home : (nodes greatest node : ℕ) (objects : List Object) → greatest ≤ MAX_ROOM → All (IsDeclarable nodes greatest) objects → HaveRooms (at_home node objects)
HaveRooms-at_home nodes greatest node [] le all = tt
HaveRooms-at_home nodes greatest node (o ∷ rest) le all =
    let first : IsDeclarable nodes greatest o = All-head (IsDeclarable nodes greatest) o rest all in
    let later : HaveRooms (at_home node rest) = HaveRooms-at_home nodes greatest node rest le (All-tail (IsDeclarable nodes greatest) o rest all) in
    let low : 1 ≤ o.room = first.room_low in
    let high : o.room ≤ MAX_ROOM = omega (arith, first.room_high) in
    elim (o.uid.home == node) as (λ b. HaveRooms (cond b (o ∷ at_home node rest) (at_home node rest))) [
      | true ↦ (low, high, later)
      | false ↦ later
    ]

-- the rooms of the rows are those of the objects
rooms-opened : (own : List Object) → rooms (map opened own) ≡ sum_by (λ o. o.room) own
rooms-opened [] = refl
rooms-opened (o ∷ rest) =
    sum_by-cons (λ (row : ObjectRow). row.attr.room) (opened o) (map opened rest)
    ∙ (ap (λ n. o.room + n) (rooms-opened rest) ∙ sym (sum_by-cons (λ (x : Object). x.room) o rest))

-- with the entry directory's
pub rooms-first : (node : ℕ) (own : List Object) → rooms (first_rows node own) ≡ ENTRY_ROOM + sum_by (λ o. o.room) own
rooms-first node own = rooms-opened (entry_directory node ∷ own) ∙ sum_by-cons (λ o. o.room) (entry_directory node) own

-- the home of a node at the start keeps what each home keeps
pub IsHome-first_home : (node : ℕ) (start : Start) → IsStart start → CanHomeBegin (at_home node start.objects) → IsHome (first_home node (at_home node start.objects))
IsHome-first_home node start kept begins =
    let own = at_home node start.objects in
    let room : HaveRooms own = HaveRooms-at_home start.nodes start.greatest node start.objects kept.greatest_high kept.objects in
    let rest : AreRowsUpTo (length own + 1) (map opened own) = first-within 2 (length own + 1) own begins.counters (omega arith) room in
    let rows : AreRowsUpTo (length own + 1) (first_rows node own) = (omega arith, IsAttr-fresh Directory ENTRY_ROOM (omega arith) (omega arith), rest) in
    let few : length (first_rows node own) ≤ rooms (first_rows node own) = length-le-rooms (length own + 1) (first_rows node own) rows in
    let fits : rooms (first_rows node own) ≤ VOLUME_ROOM = rw (rooms-first node own) begins.fits in
    record {
      rising = (omega arith, first-rising 1 own begins.counters);
      rows = rows;
      fits = fits;
      whole = λ q k. rw (page_of-no_pages q k) length-zeros;
      blank = λ q k past. page_of-no_pages q k;
    }

-- what the fields are once they are set
pub begun : (node : ℕ) (start : Start) (items : List ObjectRow) (greatest taken : ℕ) (pages : Volume) → IsStart start → CanHomeBegin (at_home node start.objects)
    → items ≡ first_rows node (at_home node start.objects) → greatest ≡ length items → taken ≡ rooms items → pages ≡ no_pages
    → IsHome (record { node = node; objects = items; greatest = greatest; pages = pages }) × (taken ≡ rooms items)
begun node start items greatest taken pages kept begins rows count sum empty =
    let own = at_home node start.objects in
    let counted : greatest ≡ length own + 1 = omega (arith, count, ap length rows, length-map own opened) in
    let same : ◌≡◌ {A = HomeState} (record { node = node; objects = items; greatest = greatest; pages = pages }) (first_home node own) =
    λ i. record { node = node; objects = rows i; greatest = counted i; pages = empty i } in
    (subst IsHome (sym same) (IsHome-first_home node start kept begins), sum)
