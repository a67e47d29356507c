-- What is asked of a home side within a room leaves it within that room, and is answered so.
use Rattle.std.proofs.Common.{◌≡◌, ℕ, ◌≤◌, ◌==◌, List, [], ◌∷◌, ◌++◌, refl, sym, subst, arith}
use Rattle.std.specs.Prelude.{◌+◌, Bool, true, false, not, if◌then◌else◌, nat_le, All, map, Option, Some, None, is_some}
use Rattle.std.proofs.lemmas.List.Elements.{All-nil, All-head, All-tail}
use Rattle.uid_names.specs.Names.{ProcName, ObjectName}
use Rattle.uid_names.specs.declared.mode.Mode.{Mode}
use Rattle.uid_names.specs.declared.opening.Object.{Object}
use Rattle.uid_names.specs.declared.limits.TheConstants.{ENTRY_ROOM, MAX_ROOM, VOLUME_ROOM}
use Rattle.uid_names.specs.Wires.{wire_room}
use Rattle.uid_names.proofs.Wires.{second-writes-all}
use Rattle.object_store.specs.declared.attributes.Attr.{Attr}
use Rattle.object_store.specs.declared.attributes.ObjectRow.{ObjectRow}
use Rattle.page_store.specs.Volumes.{page_of}
use Rattle.object_store.specs.Rules.{has_page, has_length, stamp_of}
use Rattle.object_store.specs.Objects.{rooms, attr_at, stamped, resized, changed_if, with_change, without_row}
use Rattle.object_store.specs.HomeStates.{HomeState, attr_of, next_row, after_page, after_length}
use Rattle.object_store.specs.Beginnings.{opened, first_rows}
use Rattle.object_store.specs.Kept.{IsAttr, AreRowsUpTo, IsHome}
use Rattle.object_store.proofs.HomeLemmas.{IsAttr-attr_of}
use Rattle.lock_manager.specs.Grants.{conflict_of, grant_of}
use Rattle.lock_manager.specs.Tables.{Table}
use Rattle.call_once.specs.declared.served.Looked.{Looked}
use Rattle.call_once.specs.declared.served.Looked.TheVariants.{Fresh, Again, Old}
use Rattle.call_once.specs.Calls.{Call, call_of, body_in, last_of, looked, with_call}
use Rattle.call_once.proofs.KeptCalls.{with_call-all, call_of-all}
use Rattle.ring_messages.specs.Bodies.{Ask, Answer, body_of_ask, body_of_answer}
use Rattle.ring_messages.specs.Ranges.{LiesWithin}
use Rattle.page_server.specs.Decisions.{Decision, decide, is_granted, may_remove, page_answer, write_answer, lock_answer, remove_answer, make_answer}
use Rattle.page_server.specs.Serving.{HomeSide, first_side, serve_as, serve_of}
use Rattle.page_server.specs.ServerStates.{AreRoomsWithin, IsSide, IsSideWithin}
use Rattle.page_server.proofs.Bounds.{either}

-- ---- the rows

module _ (room : ℕ) where
  within-push : (rows : List ObjectRow) (row : ObjectRow) → AreRoomsWithin room rows → row.attr.room ≤ room → AreRoomsWithin room (rows ++ row ∷ [])
  within-push [] row are le = (le, tt)
  within-push (first ∷ rest) row are le = (are.0, within-push rest row are.1 le)

  within-without_row : (counter : ℕ) (rows : List ObjectRow) → AreRoomsWithin room rows → AreRoomsWithin room (without_row counter rows)
  within-without_row counter [] are = tt
  within-without_row counter (row ∷ rest) are = by (not (row.counter == counter)) (within-without_row counter rest are.1)
    where
      by : (b : Bool) → AreRoomsWithin room (without_row counter rest) → AreRoomsWithin room (if b then row ∷ without_row counter rest else without_row counter rest)
      by true others = (are.0, others)
      by false others = others

  within-with_change : (change : Attr → Attr) (counter : ℕ) (rows : List ObjectRow) → ((attr : Attr) → (change attr).room ≡ attr.room) → AreRoomsWithin room rows → AreRoomsWithin room (with_change change counter rows)
  within-with_change change counter [] keeps are = tt
  within-with_change change counter (row ∷ rest) keeps are = (by (row.counter == counter), within-with_change change counter rest keeps are.1)
    where
      by : (b : Bool) → (changed_if b change row.attr).room ≤ room
      by true = let first : row.attr.room ≤ room = are.0 in omega (arith, keeps row.attr, first)
      by false = are.0

  within-attr_at : (counter : ℕ) (rows : List ObjectRow) (attr : Attr) → AreRoomsWithin room rows → attr_at rows counter ≡ Some attr → attr.room ≤ room
  within-attr_at counter [] attr are is = absurd cc
  within-attr_at counter (row ∷ rest) attr are is = by (row.counter == counter) is (within-attr_at counter rest attr are.1)
    where
      by : (b : Bool) → (if b then Some row.attr else attr_at rest counter) ≡ Some attr → (attr_at rest counter ≡ Some attr → attr.room ≤ room) → attr.room ≤ room
      by true is others = let one : row.attr ≡ attr = cc in subst (λ (a : Attr). a.room ≤ room) one are.0
      by false is others = others is

  within-attr_of : (home : HomeState) (u : ObjectName) (attr : Attr) → AreRoomsWithin room home.objects → attr_of home u ≡ Some attr → attr.room ≤ room
  within-attr_of home u attr are = by (u.home == home.node)
    where
      by : (b : Bool) → (if b then attr_at home.objects u.counter else None) ≡ Some attr → attr.room ≤ room
      by true is = within-attr_at u.counter home.objects attr are is
      by false is = absurd cc

  -- ---- the start

  within-opened : (own : List Object) → All (λ (o : Object). o.room ≤ room) own → AreRoomsWithin room (map opened own)
  within-opened [] all = tt
  within-opened (o ∷ own) all = (All-head (λ (o : Object). o.room ≤ room) o own all, within-opened own (All-tail (λ (o : Object). o.room ≤ room) o own all))

  pub within-first_home : (node : ℕ) (own : List Object) → ENTRY_ROOM ≤ room → All (λ (o : Object). o.room ≤ room) own → AreRoomsWithin room (first_rows node own)
  within-first_home node own entry all = (entry, within-opened own all)

  -- ---- what is decided

  module _ (home : HomeState) (are : AreRoomsWithin room home.objects) where
    abbrev Within : HomeState → Type 0
    Within after = AreRoomsWithin room after.objects

    changed : (change : Attr → Attr) (counter : ℕ) (after : HomeState) → ((attr : Attr) → (change attr).room ≡ attr.room) → after.objects ≡ with_change change counter home.objects → Within after
    changed change counter after keeps rows = rw rows (within-with_change change counter home.objects keeps are)

    pub decided-rooms : (locks : Table) (p : ProcName) (ask : Ask) → LiesWithin room (body_of_ask ask) → Within (decide home locks p ask).home
    decided-rooms locks p (Ask.PageIn u page) low = are
    decided-rooms locks p (Ask.PageOut u page grant base bytes) low = either Within _ (changed stamped u.counter (after_page home u.counter page bytes) (λ attr. refl) refl) are
    decided-rooms locks p (Ask.AttrOut u length grant base) low = either Within _ (changed (resized length) u.counter (after_length home u.counter length) (λ attr. refl) refl) are
    decided-rooms locks p (Ask.Lock u mode) low = are
    decided-rooms locks p (Ask.Unlock u) low = are
    decided-rooms locks p (Ask.Remove u) low = either Within _ (within-without_row u.counter home.objects are) are
    decided-rooms locks p (Ask.Make kind made) low = either Within _ (within-push home.objects (next_row home kind made) are low) are
    decided-rooms locks p (Ask.ListLocks after) low = are

    page-within : (there : Bool) (stamp : ℕ) (bytes : List ℕ) → LiesWithin room (body_of_answer (page_answer there stamp bytes))
    page-within true stamp bytes = tt
    page-within false stamp bytes = tt

    write-within : (there granted current : Bool) (stamp : ℕ) → LiesWithin room (body_of_answer (write_answer there granted current stamp))
    write-within false granted current stamp = tt
    write-within true false current stamp = tt
    write-within true true false stamp = tt
    write-within true true true stamp = tt

    lock-within : (attr : Option Attr) (conflict : Option (ProcName × Mode)) (grant : ℕ) → ((a : Attr) → attr ≡ Some a → IsAttr a × (a.room ≤ room)) → LiesWithin room (body_of_answer (lock_answer attr conflict grant))
    lock-within None conflict grant is = tt
    lock-within (Some attr) (Some (holder, held)) grant is = tt
    lock-within (Some attr) None grant is =
        let found = is attr refl in
        let long = found.0.length_high in
        let low = found.1 in
        (low, omega (arith, long, low))

    remove-within : (there held : Bool) → LiesWithin room (body_of_answer (remove_answer there held))
    remove-within false held = tt
    remove-within true false = tt
    remove-within true true = tt

    make-within : (fits : Bool) (u : ObjectName) → LiesWithin room (body_of_answer (make_answer fits u))
    make-within true u = tt
    make-within false u = tt

    pub decided-within : (locks : Table) (p : ProcName) (ask : Ask) → IsHome home → LiesWithin room (body_of_answer (decide home locks p ask).answer)
    decided-within locks p (Ask.PageIn u page) kept = page-within (has_page (attr_of home u) page) (stamp_of (attr_of home u)) (page_of home.pages u.counter page)
    decided-within locks p (Ask.PageOut u page grant base bytes) kept = write-within (has_page (attr_of home u) page) (is_granted locks grant u p.node) (base == stamp_of (attr_of home u)) (stamp_of (attr_of home u))
    decided-within locks p (Ask.AttrOut u length grant base) kept = write-within (has_length (attr_of home u) length) (is_granted locks grant u p.node) (base == stamp_of (attr_of home u)) (stamp_of (attr_of home u))
    decided-within locks p (Ask.Lock u mode) kept =
        lock-within (attr_of home u) (conflict_of p u mode locks.grants) (locks.last + 1) (λ attr is. (IsAttr-attr_of home u attr kept is, within-attr_of home u attr are is))
    decided-within locks p (Ask.Unlock u) kept = tt
    decided-within locks p (Ask.Remove u) kept = remove-within (is_some (attr_of home u)) (may_remove (grant_of p u locks.grants))
    decided-within locks p (Ask.Make kind made) kept = make-within (nat_le (rooms home.objects + made) VOLUME_ROOM) (record { counter = home.greatest + 1; home = home.node })
    decided-within locks p (Ask.ListLocks after) kept = tt

  -- ---- the side

  pub within-first : (home : HomeState) → AreRoomsWithin room home.objects → IsSideWithin room (first_side home)
  within-first home are = record { rooms = are; kept = All-nil (λ (call : Call Answer). LiesWithin room (body_of_answer call.body)) }

  pub within-decided : (side : HomeSide) (p : ProcName) (number : ℕ) (ask : Ask) → IsSide side → IsSideWithin room side → LiesWithin room (body_of_ask ask)
      → let d = decide side.home side.locks p ask in
      IsSideWithin room (record { home = d.home; locks = d.locks; served = with_call (record { proc = p; number = number; body = d.answer }) side.served })
  within-decided side p number ask kept within low =
      let d : Decision = decide side.home side.locks p ask in
      let call : Call Answer = record { proc = p; number = number; body = d.answer } in
      record {
        rooms = decided-rooms side.home within.rooms side.locks p ask low;
        kept = with_call-all (λ (call : Call Answer). LiesWithin room (body_of_answer call.body)) call side.served (decided-within side.home within.rooms side.locks p ask kept.home) within.kept;
      }

  pub within-served : (side : HomeSide) (p : ProcName) (number : ℕ) (ask : Ask) → IsSide side → IsSideWithin room side → LiesWithin room (body_of_ask ask) → IsSideWithin room (serve_of side p number ask).side
  within-served side p number ask kept within low = by (looked number (last_of p side.served))
    where
      by : (l : Looked) → IsSideWithin room (serve_as l side p number ask).side
      by Fresh = within-decided side p number ask kept within low
      by Again = within
      by Old = within

  -- an answer that was kept
  pub kept-within : (calls : List (Call Answer)) (p : ProcName) (found : Option (Call Answer)) (answer : Answer) → All (λ (call : Call Answer). LiesWithin room (body_of_answer call.body)) calls
      → call_of p calls ≡ found → body_in found ≡ Some answer → LiesWithin room (body_of_answer answer)
  kept-within calls p None answer all is told = absurd cc
  kept-within calls p (Some call) answer all is told =
      let same : call.body ≡ answer = cc in
      subst (λ (a : Answer). LiesWithin room (body_of_answer a)) same (call_of-all (λ (call : Call Answer). LiesWithin room (body_of_answer call.body)) calls p call all is)

  pub told-within : (side : HomeSide) (p : ProcName) (number : ℕ) (ask : Ask) (answer : Answer) → IsSide side → IsSideWithin room side → (serve_of side p number ask).answer ≡ Some answer → LiesWithin room (body_of_answer answer)
  told-within side p number ask answer kept within = by (looked number (last_of p side.served))
    where
      by : (l : Looked) → (serve_as l side p number ask).answer ≡ Some answer → LiesWithin room (body_of_answer answer)
      by Fresh told =
          let same : (decide side.home side.locks p ask).answer ≡ answer = cc in
          subst (λ (a : Answer). LiesWithin room (body_of_answer a)) same (decided-within side.home within.rooms side.locks p ask kept.home)
      by Again told = kept-within side.served p (call_of p side.served) answer within.kept refl told
      by Old told = absurd cc

-- ---- each home, in version 2

rows-within : (greatest : ℕ) (rows : List ObjectRow) → AreRowsUpTo greatest rows → AreRoomsWithin MAX_ROOM rows
rows-within greatest [] are = tt
rows-within greatest (row ∷ rest) are = (are.1.room_high, rows-within greatest rest are.2)

pub second-holds : (home : HomeState) → IsHome home → AreRoomsWithin (wire_room 2) home.objects
second-holds home is = subst (λ room. AreRoomsWithin room home.objects) (sym second-writes-all) (rows-within home.greatest home.objects is.rows)
