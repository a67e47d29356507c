-- In every run a home that decides an open call finds what it needs.
use Rattle.std.proofs.Common.{◌≡◌, ℕ, ◌+◌, ◌≤◌, ◌<◌, Bool, true, false, List, [], ◌∷◌, length, Option, Some, None, IfSome, IsSome, inl, inr, refl, sym, ap, subst, ◌∙◌, arith}
use Rattle.std.specs.Prelude.{◌*◌, ◌==◌, ◌&&◌, is_some, unwrap_or}
use Rattle.std.proofs.lemmas.Bool.{cases_eq}
use Rattle.std.proofs.lemmas.Bool.Decides.{nat_tests}
use Rattle.lock_validate.proofs.States.{kept-entry, writing-entry}
use Rattle.uid_names.specs.Names.{ProcName, ObjectName}
use Rattle.uid_names.specs.Modes.{mode_removes}
use Rattle.uid_names.specs.declared.mode.Mode.{Mode}
use Rattle.uid_names.specs.declared.ids.Place.{Place}
use Rattle.dom_history.specs.Objects.{is_node}
use Rattle.object_store.specs.declared.attributes.Attr.{Attr}
use Rattle.object_store.specs.HomeStates.{attr_of}
use Rattle.object_store.specs.Objects.{room_of}
use Rattle.object_store.specs.Rules.{has_page, has_length, stamp_of}
use Rattle.page_store.specs.Volumes.{page_of as page_in_volume}
use Rattle.page_cache.specs.Caches.{Resident, is_page, page_at}
use Rattle.uid_names.specs.declared.limits.TheConstants.{PAGE_BYTES}
use Rattle.uid_names.specs.Names.{same_uid}
use Rattle.uid_names.proofs.Orders.{same_uid_is}
use Rattle.uid_names.proofs.Passed.{left-true, right-true, equal}
use Rattle.fault_handler.specs.declared.lengths.Known.{Known}
use Rattle.fault_handler.specs.declared.tasks.Task.{Task}
use Rattle.fault_handler.specs.Lengths.{known_of, length_of}
use Rattle.fault_handler.specs.Tasks.{page_of, IsTask}
use Rattle.fault_handler.proofs.PageLists.{found-uid, found-page}
use Rattle.fault_handler.proofs.TransitKeeps.{keeps_writing-keeps}
use Rattle.lock_validate.proofs.Facts.{known-kept}
use Rattle.run_laws.specs.ToldRooms.{IsRoomOf}
use Rattle.run_laws.specs.OpenTasks.{IsTaskWithin}
use Rattle.run_laws.proofs.OpenTasks.{runs-within}
use Rattle.run_laws.specs.KnownRooms.{IsKnownRight, IsPageOf}
use Rattle.run_laws.proofs.KnownRooms.{known-are}
use Rattle.lock_validate.proofs.EachPage.{each-find}
use Rattle.run_laws.proofs.KnownPages.{task-page, pages-are}
use Rattle.lock_manager.specs.declared.grants.Grant.{Grant}
use Rattle.lock_manager.specs.Grants.{grant_of, held_in}
use Rattle.call_once.specs.Calls.{last_of}
use Rattle.ring_messages.specs.Bodies.{Ask}
use Rattle.page_server.specs.Decisions.{decide, page_answer, write_answer, remove_answer, is_granted, may_remove}
use Rattle.fault_handler.specs.declared.entries.LockEntry.{LockEntry}
use Rattle.fault_handler.specs.Entries.{grant_in, keeps, keeps_writing}
use Rattle.fault_handler.specs.Transits.{coming}
use Rattle.fault_handler.specs.Desks.{entry_at, open_call_of, task_of, moving_of}
use Rattle.fault_handler.specs.Outcomes.{Turn}
use Rattle.fault_handler.specs.Invariant.{IsProc, is_access, FitsTransit, FitsOpen}
use Rattle.fault_handler.proofs.Fours.{by_proc, any-of}
use Rattle.node_runs.specs.Setups.{Setup, IsSetup, given}
use Rattle.node_runs.specs.NodeStates.{Asked, Await, BegunOp, OpenOp, ProcState, NodeState, first_node, proc_of, name_of}
use Rattle.node_runs.specs.Notes.{Note}
use Rattle.node_runs.specs.Dones.{asking}
use Rattle.node_runs.specs.Agreements.{Agrees}
use Rattle.node_runs.specs.NodesKeep.{IsNodeOf, IsTimely}
use Rattle.node_runs.specs.Runs.{World, Noted, Choice, numbered, world_after}
use Rattle.node_runs.specs.CallsKeep.{IsCallAt, IsOpenAt, EachOf}
use Rattle.node_runs.specs.DecidedCalls.{IsDecided}
use Rattle.node_runs.specs.Replays.{Held, held_by, IsAnswered, AreAnswered}
use Rattle.node_runs.proofs.Receiving.{numbered-each}
use Rattle.node_runs.proofs.Calls.{put-same, put-other, numbered-within}
use Rattle.node_runs.proofs.Decisions.{IsNoDecision, HomeStep, apart, decides}
use Rattle.node_runs.proofs.Replaying.{replays-are}
use Rattle.node_runs.proofs.SettingUp.{setup-procs}
use Rattle.run_laws.specs.DecidedReplies.{proc_at}
use Rattle.run_laws.proofs.HearingRuns.{IsKeptNext, same-ask, every-kept-run, event, event-home}
use Rattle.run_laws.proofs.Replies.{caller-at}
use Rattle.run_laws.specs.DeskSteps.{doing_after, IsSameAwait, IsSameDoing, NodeMove, still, moved}
use Rattle.run_laws.specs.AskedHomes.{IsAtHome}
use Rattle.run_laws.specs.OpenCalls.{writes_under, HasSent, IsPageSent, IsLengthSent, Carries, CarriesOpen}
use Rattle.run_laws.proofs.AskedHomes.{calls-at-homes}
use Rattle.run_laws.proofs.OpenCalls.{runs-carry}
use Rattle.run_laws.proofs.EventMoves.{desk-moves}
use Rattle.run_laws.specs.HistoryHomes.{held_then}
use Rattle.run_laws.specs.LiveLocks.{row_at, locks_of, served_of, AreLive}
use Rattle.run_laws.specs.OpenDecisions.{Finds, IsFound, AreFound, IsAwaitFound, IsOpenFound, AreOpenFound, IsPageTold, IsWriteTold, IsRight, IsRightNote, IsAwaitRight, IsOpenRight, AreOpenRight}
use Rattle.run_laws.proofs.HistoryHomes.{asked-home}
use Rattle.run_laws.proofs.LiveRun.{end-none, link-call, live-are}
use Rattle.run_laws.proofs.Standing.{any-writes, row-there}

row-removes : (o : Option Grant) (m : Mode) (number : ℕ) → held_in o ≡ Some (m, number) → mode_removes m ≡ true → may_remove o ≡ true
row-removes None m number is removes = absurd (cc)
row-removes (Some g) m number is removes = ap mode_removes (ap (λ (o : Option (Mode × ℕ)). (unwrap_or o (m, number)).0) is) ∙ removes

-- what a home decides of it is right
write-right : (there granted current : Bool) (stamp : ℕ) → there ≡ true → granted ≡ true → IsWriteTold (write_answer there granted current stamp)
write-right true true true stamp is given = tt
write-right true true false stamp is given = tt
write-right true false current stamp is given = absurd (cc)
write-right false granted current stamp is given = absurd (cc)

page-right : (there : Bool) (stamp : ℕ) (bytes : List ℕ) → there ≡ true → IsPageTold (page_answer there stamp bytes)
page-right true stamp bytes is = tt
page-right false stamp bytes is = absurd (cc)

right-answer : (h : Held) (p : ProcName) (ask : Ask) → Finds h p ask → IsRight ask (decide h.home h.locks p ask).answer
right-answer h p (Ask.PageIn u k) found = page-right (has_page (attr_of h.home u) k) (stamp_of (attr_of h.home u)) (page_in_volume h.home.pages u.counter k) found
right-answer h p (Ask.PageOut u k grant base bytes) found = write-right (has_page (attr_of h.home u) k) (is_granted h.locks grant u p.node) (base == stamp_of (attr_of h.home u)) (stamp_of (attr_of h.home u)) found.0 found.1
right-answer h p (Ask.AttrOut u n grant base) found = write-right (has_length (attr_of h.home u) n) (is_granted h.locks grant u p.node) (base == stamp_of (attr_of h.home u)) (stamp_of (attr_of h.home u)) found.0 found.1
right-answer h p (Ask.Lock u m) found = tt
right-answer h p (Ask.Unlock u) found = tt
right-answer h p (Ask.Remove u) found = ap (λ b. remove_answer b (may_remove (grant_of p u h.locks.grants))) found.0 ∙ ap (remove_answer true) found.1
right-answer h p (Ask.Make kind room) found = tt
right-answer h p (Ask.ListLocks from) found = tt

right-note : (h : Held) (p : ProcName) (number : ℕ) (note : Note) → IsAnswered h note → IsFound h p number note → IsRightNote p number note
right-note h p number Note.Nothing is found = tt
right-note h p number (Note.Began q op) is found = tt
right-note h p number (Note.Did q phase op reply) is found = tt
right-note h p number (Note.Ended t) is found = tt
right-note h p number (Note.Decided q k ask answer) is found = λ same numbered_so.
    subst (IsRight ask) (sym is) (subst (λ r. IsRight ask (decide h.home h.locks r ask).answer) (sym same) (right-answer h p ask (found same numbered_so)))

right-notes : (s : Setup) (p : ProcName) (number : ℕ) (notes : List Noted) → AreAnswered s notes → AreFound s p number notes → EachOf (λ (j : Noted). IsRightNote p number j.note) notes
right-notes s p number [] are found = tt
right-notes s p number (j ∷ older) are found = (right-note (held_then s j.place.node older) p number j.note are.0 found.0, right-notes s p number older are.1 found.1)

-- a page, or a length, of an object that is there
has-page : (o : Option Attr) (k room : ℕ) → is_some o ≡ true → room_of o ≡ room → k < room → has_page o k ≡ true
has-page None k room there is below = absurd (cc)
has-page (Some attr) k room there is below = let low : k < attr.room = omega (arith, is, below) in grind (arith, nat_tests, low)

has-length : (o : Option Attr) (len room : ℕ) → is_some o ≡ true → room_of o ≡ room → len ≤ PAGE_BYTES * room → has_length o len ≡ true
has-length None len room there is within = absurd (cc)
has-length (Some attr) len room there is within = let low : len ≤ PAGE_BYTES * attr.room = subst (λ r. len ≤ PAGE_BYTES * r) (sym is) within in grind (arith, nat_tests, low)

-- the open load or store whose page comes
coming-task : (pages : List Resident) (entries : List (List LockEntry)) (q : ℕ) (b : Bool) (o : Option Task) (u : ObjectName) (k : ℕ) → FitsOpen pages entries q b o (coming u k) → (task : Task) × (o ≡ Some task) × IsTask task × (task.uid ≡ u) × (page_of task ≡ k)
coming-task pages entries q true (Some task) u k fits =
    let moves : (same_uid u task.uid && (k == page_of task)) ≡ true = fits.comes refl in
    (task, refl, fits.allowed.range, sym (same_uid_is u task.uid (left-true (same_uid u task.uid) (k == page_of task) moves)), sym (equal k (page_of task) (right-true (same_uid u task.uid) (k == page_of task) moves)))
coming-task pages entries q true None u k fits = absurd fits
coming-task pages entries q false None u k fits = absurd (let e = fits.0 in cc)
coming-task pages entries q false (Some task) u k fits = absurd fits

-- a note that decides nothing finds nothing
quiet-found : (h : Held) (p : ProcName) (number : ℕ) (note : Note) → IsNoDecision note → IsFound h p number note
quiet-found h p number Note.Nothing quiet = tt
quiet-found h p number (Note.Began q op) quiet = tt
quiet-found h p number (Note.Did q phase op reply) quiet = tt
quiet-found h p number (Note.Ended t) quiet = tt
quiet-found h p number (Note.Decided q k ask answer) quiet = absurd quiet

-- a call that is not made yet was decided nowhere
module _ (s : Setup) (w : World) (p : ProcName) (number : ℕ) (late : length (w.calls p.node p.number) < number) where
  new-found : (h : Held) (x : Place) (note : Note) → IsDecided w x note → IsFound h p number note
  new-found h x Note.Nothing decided = tt
  new-found h x (Note.Began q op) decided = tt
  new-found h x (Note.Did q phase op reply) decided = tt
  new-found h x (Note.Ended t) decided = tt
  new-found h x (Note.Decided q k ask answer) decided = λ same numbered_so.
      let call : IsCallAt (w.calls p.node p.number) number x.node ask = subst (λ (r : ProcName). IsCallAt (w.calls r.node r.number) number x.node ask) same (subst (λ i. IsCallAt (w.calls q.node q.number) i x.node ask) numbered_so decided.1) in
      let within = numbered-within number (w.calls p.node p.number) x.node ask call in
      absurd (omega (arith, within, late))

  all-new : (notes : List Noted) → EachOf (λ (j : Noted). IsDecided w j.place j.note) notes → AreFound s p number notes
  all-new [] each = tt
  all-new (j ∷ older) each = (new-found (held_then s j.place.node older) j.place j.note each.0, all-new older each.1)

module _ (s : Setup) (setup : IsSetup s) (cs : List Choice) (old : World) (e : world_after s cs ≡ Some old) (timely : IsTimely old) (c : Choice) (new : World) (next : IsKeptNext s old c new) where
  open event s old c new next use {g, n, step, after}

  live : AreLive old
  live = live-are s setup cs old e timely

  held : held_then s c.node old.trace ≡ held_by (old.nodes c.node).side
  held = sym ((replays-are s cs old e).homes c.node)

  -- what the home has of a lock that a process of a node keeps
  module _ (a q : ℕ) (proc : IsProc q) (u : ObjectName) (here : u.home ≡ c.node) where
    abbrev HasRow : Type 0
    HasRow = (m : Mode) × (grant : ℕ) × (row_at (locks_of old) (proc_at a q) u ≡ Some (m, grant))

    kept-row : keeps (entry_at (old.nodes a).desk.entries q u) ≡ true → HasRow
    kept-row kept =
        let x = kept-entry (entry_at (old.nodes a).desk.entries q u) kept in
        (x.1, x.0.grant, (live a q proc).row u x.0 x.1 x.2 (ap keeps (sym x.2) ∙ kept) x.3)

    there-at : (m : Mode) (grant : ℕ) → row_at (locks_of old) (proc_at a q) u ≡ Some (m, grant) → is_some (attr_of (held_then s c.node old.trace).home u) ≡ true
    there-at m grant row = ap (λ (h : Held). is_some (attr_of h.home u)) held ∙ subst (λ b. is_some (attr_of (old.nodes b).side.home u) ≡ true) here (row-there s setup cs old e timely (proc_at a q) u (m, grant) row)

    written : (grant : ℕ) → writes_under (old.nodes a).desk.entries u grant q ≡ true → (m : Mode) × (row_at (locks_of old) (proc_at a q) u ≡ Some (m, grant)) × (is_granted (held_then s c.node old.trace).locks grant u a ≡ true)
    written grant under =
        let entry = entry_at (old.nodes a).desk.entries q u in
        let x = writing-entry entry (left-true (keeps_writing entry) (grant_in entry == grant) under) in
        let number : x.0.grant ≡ grant = sym (ap grant_in x.2) ∙ equal (grant_in entry) grant (right-true (keeps_writing entry) (grant_in entry == grant) under) in
        let row : row_at (locks_of old) (proc_at a q) u ≡ Some (x.1, grant) = (live a q proc).row u x.0 x.1 x.2 x.5 x.3 ∙ ap (λ i. Some (x.1, i)) number in (
          x.1,
          row,
          ap (λ (h : Held). is_granted h.locks grant u a) held ∙ subst (λ b. is_granted (locks_of old b) grant u a ≡ true) here (any-writes (proc_at a q) u x.1 grant (locks_of old u.home).grants row x.4),
        )

    room-at : (m : Mode) (grant room len : ℕ) → row_at (locks_of old) (proc_at a q) u ≡ Some (m, grant) → IsRoomOf (old.nodes u.home).side.home u room len → room_of (attr_of (held_then s c.node old.trace).home u) ≡ room
    room-at m grant room len row is = ap (λ (h : Held). room_of (attr_of h.home u)) held ∙ subst (λ b. room_of (attr_of (old.nodes b).side.home u) ≡ room) here (is.room (row-there s setup cs old e timely (proc_at a q) u (m, grant) row))

    page-at : (m : Mode) (grant k : ℕ) → row_at (locks_of old) (proc_at a q) u ≡ Some (m, grant) → IsPageOf (old.nodes u.home).side.home u k → has_page (attr_of (held_then s c.node old.trace).home u) k ≡ true
    page-at m grant k row is = has-page (attr_of (held_then s c.node old.trace).home u) k is.0 (there-at m grant row) (room-at m grant is.0 0 row is.1) is.2

    removed : (m : Mode) (grant : ℕ) → mode_removes m ≡ true → row_at (locks_of old) (proc_at a q) u ≡ Some (m, grant) → may_remove (grant_of (proc_at a q) u (held_then s c.node old.trace).locks.grants) ≡ true
    removed m grant removes row =
        ap (λ (h : Held). may_remove (grant_of (proc_at a q) u h.locks.grants)) held
        ∙ row-removes (grant_of (proc_at a q) u (locks_of old c.node).grants) m grant (subst (λ b. held_in (grant_of (proc_at a q) u (locks_of old b).grants) ≡ Some (m, grant)) here row) removes

  -- a decision on an open call
  module _ (a q : ℕ) (node : is_node s.opening a ≡ true) (proc : IsProc q) (o : BegunOp) (k : Asked) (doing : (proc_of (old.nodes a) q).doing ≡ asking o k) where
    abbrev P : ProcName
    P = proc_at a q

    kept_node : IsNodeOf (given s a) (old.nodes a)
    kept_node = next.kept.nodes a node

    carries : Carries (old.nodes a).desk q k.ask
    carries = subst (CarriesOpen (old.nodes a).desk q) doing (runs-carry s setup cs old e timely a node q proc)

    made : IsCallAt (old.calls a q) k.waiting.number k.home k.ask
    made = subst (IsOpenAt (old.calls a q)) doing (next.calls.opened a q proc)

    last : k.waiting.number ≡ length (old.calls a q)
    last = (subst (Agrees (old.nodes a).desk q (proc_of (old.nodes a) q).last) doing (kept_node.agrees q proc)).1.1.number ∙ next.calls.last a q proc

    -- the page that comes, and the one that goes
    page-in : (u : ObjectName) (i : ℕ) → moving_of (old.nodes a).desk q ≡ coming u i → IsPageOf (old.nodes u.home).side.home u i
    page-in u i moves =
        let d = (old.nodes a).desk in
        let found = coming-task d.cache.pages d.entries q (is_access (open_call_of d q)) (task_of d q) u i (subst (FitsOpen d.cache.pages d.entries q (is_access (open_call_of d q)) (task_of d q)) moves (kept_node.desk.calls q proc)) in
        let within : IsTaskWithin d.known found.0 = subst (λ o. IfSome o (IsTaskWithin d.known)) found.1 (runs-within s setup cs old e timely a node q proc) in
        let page = task-page (old.nodes found.0.uid.home).side.home found.0 (known_of found.0.uid d.known) found.2 within (known-are s setup cs old e timely a node found.0.uid) in
        subst (IsPageOf (old.nodes u.home).side.home u) found.4 (subst (λ w. IsPageOf (old.nodes w.home).side.home w (page_of found.0)) found.3 page)

    page-sent : (u : ObjectName) (i : ℕ) (bytes : List ℕ) → HasSent bytes (page_at (old.nodes a).desk.cache.pages u i) → IsPageOf (old.nodes u.home).side.home u i
    page-sent u i bytes sent = by (page_at pages u i) refl sent (each-find Page (is_page u i) pages (pages-are s setup cs old e timely a node))
      where
        pages : List Resident
        pages = (old.nodes a).desk.cache.pages

        Page : ObjectName → ℕ → Type 0
        Page w k = IsPageOf (old.nodes w.home).side.home w k

        by : (r : Option Resident) → page_at pages u i ≡ r → HasSent bytes r → IfSome r (λ x. Page x.uid x.page) → Page u i
        by None is sent page = absurd sent
        by (Some r) is sent page = subst (λ k. Page u k) (found-page pages u i r is) (subst (λ w. Page w r.page) (found-uid pages u i r is) page)

    length-sent : (u : ObjectName) (len : ℕ) (m : Mode) (grant : ℕ) → u.home ≡ c.node → row_at (locks_of old) (proc_at a q) u ≡ Some (m, grant) → len ≤ length_of (known_of u (old.nodes a).desk.known) → (o : Option Known) → known_of u (old.nodes a).desk.known ≡ o
        → IsKnownRight (old.nodes u.home).side.home u o → keeps (entry_at (old.nodes a).desk.entries q u) ≡ true → has_length (attr_of (held_then s c.node old.trace).home u) len ≡ true
    length-sent u len m grant here row most (Some k) is right kept =
        let least = ap length_of is in
        let high = right.within in
        has-length (attr_of (held_then s c.node old.trace).home u) len k.room (there-at a q proc u here m grant row) (room-at a q proc u here m grant k.room k.length row right) (omega (arith, most, least, high))
    length-sent u len m grant here row most None is right kept = absurd (let none : IsSome {T = Known} None = subst IsSome is (known-kept (old.nodes a).desk q kept_node.desk proc u kept) in cc)

    finds : (ask : Ask) → k.ask ≡ ask → IsAtHome c.node ask → IsCallAt (old.calls a q) k.waiting.number c.node ask → served_of old P c.node < k.waiting.number → Finds (held_then s c.node old.trace) P ask
    finds (Ask.PageIn u i) is at call fresh =
        let moves : moving_of (old.nodes a).desk q ≡ coming u i = subst (Carries (old.nodes a).desk q) is carries in
        let fits = subst (FitsTransit (old.nodes a).desk.cache.pages (old.nodes a).desk.entries q) moves (kept_node.desk.moved.each q proc) in
        let row = kept-row a q proc u (sym at) fits.1 in
        page-at a q proc u (sym at) row.0 row.1 i row.2 (page-in u i moves)
    finds (Ask.PageOut u i grant base bytes) is at call fresh =
        let sent : IsPageSent (old.nodes a).desk q u i grant base bytes = subst (Carries (old.nodes a).desk q) is carries in
        let found = any-of (writes_under (old.nodes a).desk.entries u grant) sent.granted in
        let row = written a found.0 found.1 u (sym at) grant found.2 in
        (page-at a found.0 found.1 u (sym at) row.0 grant i row.1 (page-sent u i bytes sent.page), row.2)
    finds (Ask.AttrOut u len grant base) is at call fresh =
        let sent : IsLengthSent (old.nodes a).desk q u len grant base = subst (Carries (old.nodes a).desk q) is carries in
        let row = written a q proc u (sym at) grant sent.granted in
        (length-sent u len row.0 grant (sym at) row.1 sent.length (known_of u (old.nodes a).desk.known) refl (known-are s setup cs old e timely a node u) (keeps_writing-keeps (entry_at (old.nodes a).desk.entries q u) (left-true (keeps_writing (entry_at (old.nodes a).desk.entries q u)) _ sent.granted)), row.2)
    finds (Ask.Lock u m) is at call fresh = tt
    finds (Ask.Unlock u) is at call fresh = tt
    finds (Ask.Remove u) is at call fresh =
        let leaving = (live a q proc).leaving c.node u (subst (λ i. IsCallAt (old.calls a q) i c.node (Ask.Remove u)) last call) (let f = ap (served_of old P) at in omega (arith, f, last, fresh)) in
        (there-at a q proc u (sym at) leaving.mode leaving.grant leaving.row, removed a q proc u (sym at) leaving.mode leaving.grant leaving.removes leaving.row)
    finds (Ask.Make kind room) is at call fresh = tt
    finds (Ask.ListLocks from) is at call fresh = tt

    newest-found : HomeStep g n c.what next.is.incoming step → IsFound (held_then s c.node old.trace) P k.waiting.number step.note
    newest-found (apart more same none) = quiet-found (held_then s c.node old.trace) P k.waiting.number step.note none
    newest-found (decides from index m ask answer takes frame asks more above now note decision) = subst (IsFound (held_then s c.node old.trace) P k.waiting.number) (sym note) (λ same numbered_so.
        let call : IsCallAt (old.calls m.from m.proc) m.number c.node ask = link-call s old c new next m frame ask asks in
        let own : IsCallAt (old.calls a q) k.waiting.number c.node ask = subst (λ i. IsCallAt (old.calls a q) i c.node ask) numbered_so (subst (λ (r : ProcName). IsCallAt (old.calls r.node r.number) m.number c.node ask) (sym (caller-at m ask asks) ∙ same) call) in
        let this : k.ask ≡ ask = same-ask (numbered k.waiting.number (old.calls a q)) k.home c.node k.ask ask made own in
        let at : IsAtHome c.node ask = asked-home (numbered k.waiting.number (old.calls a q)) c.node ask (numbered-each (λ (j : Asked). IsAtHome j.home j.ask) k.waiting.number (old.calls a q) (calls-at-homes s setup cs old e timely a q)) own in
        let fresh : served_of old P c.node < k.waiting.number = subst (λ i. served_of old P c.node < i) numbered_so (subst (λ r. last_of r n.side.served < m.number) same above) in
        finds ask this at own fresh)

  -- a process that awaits what it did
  same-found : HomeStep g n c.what next.is.incoming step → (a q : ℕ) → is_node s.opening a ≡ true → IsProc q → (x y : Option OpenOp) → (proc_of (old.nodes a) q).doing ≡ x → IsSameDoing x y → IsOpenFound s (proc_at a q) old.trace x → IsOpenFound s (proc_at a q) after.trace y
  same-found home a q node proc None None is same found = tt
  same-found home a q node proc None (Some y) is same found = absurd same
  same-found home a q node proc (Some x) None is same found = absurd same
  same-found home a q node proc (Some x) (Some y) is same found = by x.awaits y.awaits refl same.1 found
    where
      by : (b d : Await) → x.awaits ≡ b → IsSameAwait b d → IsAwaitFound s (proc_at a q) old.trace b → IsAwaitFound s (proc_at a q) after.trace d
      by (Await.Answer k) (Await.Answer l) awaits alike was = subst (λ i. AreFound s (proc_at a q) i after.trace) (sym alike.2)
          (newest-found a q node proc x.began k (is ∙ ap (λ w. Some (let z : OpenOp = record { began = x.began; awaits = w } in z)) awaits) home, was)
      by (Await.Answer k) (Await.Page u i) awaits alike was = absurd alike
      by (Await.Page u i) (Await.Answer l) awaits alike was = absurd alike
      by (Await.Page u i) (Await.Page v j) awaits alike was = tt

  same-itself : (o : Option OpenOp) → IsSameDoing o o
  same-itself None = tt
  same-itself (Some o) = (refl, by o.awaits)
    where
      by : (b : Await) → IsSameAwait b b
      by (Await.Answer k) = (refl, refl, refl)
      by (Await.Page u i) = (refl, refl)

  step-found : NodeMove g n next.is.incoming step → HomeStep g n c.what next.is.incoming step → AreOpenFound s old → AreOpenFound s after
  step-found move home found a q node proc = elim (cases_eq a c.node) [
    | inr away ↦ subst (λ (x : NodeState). IsOpenFound s (proc_at a q) after.trace (proc_of x q).doing) (sym (put-other old.nodes c.node a step.node away))
        (same-found home a q node proc (proc_of (old.nodes a) q).doing (proc_of (old.nodes a) q).doing refl (same-itself (proc_of (old.nodes a) q).doing) (found a q node proc))
    | inl here ↦ subst (λ (x : NodeState). IsOpenFound s (proc_at a q) after.trace (proc_of x q).doing) (sym (put-same old.nodes c.node a step.node here))
        (subst (λ b. IsOpenFound s (proc_at b q) after.trace (proc_of step.node q).doing) (sym here) (at-node move))
  ]
    where
      was : IsOpenFound s (proc_at c.node q) old.trace (proc_of n q).doing
      was = found c.node q next.is.node proc

      new-found-at : (p : ℕ) (o : BegunOp) (turn : Turn) → IsNoDecision step.note → q ≡ p → IsOpenFound s (proc_at c.node q) after.trace (doing_after o (proc_of n p) turn)
      new-found-at p o (Turn.Ends reply) none there = tt
      new-found-at p o (Turn.Waits u i) none there = tt
      new-found-at p o (Turn.Asks home ask) none there =
          subst (λ r. IsOpenFound s (proc_at c.node q) after.trace (doing_after o (proc_of n r) (Turn.Asks home ask))) there
          (let late : length (old.calls c.node q) < (proc_of (old.nodes c.node) q).last + 1 = let f = next.calls.last c.node q proc in omega (arith, f) in
          (quiet-found (held_then s c.node old.trace) (proc_at c.node q) ((proc_of (old.nodes c.node) q).last + 1) step.note none, all-new s old (proc_at c.node q) ((proc_of (old.nodes c.node) q).last + 1) late old.trace next.decisions.each))

      at-node : NodeMove g n next.is.incoming step → IsOpenFound s (proc_at c.node q) after.trace (proc_of step.node q).doing
      at-node (still desk same quiet uncalled) = same-found home c.node q next.is.node proc (proc_of n q).doing (proc_of step.node q).doing refl (same q proc) was
      at-node (moved p o stage m owner is_at moves at_desk doing others note call side) = elim (cases_eq q p) [
        | inl there ↦
            subst (λ r. IsOpenFound s (proc_at c.node q) after.trace (proc_of step.node r).doing) (sym there)
            (subst (IsOpenFound s (proc_at c.node q) after.trace) (sym doing) (new-found-at p o m.turn (subst IsNoDecision (sym note) (end-none stage (name_of g p) (proc_of n p).phase o m.turn)) there))
        | inr beside ↦
            subst (λ (x : ProcState). IsOpenFound s (proc_at c.node q) after.trace x.doing) (sym (others q proc beside))
            (same-found home c.node q next.is.node proc (proc_of n q).doing (proc_of n q).doing refl (same-itself (proc_of n q).doing) was)
      ]

  pub found-later : AreOpenFound s old → AreOpenFound s new
  found-later found = subst (AreOpenFound s) (sym next.is.world)
      (step-found
      (desk-moves s setup old c new next)
      (event-home s old c new next) found)

-- in every run
pub found-are : (s : Setup) → IsSetup s → (cs : List Choice) (w : World) → world_after s cs ≡ Some w → IsTimely w → AreOpenFound s w
found-are s setup = every-kept-run s setup (setup-procs s setup) (AreOpenFound s) (λ n p node. by_proc (λ r. IsOpenFound s (proc_at n r) [] (proc_of (first_node (given s n)) r).doing) tt tt tt tt p)
    (λ cs old c new e timely next found. found-later s setup cs old e timely c new next found)

right-open : (s : Setup) (p : ProcName) (notes : List Noted) → AreAnswered s notes → (o : Option OpenOp) → IsOpenFound s p notes o → IsOpenRight p notes o
right-open s p notes are None found = tt
right-open s p notes are (Some o) found = by o.awaits found
  where
    by : (a : Await) → IsAwaitFound s p notes a → IsAwaitRight p notes a
    by (Await.Answer k) found = right-notes s p k.waiting.number notes are found
    by (Await.Page u i) found = tt

pub right-are : (s : Setup) → IsSetup s → (cs : List Choice) (w : World) → world_after s cs ≡ Some w → IsTimely w → AreOpenRight s w
right-are s setup cs w e timely n p node proc = right-open s (proc_at n p) w.trace (replays-are s cs w e).answers (proc_of (w.nodes n) p).doing (found-are s setup cs w e timely n p node proc)
