-- A load or store at its page: what it comes to, however room is made, leaves a desk, asks what a home can be asked, replies
-- what its operation can have, and leaves its process idle or with a call that stands.
use Rattle.std.proofs.Common.{◌≡◌, ℕ, ◌+◌, ◌<◌, ◌≤◌, nat_lt, Bool, true, false, List, [], ◌∷◌, length, reverse, drop, Option, Some, None, IfSome, IsSome, refl, sym, subst, ◌∙◌, arith, length-drop}
use Rattle.std.specs.Prelude.{not, ◌&&◌}
use Rattle.std.specs.List.{list_any}
use Rattle.std.specs.Option.{unwrap_or}
use Rattle.std.proofs.lemmas.Bool.{and_parts}
use Rattle.std.proofs.lemmas.Bool.Decides.{nat_tests}
use Rattle.std.proofs.lemmas.List.{length-take}
use Rattle.uid_names.specs.Names.{ObjectName}
use Rattle.uid_names.specs.declared.limits.TheConstants.{MAX_ROOM, PAGE_BYTES}
use Rattle.dom_history.specs.declared.deed.LockState.{LockState}
use Rattle.dom_history.specs.declared.deed.LockState.TheVariants.{Free, Held, Taking, Releasing, Deleting}
use Rattle.dom_history.specs.declared.op.Op.{Op}
use Rattle.dom_history.specs.declared.op.Op.TheVariants as ops
use Rattle.dom_history.specs.declared.op.Reply.{Reply}
use Rattle.dom_history.specs.declared.op.Reply.TheVariants.{Fine, Bytes}
use Rattle.dom_history.specs.Fitting.{Fits}
use Rattle.dom_history.specs.Replies.{may_write}
use Rattle.dom_history.proofs.Fitting.{fits-bytes}
use Rattle.page_cache.specs.Caches.{Resident, page_at, free_count}
use Rattle.page_cache.specs.Changes.{without_page}
use Rattle.page_cache.proofs.PageLemmas.{page_at-oldest}
use Rattle.uid_names.proofs.Finds.{find-passes}
use Rattle.uid_names.proofs.ListLemmas.{by_cases}
use Rattle.version_stamps.specs.Stamps.{stamp_of}
use Rattle.ring_messages.specs.Bodies.{Ask, body_of_ask}
use Rattle.ring_messages.specs.Ranges.{IsBody}
use Rattle.fault_handler.specs.declared.entries.LockEntry.{LockEntry}
use Rattle.fault_handler.specs.declared.open_call.OpenCall.{OpenCall}
use Rattle.fault_handler.specs.declared.open_call.OpenCall.TheVariants.{Access}
use Rattle.fault_handler.specs.declared.tasks.Work.{Work}
use Rattle.fault_handler.specs.declared.tasks.Work.TheVariants.{Load, Store}
use Rattle.fault_handler.specs.declared.tasks.Task.{Task}
use Rattle.fault_handler.specs.Entries.{grant_in, keeps, keeps_writing}
use Rattle.fault_handler.specs.Transits.{coming, going}
use Rattle.fault_handler.specs.Tasks.{page_of, start_of, size_of}
use Rattle.fault_handler.specs.Desks.{DeskState, IsNode, entry_at, any_keeps, any_writes, open_call_of, task_of, moving_of, others_fetch, grant_among, writing_grant, base_of}
use Rattle.fault_handler.specs.Changes.{with_used, with_stored, with_dropped, with_end, with_fetch, with_eviction}
use Rattle.fault_handler.specs.Outcomes.{Moved, ended, waiting}
use Rattle.fault_handler.specs.Victims.{Victim, MayMakeRoom, is_idle_dirty}
use Rattle.fault_handler.specs.Accesses.{page_out, performed, fetched, room_made, frame_by, missed_by, page_by, page_access}
use Rattle.fault_handler.specs.Invariant.{IsProc, is_dirty, IsAllowed, IsLockEntryState, IsLockEntry, IsDesk}
use Rattle.fault_handler.specs.Conditions.{IsIdle}
use Rattle.fault_handler.specs.Ready.{IsReady, IsReadyAt}
use Rattle.fault_handler.specs.Next.{IsTaskOf, IsCallOf, IsRequest, MayGoOn}
use Rattle.fault_handler.proofs.Fours.{first, second, third, fourth, at-put_same, any-of}
use Rattle.fault_handler.proofs.PageLists.{is_same, same-uid, same-page, page_at-without_same, page_at-without_other}
use Rattle.fault_handler.proofs.PageKeeps.{IsDesk-with_dropped}
use Rattle.fault_handler.proofs.TransitKeeps.{keeps_writing-keeps, any_writes-keeps, dirty-writes}
use Rattle.fault_handler.proofs.Choice.{idle-still, named-there, victim-there}
use Rattle.fault_handler.proofs.Outcomes.{IsAfter, IsServed, Holds}

-- what holds after a load or store whose local tests passed
abbrev pub IsDoneAfter : ℕ → ℕ → ℕ → Op → Moved → Type 0
IsDoneAfter own all p op m = IsAfter own all p op m × IsServed m.turn

-- an entry that is kept is there
kept-there : (o : Option LockEntry) → keeps o ≡ true → IsSome o
kept-there None is = absurd (cc)
kept-there (Some e) is = refl

-- an object that a process keeps has a home that is a node
pub home-kept : (d : DeskState) (q : ℕ) (u : ObjectName) → IsDesk d → IsProc q → keeps (entry_at d.entries q u) ≡ true → IsNode d.nodes u.home
home-kept d q u is proc kept = is.at_nodes.locked q proc u (kept-there (entry_at d.entries q u) kept)

-- so has one that a process of the node keeps in a mode that writes
pub home-written : (d : DeskState) (u : ObjectName) → IsDesk d → any_writes d.entries u ≡ true → IsNode d.nodes u.home
home-written d u is writes =
    let found = any-of (λ q. keeps_writing (entry_at d.entries q u)) writes in
    home-kept d found.0 u is found.1 (keeps_writing-keeps (entry_at d.entries found.0 u) found.2)

-- an idle process is ready
pub ready-idle : (d : DeskState) (p : ℕ) → IsIdle d p → IsReady d p
ready-idle d p idle = subst (IsReadyAt d p) (sym idle.no_call) idle

-- so is one whose load or store is open
pub ready-open : (d : DeskState) (p : ℕ) → open_call_of d p ≡ Some Access → IsReady d p
ready-open d p call = subst (IsReadyAt d p) (sym call) tt

-- an idle process's operation ended
pub ended-after : (d : DeskState) (p : ℕ) (op : Op) (reply : Reply) → IsIdle d p → Fits op reply → IsAfter d.node d.nodes p op (ended d reply)
ended-after d p op reply idle fits = record { node = refl; nodes = refl; asks = tt; ready = ready-idle d p idle; fits = fits; next = idle }

-- the reply to a load is one that its operation can have
load-fits : (op : Op) (task : Task) (count : ℕ) (bytes : List ℕ) → IsTaskOf op (Some task) → task.work ≡ Load count → length bytes ≡ count → Fits op (Bytes bytes)
load-fits (ops.Load spot n) task count bytes of is whole = let e : Load n ≡ Load count = sym of.1 ∙ is in let same : n ≡ count = cc in fits-bytes spot n bytes (whole ∙ sym same)
load-fits (ops.Store spot bs) task count bytes of is whole = absurd (let e : Store bs ≡ Load count = sym of.1 ∙ is in cc)
load-fits op task count bytes of is whole = absurd of

-- so is that to a store
fine-fits : (op : Op) (task : Task) (bytes : List ℕ) → IsTaskOf op (Some task) → task.work ≡ Store bytes → Fits op Fine
fine-fits (ops.Load spot n) task bytes of is = absurd (let e : Load n ≡ Store bytes = sym of.1 ∙ is in cc)
fine-fits (ops.Store spot bs) task bytes of is = refl
fine-fits op task bytes of is = absurd of

-- a load or store that waited may go on
goes-on : (d : DeskState) (p : ℕ) (op : Op) (task : Task) → IsTaskOf op (Some task) → MayGoOn d p op
goes-on d p (ops.Load spot n) task of = tt
goes-on d p (ops.Store spot bs) task of = tt
goes-on d p op task of = absurd of

-- a grant under which an object is written is a number from 1
grant-least : (o : Option LockEntry) → keeps_writing o ≡ true → IfSome o IsLockEntry → 1 ≤ grant_in o
grant-least None writes is = absurd (cc)
grant-least (Some e) writes is = by_state e.state writes is
  where
    by_state : (s : LockState) → (may_write s && not e.released) ≡ true → IsLockEntryState s e.grant → 1 ≤ e.grant
    by_state Free writes is = absurd (cc)
    by_state (Held m) writes is = is
    by_state (Taking m) writes is = absurd (cc)
    by_state (Releasing m) writes is = absurd (cc)
    by_state Deleting writes is = absurd (cc)

module _ (d : DeskState) (is : IsDesk d) (u : ObjectName) where
  -- of an object that a process of the node keeps a stamp was seen
  pub stamp-seen : any_keeps d.entries u ≡ true → IsSome (stamp_of u d.seen)
  stamp-seen kept = let found = any-of (λ q. keeps (entry_at d.entries q u)) kept in is.known.kept found.0 found.1 u found.2

  -- so the base of a page is a stamp
  pub base-least : any_keeps d.entries u ≡ true → 1 ≤ base_of d.seen u
  base-least kept = by_stamp (stamp_of u d.seen) (stamp-seen kept) (is.known.stamps u)
    where
      by_stamp : (o : Option ℕ) → IsSome o → IfSome o (λ stamp. 1 ≤ stamp) → 1 ≤ unwrap_or o 0
      by_stamp None some least = absurd (cc)
      by_stamp (Some s) some least = least

  -- an object is written under a grant
  pub writing_grant-least : any_writes d.entries u ≡ true → 1 ≤ writing_grant d.entries u
  writing_grant-least writes =
      by_test 1 first (2 ∷ 3 ∷ 4 ∷ []) (by_test 2 second (3 ∷ 4 ∷ []) (by_test 3 third (4 ∷ []) (by_test 4 fourth [] (λ h. absurd (cc))))) writes
    where
      by_test : (q : ℕ) → IsProc q → (qs : List ℕ) → (list_any (λ r. keeps_writing (entry_at d.entries r u)) qs ≡ true → 1 ≤ grant_among d.entries u qs) → list_any (λ r. keeps_writing (entry_at d.entries r u)) (q ∷ qs) ≡ true → 1 ≤ grant_among d.entries u (q ∷ qs)
      by_test q proc qs rest h =
          by_cases
          (keeps_writing (entry_at d.entries q u))
          (1 ≤ grant_among d.entries u (q ∷ qs))
          (λ yes_here. rw yes_here (grant-least (entry_at d.entries q u) yes_here (is.entries q proc u)))
          (λ not_here. rw not_here (rest (rw not_here at h)))

-- a page that is sent home is one that a frame can carry
pub page_out-asked : (d : DeskState) → IsDesk d → (u : ObjectName) (k : ℕ) (bytes : List ℕ) → k < MAX_ROOM → length bytes ≡ PAGE_BYTES → any_writes d.entries u ≡ true → IsBody u.home (body_of_ask (page_out d u k bytes))
page_out-asked d is u k bytes within whole writes = (refl, within, writing_grant-least d is u writes, base-least d is u (any_writes-keeps d.entries u writes), whole)

-- a page that is not resident stays so where another is dropped
pub absent-without : (pages : List Resident) (u : ObjectName) (k : ℕ) (v : ObjectName) (j : ℕ) → page_at pages v j ≡ None → page_at (without_page pages u k) v j ≡ None
absent-without pages u k v j none =
    by_cases
    (is_same v j u k)
    (page_at (without_page pages u k) v j ≡ None)
    (λ same. rw (same-uid v j u k same, same-page v j u k same) (page_at-without_same pages u k))
    (λ differ. page_at-without_other pages u k v j differ ∙ none)

module _ (d : DeskState) (p : ℕ) (task : Task) (is : IsDesk d) (proc : IsProc p) (idle : IsIdle d p) (allowed : IsAllowed d.entries p task) (op : Op) (of : IsTaskOf op (Some task)) where
  -- at its page
  pub performed-after : (work : Work) (r : Resident) → task.work ≡ work → length r.bytes ≡ PAGE_BYTES → IsDoneAfter d.node d.nodes p op (performed d task work r)
  performed-after (Load count) r same whole =
      let within : start_of task + count ≤ PAGE_BYTES = subst (λ (w : Work). start_of task + size_of w ≤ PAGE_BYTES) same allowed.range.within in (
        ended-after (with_used d task.uid (page_of task)) p op _ (record { no_call = idle.no_call; no_page = idle.no_page; keeping = idle.keeping })
            (load-fits op task count _ of same (omega (arith, length-take count (drop (start_of task) r.bytes), length-drop (start_of task) r.bytes))),
        refl,
      )
  performed-after (Store bytes) r same whole = (
    ended-after (with_end (with_stored d task.uid (page_of task) (start_of task) bytes) task.uid (task.offset + length bytes)) p op Fine
        (record { no_call = idle.no_call; no_page = idle.no_page; keeping = idle.keeping })
        (fine-fits op task bytes of same),
    refl,
  )

  -- its process waits
  waiting-after : (u : ObjectName) (k : ℕ) → IsDoneAfter d.node d.nodes p op (waiting d u k)
  waiting-after u k = (record { node = refl; nodes = refl; asks = tt; ready = ready-idle d p idle; fits = tt; next = (idle, goes-on d p op task of) }, tt)

  module _ (absent : page_at d.cache.pages task.uid (page_of task) ≡ None) (alone : others_fetch d.moving p task.uid (page_of task) ≡ false) where
    call-fetch : open_call_of (with_fetch d p task) p ≡ Some Access
    call-fetch = at-put_same d.calls p (Some Access) None is.four.calls proc

    fetched-after : (dropped : List (ObjectName × ℕ)) → IsDoneAfter d.node d.nodes p op (fetched d p task dropped)
    fetched-after dropped = (
      record {
        node = refl;
        nodes = refl;
        asks = (home-kept d p task.uid is proc allowed.kept, (refl, allowed.range.page));
        ready = ready-open (with_fetch d p task) p call-fetch;
        fits = tt;
        next = (
          subst (λ (c : Option OpenCall). IsCallOf op (task_of (with_fetch d p task) p) c) (sym call-fetch)
              (subst (λ (o : Option Task). IsTaskOf op o) (sym (at-put_same d.tasks p (Some task) None is.four.tasks proc)) of),
          subst (λ (c : Option OpenCall). IsRequest (moving_of (with_fetch d p task) p) c (Ask.PageIn task.uid (page_of task))) (sym call-fetch)
              (at-put_same d.moving p (coming task.uid (page_of task)) None is.four.moving proc),
        );
      },
      tt,
    )

-- room is made, and the page is asked for
module _ (d : DeskState) (p : ℕ) (task : Task) (is : IsDesk d) (proc : IsProc p) (idle : IsIdle d p) (allowed : IsAllowed d.entries p task) (op : Op) (of : IsTaskOf op (Some task))
    (absent : page_at d.cache.pages task.uid (page_of task) ≡ None) (alone : others_fetch d.moving p task.uid (page_of task) ≡ false) where
  evicted-after : (r : Resident) → page_at d.cache.pages r.uid r.page ≡ Some r → r.flags.dirty ≡ true → IsDoneAfter d.node d.nodes p op (room_made d p task (Victim.SendsHome r))
  evicted-after r found dirty =
      let is_dirty_there : is_dirty (page_at d.cache.pages r.uid r.page) ≡ true = rw found dirty in
      let shown = rw found at (is.pages.each r.uid r.page) in
      let writes = dirty-writes d p is proc r.uid r.page is_dirty_there in
      let call : open_call_of (with_eviction d p task r.uid r.page) p ≡ Some Access = at-put_same d.calls p (Some Access) None is.four.calls proc in (
        record {
          node = refl;
          nodes = refl;
          asks = (home-written d r.uid is writes, page_out-asked d is r.uid r.page r.bytes shown.page shown.bytes writes);
          ready = ready-open (with_eviction d p task r.uid r.page) p call;
          fits = tt;
          next = (
            subst (λ (c : Option OpenCall). IsCallOf op (task_of (with_eviction d p task r.uid r.page) p) c) (sym call)
                (subst (λ (o : Option Task). IsTaskOf op o) (sym (at-put_same d.tasks p (Some task) None is.four.tasks proc)) of),
            subst (λ (c : Option OpenCall). IsRequest (moving_of (with_eviction d p task r.uid r.page) p) c (page_out d r.uid r.page r.bytes)) (sym call)
                (at-put_same d.moving p (going r.uid r.page) None is.four.moving proc),
          );
        },
        tt,
      )

  room_made-after : (victim : Victim) → MayMakeRoom d victim → IsDoneAfter d.node d.nodes p op (room_made d p task victim)
  room_made-after (Victim.Drops u k) may =
      fetched-after (with_dropped d u k) p task (IsDesk-with_dropped d u k is (idle-still d u k may)) proc
      (record { no_call = idle.no_call; no_page = idle.no_page; keeping = idle.keeping }) allowed op of
      (absent-without d.cache.pages u k task.uid (page_of task) absent) alone ((u, k) ∷ [])
  room_made-after (Victim.SendsHome r) may =
      evicted-after r (page_at-oldest d.cache.pages is.pages.once (is_idle_dirty d.moving) r may.1) (choice-dirty r (find-passes (is_idle_dirty d.moving) (reverse d.cache.pages) r may.1))
    where
      choice-dirty : (x : Resident) → is_idle_dirty d.moving x ≡ true → x.flags.dirty ≡ true
      choice-dirty x chosen = (and_parts x.flags.dirty _ chosen).0

  frame_by-after : (free : Bool) → nat_lt 0 (free_count d.cache) ≡ free → Holds p (IsDoneAfter d.node d.nodes p op) (frame_by d p task free)
  frame_by-after true some = fetched-after d p task is proc idle allowed op of absent alone []
  frame_by-after false full = (
    named-there d (victim-there d p is proc idle.no_page (grind (arith, nat_tests, full))),
    is.pages.once,
    room_made-after,
  )

-- a load or store, its local tests passed
module _ (d : DeskState) (p : ℕ) (task : Task) (is : IsDesk d) (proc : IsProc p) (idle : IsIdle d p) (allowed : IsAllowed d.entries p task) (op : Op) (of : IsTaskOf op (Some task)) where
  missed_by-after : page_at d.cache.pages task.uid (page_of task) ≡ None → (fetches : Bool) → others_fetch d.moving p task.uid (page_of task) ≡ fetches → Holds p (IsDoneAfter d.node d.nodes p op) (missed_by d p task fetches)
  missed_by-after absent true others = waiting-after d p task is proc idle allowed op of task.uid (page_of task)
  missed_by-after absent false alone = frame_by-after d p task is proc idle allowed op of absent alone (nat_lt 0 (free_count d.cache)) refl

  page_by-after : (o : Option Resident) → page_at d.cache.pages task.uid (page_of task) ≡ o → Holds p (IsDoneAfter d.node d.nodes p op) (page_by d p task o)
  page_by-after None absent = missed_by-after absent (others_fetch d.moving p task.uid (page_of task)) refl
  page_by-after (Some r) found = let shown = rw found at (is.pages.each task.uid (page_of task)) in performed-after d p task is proc idle allowed op of task.work r refl shown.bytes

  pub page_access-after : Holds p (IsDoneAfter d.node d.nodes p op) (page_access d p task)
  page_access-after = page_by-after (page_at d.cache.pages task.uid (page_of task)) refl
