-- A process asks for a page, sends one home, or moves none any more: each change keeps what each desk keeps.
use Rattle.std.proofs.Common.{◌≡◌, ◌≢◌, ℕ, ◌+◌, ◌-◌, ◌<◌, ◌≤◌, Bool, true, false, List, ◌∷◌, length, Option, Some, None, IfSome, IsSome, count_by, inl, inr, ◌⊎◌, refl, sym, ap, subst, ◌∙◌, arith}
use Rattle.std.specs.Prelude.{not, ◌&&◌}
use Rattle.std.specs.Option.{option_map}
use Rattle.std.proofs.lemmas.Bool.Decides.{nat_tests}
use Rattle.std.proofs.lemmas.Option.{same_Some}
use Rattle.uid_names.specs.Names.{ObjectName}
use Rattle.uid_names.specs.declared.limits.TheConstants.{MAX_ROOM, PAGE_BYTES}
use Rattle.dom_history.specs.declared.deed.LockState.{LockState}
use Rattle.dom_history.specs.declared.deed.LockState.TheVariants.{Free, Held, Taking, Releasing, Deleting}
use Rattle.dom_history.specs.Locks.{is_held}
use Rattle.dom_history.specs.Replies.{may_write}
use Rattle.page_cache.specs.Caches.{Resident, is_page, page_at}
use Rattle.uid_names.proofs.ListLemmas.{by_cases, count_by-cons_passes, count_by-cons_fails, count_by-none}
use Rattle.uid_names.proofs.Somes.{there_is}
use Rattle.fault_handler.specs.declared.entries.LockEntry.{LockEntry}
use Rattle.fault_handler.specs.declared.transits.Transit.{Transit}
use Rattle.fault_handler.specs.declared.tasks.Task.{Task}
use Rattle.fault_handler.specs.declared.open_call.OpenCall.{OpenCall}
use Rattle.fault_handler.specs.declared.open_call.OpenCall.TheVariants.{Access}
use Rattle.fault_handler.specs.Entries.{keeps, keeps_writing}
use Rattle.fault_handler.specs.ShownPages.{fresh_page, changed_page, as_sent, settled}
use Rattle.fault_handler.specs.Transits.{is_moving, inward_count, coming, going}
use Rattle.fault_handler.specs.Tasks.{page_of}
use Rattle.fault_handler.specs.Desks.{DeskState, at, put_at, entry_at, any_keeps, any_writes, open_call_of, task_of, moving_of, others_fetch, is_in_transit_there, count_of}
use Rattle.fault_handler.specs.Changes.{with_fetch, with_sent_page, with_eviction, with_arrival, with_loss, with_room_settled, settled_by, with_page_done}
use Rattle.fault_handler.specs.Invariant.{IsProc, IsShownPage, ArePages, is_dirty, FitsTransit, is_access, IsAllowed, KeepsAll, IsOpenTask, FitsOpen, IsCallAtNode, IsDesk}
use Rattle.fault_handler.specs.Conditions.{IsIdle, IsAccessing, IsNotAccessing}
use Rattle.fault_handler.proofs.Fours.{at-put_same, count_of-at, any-at, any-not, any-more, each-put, length-put}
use Rattle.fault_handler.proofs.PageLists.{is_same, AreOnce, same-uid, same-page, found-uid, page_at-changed_same}
use Rattle.fault_handler.proofs.Alike.{Alike-same, AreAlike, ArePages-changed, Alike-other, Alike-changed}
use Rattle.fault_handler.proofs.MovingOthers.{AreMoved-put, AreOpen-put, AreOpen-moved, moving-uid, moving-page, not_access, is_access-is, access-is, FitsOpen-goes, FitsOpen-going, FitsOpen-still, FitsOpen-task, FitsOpen-comes, alone-absent}
use Rattle.fault_handler.proofs.PageKeeps.{IsShownPage-sent}

-- a process that keeps an object in a mode that writes keeps it
pub keeps_writing-keeps : (o : Option LockEntry) → keeps_writing o ≡ true → keeps o ≡ true
keeps_writing-keeps None is = is
keeps_writing-keeps (Some e) is = by_state e.state is
  where
    by_state : (s : LockState) → (may_write s && not e.released) ≡ true → (is_held s && not e.released) ≡ true
    by_state Free is = is
    by_state (Held m) is = grind (arith, nat_tests, is)
    by_state (Taking m) is = is
    by_state (Releasing m) is = is
    by_state Deleting is = is

pub any_writes-keeps : (entries : List (List LockEntry)) (u : ObjectName) → any_writes entries u ≡ true → any_keeps entries u ≡ true
any_writes-keeps entries u = any-more (λ q. keeps_writing (entry_at entries q u)) (λ q. keeps (entry_at entries q u)) (λ q proc. keeps_writing-keeps (entry_at entries q u))

-- a page that is settled is shown as before
IsShownPage-settled : (entries : List (List LockEntry)) (taken : Bool) (r : Resident) → IsShownPage entries r → IsShownPage entries (settled taken r)
IsShownPage-settled entries taken r shown = record {
  page = shown.page;
  bytes = shown.bytes;
  written = λ dirty. shown.written (let h : (r.flags.dirty && not (taken && r.flags.sent)) ≡ true = dirty in grind (arith, nat_tests, h));
}

module _ (d : DeskState) (p : ℕ) (is : IsDesk d) (proc : IsProc p) where
  -- a process opens or ends a load or store, and moves another page than before
  IsDesk-opened : (reserved : ℕ) (new : List Resident) (call : Option OpenCall) (task : Option Task) (t : Option Transit) → ArePages new d.entries
      → reserved + inward_count (moving_of d p) ≡ d.cache.reserved + inward_count t
      → FitsTransit new d.entries p t → FitsOpen new d.entries p (is_access call) task t → IfSome call (IsCallAtNode d.nodes)
      → ((q : ℕ) → IsProc q → q ≢ p → AreAlike d.cache.pages new (at d.moving q None))
      → ((q : ℕ) → IsProc q → q ≢ p → (v : ObjectName) (j : ℕ) → is_moving v j t ≡ true → is_moving v j (at d.moving q None) ≡ true → ⊥)
      → IsDesk (record d { cache = record d.cache { reserved = reserved; pages = new }; calls = put_at d.calls p call; tasks = put_at d.tasks p task; moving = put_at d.moving p t })
  IsDesk-opened reserved new call task t are inward fits opened located alike alone = record {
    four = record {
      entries = is.four.entries;
      maps = is.four.maps;
      calls = length-put d.calls p call is.four.calls;
      tasks = length-put d.tasks p task is.four.tasks;
      moving = length-put d.moving p t is.four.moving;
    };
    frames = is.frames;
    maps = is.maps;
    pages = are;
    moved = AreMoved-put d.cache.reserved reserved d.cache.pages new d.entries d.moving p t is.four.moving proc is.moved inward fits alike alone;
    calls = AreOpen-put d.cache.pages new d.entries d.calls d.tasks d.moving p call task t is.four.calls is.four.tasks is.four.moving proc is.calls opened alike;
    entries = is.entries;
    known = is.known;
    lengths = is.lengths;
    at_nodes = record {
      locked = is.at_nodes.locked;
      asked = each-put (λ q c. IfSome c (IsCallAtNode d.nodes)) d.calls p call None is.four.calls proc located (λ q other differs. is.at_nodes.asked q other);
    };
  }

  -- a process moves another page than before
  IsDesk-moved : (new : List Resident) (t : Option Transit) → ArePages new d.entries
      → d.cache.reserved + inward_count (moving_of d p) ≡ d.cache.reserved + inward_count t
      → FitsTransit new d.entries p t → FitsOpen new d.entries p (is_access (open_call_of d p)) (task_of d p) t
      → ((q : ℕ) → IsProc q → q ≢ p → AreAlike d.cache.pages new (at d.moving q None))
      → ((q : ℕ) → IsProc q → q ≢ p → (v : ObjectName) (j : ℕ) → is_moving v j t ≡ true → is_moving v j (at d.moving q None) ≡ true → ⊥)
      → IsDesk (record d { cache = record d.cache { pages = new }; moving = put_at d.moving p t })
  IsDesk-moved new t are inward fits opened alike alone = record {
    four = record { entries = is.four.entries; maps = is.four.maps; calls = is.four.calls; tasks = is.four.tasks; moving = length-put d.moving p t is.four.moving };
    frames = is.frames;
    maps = is.maps;
    pages = are;
    moved = AreMoved-put d.cache.reserved d.cache.reserved d.cache.pages new d.entries d.moving p t is.four.moving proc is.moved inward fits alike alone;
    calls = AreOpen-moved d.cache.pages new d.entries d.calls d.tasks d.moving p t is.four.moving proc is.calls opened alike;
    entries = is.entries;
    known = is.known;
    lengths = is.lengths;
    at_nodes = is.at_nodes;
  }

  -- another process moves another page
  other_page : (u : ObjectName) (k : ℕ) → is_moving u k (moving_of d p) ≡ true → (q : ℕ) → IsProc q → q ≢ p → (v : ObjectName) (j : ℕ) → is_moving v j (at d.moving q None) ≡ true → is_same v j u k ≡ false
  other_page u k own q other differs v j moves =
      by_cases
      (is_same v j u k)
      (is_same v j u k ≡ false)
      (λ same.
      let a : is_moving u k (at d.moving q None) ≡ true = subst (λ (w : ObjectName). is_moving w k (at d.moving q None) ≡ true) (same-uid v j u k same) (subst (λ (n : ℕ). is_moving v n (at d.moving q None) ≡ true) (same-page v j u k same) moves) in
      absurd (differs (is.moved.apart q p other proc u k a own)))
      (λ h. h)

  -- a process whose load or store is open keeps each object on which it is Held
  pub open_task : IsAccessing d p → (a : Task) × (m : Transit) × (task_of d p ≡ Some a) × (moving_of d p ≡ Some m) × IsOpenTask d.cache.pages d.entries p a m
  open_task access = FitsOpen-task d.cache.pages d.entries p (is_access (open_call_of d p)) (task_of d p) (moving_of d p) (is_access-is (open_call_of d p) access) (is.calls p proc)

  pub KeepsAll-open : IsAccessing d p → KeepsAll d.entries p
  KeepsAll-open access = (open_task access).4.keeping

  -- one is open where a page comes
  pub IsAccessing-comes : (u : ObjectName) (k : ℕ) → moving_of d p ≡ coming u k → IsAccessing d p
  IsAccessing-comes u k comes =
      access-is (open_call_of d p)
      (FitsOpen-comes d.cache.pages d.entries p (is_access (open_call_of d p)) (task_of d p) (record { uid = u; page = k; inward = true }) refl
      (subst (FitsOpen d.cache.pages d.entries p (is_access (open_call_of d p)) (task_of d p)) comes (is.calls p proc)))

  -- a process asks for the page of its load or store
  pub IsDesk-with_fetch : (task : Task) → IsIdle d p → page_at d.cache.pages task.uid (page_of task) ≡ None → others_fetch d.moving p task.uid (page_of task) ≡ false → IsAllowed d.entries p task → IsDesk (with_fetch d p task)
  IsDesk-with_fetch task idle absent alone allowed =
      IsDesk-opened (d.cache.reserved + 1) d.cache.pages (Some Access) (Some task) (coming task.uid (page_of task)) is.pages
      (rw idle.no_page (omega arith)) (absent, allowed.kept)
      (record { allowed = allowed; keeping = idle.keeping; comes = λ e. grind (arith, nat_tests); goes = λ e. absurd (cc) })
      tt
      (λ q other differs v j moves. Alike-same d.cache.pages d.cache.pages v j refl)
      (λ q other differs v j own moves.
      alone-absent d.cache.pages d.entries d.cache.reserved d.moving p task.uid (page_of task) is.moved absent alone q other differs
      (subst (λ (w : ObjectName). is_moving w (page_of task) (at d.moving q None) ≡ true) (sym (same-uid task.uid (page_of task) v j own))
      (subst (λ (n : ℕ). is_moving v n (at d.moving q None) ≡ true) (sym (same-page task.uid (page_of task) v j own)) moves)))

  -- a page that is not in transit is moved by no process
  unmoved : (u : ObjectName) (k : ℕ) → is_in_transit_there d.moving u k ≡ false → (q : ℕ) → IsProc q → (v : ObjectName) (j : ℕ) → is_moving v j (going u k) ≡ true → is_moving v j (at d.moving q None) ≡ true → ⊥
  unmoved u k still q other v j own moves =
      let here : is_moving u k (at d.moving q None) ≡ true = subst (λ (w : ObjectName). is_moving w k (at d.moving q None) ≡ true) (sym (same-uid u k v j own)) (subst (λ (n : ℕ). is_moving v n (at d.moving q None) ≡ true) (sym (same-page u k v j own)) moves) in
      let none : is_moving u k (at d.moving q None) ≡ false = any-not (λ r. is_moving u k (at d.moving r None)) still q other in
      let e : true ≡ false = sym here ∙ none in
      cc

  -- a page that is sent is resident, and as dirty as it was
  sent-there : (u : ObjectName) (k : ℕ) → IsSome (page_at d.cache.pages u k) → IsSome (page_at (changed_page u k as_sent d.cache.pages) u k)
  sent-there u k there = let r = there_is (page_at d.cache.pages u k) there in rw (page_at-changed_same u k as_sent (λ v j s. refl) d.cache.pages, r.1) refl

  sent-dirty : (u : ObjectName) (k : ℕ) → is_dirty (page_at d.cache.pages u k) ≡ true → is_dirty (page_at (changed_page u k as_sent d.cache.pages) u k) ≡ true
  sent-dirty u k dirty = rw (page_at-changed_same u k as_sent (λ v j s. refl) d.cache.pages) (by_found (page_at d.cache.pages u k) dirty)
    where
      by_found : (o : Option Resident) → is_dirty o ≡ true → is_dirty (option_map as_sent o) ≡ true
      by_found None h = h
      by_found (Some r) h = h

  -- a page that a process sends home is resident, and a process keeps its object
  pub going-resident : (u : ObjectName) (k : ℕ) → moving_of d p ≡ going u k → IsSome (page_at d.cache.pages u k) × (any_keeps d.entries u ≡ true)
  going-resident u k goes = subst (FitsTransit d.cache.pages d.entries p) goes (is.moved.each p proc)

  -- one that comes is not resident, and the process keeps its object
  pub coming-absent : (u : ObjectName) (k : ℕ) → moving_of d p ≡ coming u k → (page_at d.cache.pages u k ≡ None) × (keeps (entry_at d.entries p u) ≡ true)
  coming-absent u k comes = subst (FitsTransit d.cache.pages d.entries p) comes (is.moved.each p proc)

  -- a process sends a page home, or sends it again
  pub IsDesk-with_sent_page : (u : ObjectName) (k : ℕ) → keeps (entry_at d.entries p u) ≡ true → IsNotAccessing d p → (moving_of d p ≡ None) ⊎ (moving_of d p ≡ going u k) → IsSome (page_at d.cache.pages u k)
      → (moving_of d p ≡ None → is_in_transit_there d.moving u k ≡ false) → IsDesk (with_sent_page d p u k)
  IsDesk-with_sent_page u k keeping other ready there still =
      IsDesk-moved (changed_page u k as_sent d.cache.pages) (going u k)
      (ArePages-changed u k as_sent (λ v j r. refl) d.cache.pages d.entries is.pages (λ r found shown. IsShownPage-sent d.entries r shown))
      (inward ready)
      (sent-there u k there, any-at (λ q. keeps (entry_at d.entries q u)) p proc keeping)
      (FitsOpen-going d.cache.pages d.entries p (changed_page u k as_sent d.cache.pages) (is_access (open_call_of d p)) (task_of d p) (moving_of d p) u k (not_access (open_call_of d p) other) keeping (is.calls p proc))
      (λ q proc_q differs v j moves. Alike-changed u k as_sent (λ v j r. refl) d.cache.pages (λ r h. h) v j)
      (alone ready)
    where
      inward : (moving_of d p ≡ None) ⊎ (moving_of d p ≡ going u k) → d.cache.reserved + inward_count (moving_of d p) ≡ d.cache.reserved + inward_count (going u k)
      inward (inl none) = rw none refl
      inward (inr goes) = rw goes refl

      alone : (moving_of d p ≡ None) ⊎ (moving_of d p ≡ going u k) → (q : ℕ) → IsProc q → q ≢ p → (v : ObjectName) (j : ℕ) → is_moving v j (going u k) ≡ true → is_moving v j (at d.moving q None) ≡ true → ⊥
      alone (inl none) q proc_q differs v j own moves = unmoved u k (still none) q proc_q v j own moves
      alone (inr goes) q proc_q differs v j own moves = differs (is.moved.apart q p proc_q proc v j moves (subst (λ (t : Option Transit). is_moving v j t ≡ true) (sym goes) own))

  -- a dirty page is of an object that a process of the node keeps in a mode that writes
  pub dirty-writes : (u : ObjectName) (k : ℕ) → is_dirty (page_at d.cache.pages u k) ≡ true → any_writes d.entries u ≡ true
  dirty-writes u k dirty = by_found (page_at d.cache.pages u k) refl dirty (is.pages.each u k)
    where
      by_found : (o : Option Resident) → page_at d.cache.pages u k ≡ o → is_dirty o ≡ true → IfSome o (IsShownPage d.entries) → any_writes d.entries u ≡ true
      by_found None found dirty shown = absurd (cc)
      by_found (Some r) found dirty shown = subst (λ (v : ObjectName). any_writes d.entries v ≡ true) (found-uid d.cache.pages u k r found) (shown.written dirty)

  -- what is dirty is resident
  dirty-there : (o : Option Resident) → is_dirty o ≡ true → IsSome o
  dirty-there None is = absurd (cc)
  dirty-there (Some r) is = refl

  -- a process sends a dirty page home, to make room for that of its load or store
  pub IsDesk-with_eviction : (task : Task) (u : ObjectName) (k : ℕ) → IsIdle d p → is_dirty (page_at d.cache.pages u k) ≡ true → is_in_transit_there d.moving u k ≡ false → IsAllowed d.entries p task → IsDesk (with_eviction d p task u k)
  IsDesk-with_eviction task u k idle dirty still allowed =
      let there = dirty-there (page_at d.cache.pages u k) dirty in
      IsDesk-opened d.cache.reserved (changed_page u k as_sent d.cache.pages) (Some Access) (Some task) (going u k)
      (ArePages-changed u k as_sent (λ v j r. refl) d.cache.pages d.entries is.pages (λ r found shown. IsShownPage-sent d.entries r shown))
      (rw idle.no_page refl)
      (sent-there u k there, any_writes-keeps d.entries u (dirty-writes u k dirty))
      (record { allowed = allowed; keeping = idle.keeping; comes = λ e. absurd (cc); goes = λ e. sent-dirty u k dirty })
      tt
      (λ q other differs v j moves. Alike-changed u k as_sent (λ v j r. refl) d.cache.pages (λ r h. h) v j)
      (λ q other differs v j own moves. unmoved u k still q other v j own moves)

  -- a page comes to the load or store that needs it
  pub page-comes : (u : ObjectName) (k : ℕ) → moving_of d p ≡ coming u k → (a : Task) × (task_of d p ≡ Some a) × (a.uid ≡ u) × (page_of a ≡ k) × (k < MAX_ROOM) × IsAllowed d.entries p a × KeepsAll d.entries p
  page-comes u k comes =
      let found = open_task (IsAccessing-comes u k comes) in
      let a = found.0 in
      let m = found.1 in
      let same : Some m ≡ coming u k = sym found.3 ∙ comes in
      let is_m : m ≡ record { uid = u; page = k; inward = true } = same_Some m (record { uid = u; page = k; inward = true }) same in
      let needs : is_moving a.uid (page_of a) (Some m) ≡ true = found.4.comes (ap (λ (t : Transit). t.inward) is_m) in
      let uid : a.uid ≡ u = sym (moving-uid a.uid (page_of a) m needs) ∙ ap (λ (t : Transit). t.uid) is_m in
      let page : page_of a ≡ k = sym (moving-page a.uid (page_of a) m needs) ∙ ap (λ (t : Transit). t.page) is_m in
      (a, found.2, uid, page, subst (λ (n : ℕ). n < MAX_ROOM) page found.4.allowed.range.page, found.4.allowed, found.4.keeping)

  -- a frame is reserved for it
  pub reserved-least : (u : ObjectName) (k : ℕ) → moving_of d p ≡ coming u k → 1 ≤ d.cache.reserved
  reserved-least u k comes =
      let all : d.cache.reserved ≡ count_of inward_count d.moving = is.moved.reserved in
      let one : inward_count (moving_of d p) ≤ count_of inward_count d.moving = count_of-at inward_count d.moving p proc in
      let here : inward_count (moving_of d p) ≡ 1 = rw comes refl in
      omega arith

  -- the page came that a load or store asked for
  pub IsDesk-with_arrival : (u : ObjectName) (k : ℕ) (bytes : List ℕ) → moving_of d p ≡ coming u k → length bytes ≡ PAGE_BYTES → IsDesk (with_arrival d p u k bytes)
  IsDesk-with_arrival u k bytes comes whole =
      IsDesk-opened (d.cache.reserved - 1) (fresh_page u k bytes ∷ d.cache.pages) None None None
      (record { once = once; each = shown })
      (let one = reserved-least u k comes in rw comes (omega arith))
      tt tt tt
      (λ q other differs v j moves. Alike-same d.cache.pages (fresh_page u k bytes ∷ d.cache.pages) v j (rw (apart-from q other differs v j moves) refl))
      (λ q other differs v j own moves. absurd (cc))
    where
      own : is_moving u k (moving_of d p) ≡ true
      own = rw comes (grind (arith, nat_tests))

      absent : page_at d.cache.pages u k ≡ None
      absent = (coming-absent u k comes).0

      apart-from : (q : ℕ) → IsProc q → q ≢ p → (v : ObjectName) (j : ℕ) → is_moving v j (at d.moving q None) ≡ true → is_same u k v j ≡ false
      apart-from q other differs v j moves = let a : is_same v j u k ≡ false = other_page u k own q other differs v j moves in grind (arith, nat_tests, a)

      once : AreOnce (fresh_page u k bytes ∷ d.cache.pages)
      once v j =
          by_cases
          (is_same u k v j)
          (count_by (is_page v j) (fresh_page u k bytes ∷ d.cache.pages) ≤ 1)
          (λ same.
          let none : count_by (is_page v j) d.cache.pages ≡ 0 = subst (λ (w : ObjectName). count_by (is_page w j) d.cache.pages ≡ 0) (same-uid u k v j same) (subst (λ (n : ℕ). count_by (is_page u n) d.cache.pages ≡ 0) (same-page u k v j same) (count_by-none (is_page u k) d.cache.pages absent)) in
          omega (arith, count_by-cons_passes (is_page v j) (fresh_page u k bytes) d.cache.pages same))
          (λ differ. omega (arith, count_by-cons_fails (is_page v j) (fresh_page u k bytes) d.cache.pages differ, is.pages.once v j))

      shown : (v : ObjectName) (j : ℕ) → IfSome (page_at (fresh_page u k bytes ∷ d.cache.pages) v j) (IsShownPage d.entries)
      shown v j =
          by_cases
          (is_same u k v j)
          (IfSome (page_at (fresh_page u k bytes ∷ d.cache.pages) v j) (IsShownPage d.entries))
          (λ same. rw same (record { page = (page-comes u k comes).4; bytes = whole; written = λ dirty. absurd (cc) }))
          (λ differ. rw differ (is.pages.each v j))

  -- it will not come
  pub IsDesk-with_loss : (u : ObjectName) (k : ℕ) → moving_of d p ≡ coming u k → IsDesk (with_loss d p)
  IsDesk-with_loss u k comes =
      IsDesk-opened (d.cache.reserved - 1) d.cache.pages None None None is.pages
      (let one = reserved-least u k comes in rw comes (omega arith))
      tt tt tt
      (λ q other differs v j moves. Alike-same d.cache.pages d.cache.pages v j refl)
      (λ q other differs v j own moves. absurd (cc))

  -- a page that the process sent home is on its way no more
  module _ (u : ObjectName) (k : ℕ) (taken : Bool) (goes : moving_of d p ≡ going u k) where
    ArePages-settled : ArePages (changed_page u k (settled taken) d.cache.pages) d.entries
    ArePages-settled = ArePages-changed u k (settled taken) (λ v j r. refl) d.cache.pages d.entries is.pages (λ r found shown. IsShownPage-settled d.entries taken r shown)

    alike-settled : (q : ℕ) → IsProc q → q ≢ p → AreAlike d.cache.pages (changed_page u k (settled taken) d.cache.pages) (at d.moving q None)
    alike-settled q other differs v j moves =
        let own : is_moving u k (moving_of d p) ≡ true = rw goes (grind (arith, nat_tests)) in
        Alike-other u k (settled taken) (λ w i r. refl) d.cache.pages v j (other_page u k own q other differs v j moves)

    -- the page that made room is on its way no more
    pub IsDesk-with_room_settled : IsDesk (with_room_settled d p u k taken)
    IsDesk-with_room_settled =
        IsDesk-opened d.cache.reserved (changed_page u k (settled taken) d.cache.pages) None None None ArePages-settled (rw goes refl) tt tt tt alike-settled
        (λ q other differs v j own moves. absurd (cc))

    -- the page that a process sent home is on its way no more
    IsDesk-sent_settled : IsNotAccessing d p → IsDesk (record d { cache = record d.cache { pages = changed_page u k (settled taken) d.cache.pages }; moving = put_at d.moving p None })
    IsDesk-sent_settled other =
        IsDesk-moved (changed_page u k (settled taken) d.cache.pages) None ArePages-settled (rw goes refl) tt
        (FitsOpen-still d.cache.pages d.entries p (changed_page u k (settled taken) d.cache.pages) (is_access (open_call_of d p)) (task_of d p) (moving_of d p) (not_access (open_call_of d p) other) (is.calls p proc))
        alike-settled
        (λ q other_q differs v j own moves. absurd (cc))

  -- a process of which no load or store is open moves a page home alone
  pub going-of : IsNotAccessing d p → (t : Transit) → moving_of d p ≡ Some t → moving_of d p ≡ going t.uid t.page
  going-of other t moves =
      let away : t.inward ≡ false = FitsOpen-goes d.cache.pages d.entries p (is_access (open_call_of d p)) (task_of d p) t (not_access (open_call_of d p) other) (subst (FitsOpen d.cache.pages d.entries p (is_access (open_call_of d p)) (task_of d p)) moves (is.calls p proc)) in
      moves ∙ (λ i. Some (record { uid = t.uid; page = t.page; inward = away i }))

  -- the transit of the page that a process sent home ended
  pub IsDesk-with_page_done : (taken : Bool) → IsNotAccessing d p → IsDesk (with_page_done d p taken)
  IsDesk-with_page_done taken other = by_moving (moving_of d p) refl
    where
      by_moving : (o : Option Transit) → moving_of d p ≡ o → IsDesk (record d { cache = record d.cache { pages = settled_by o taken d.cache.pages }; moving = put_at d.moving p None })
      by_moving None moves =
          IsDesk-moved d.cache.pages None is.pages (rw moves refl) tt
          (FitsOpen-still d.cache.pages d.entries p d.cache.pages (is_access (open_call_of d p)) (task_of d p) (moving_of d p) (not_access (open_call_of d p) other) (is.calls p proc))
          (λ q other_q differs v j moved. Alike-same d.cache.pages d.cache.pages v j refl)
          (λ q other_q differs v j own moved. absurd (cc))
      by_moving (Some t) moves = IsDesk-sent_settled t.uid t.page taken (going-of other t moves) other

  -- a process whose load or store is open no more may go on
  ended-call : at (put_at d.calls p None) p None ≡ None
  ended-call = at-put_same d.calls p None None is.four.calls proc

  ended-page : at (put_at d.moving p None) p None ≡ None
  ended-page = at-put_same d.moving p None None is.four.moving proc

  pub IsIdle-with_arrival : (u : ObjectName) (k : ℕ) (bytes : List ℕ) → moving_of d p ≡ coming u k → IsIdle (with_arrival d p u k bytes) p
  IsIdle-with_arrival u k bytes comes = record { no_call = ended-call; no_page = ended-page; keeping = KeepsAll-open (IsAccessing-comes u k comes) }

  pub IsIdle-with_loss : (u : ObjectName) (k : ℕ) → moving_of d p ≡ coming u k → IsIdle (with_loss d p) p
  IsIdle-with_loss u k comes = record { no_call = ended-call; no_page = ended-page; keeping = KeepsAll-open (IsAccessing-comes u k comes) }

  pub IsIdle-with_room_settled : (u : ObjectName) (k : ℕ) (taken : Bool) → IsAccessing d p → IsIdle (with_room_settled d p u k taken) p
  IsIdle-with_room_settled u k taken access = record { no_call = ended-call; no_page = ended-page; keeping = KeepsAll-open access }

  -- and one that asked a home waits for its answer
  pub IsAccessing-with_fetch : (task : Task) → IsAccessing (with_fetch d p task) p
  IsAccessing-with_fetch task = at-put_same d.calls p (Some Access) None is.four.calls proc

  pub IsAccessing-with_eviction : (task : Task) (u : ObjectName) (k : ℕ) → IsAccessing (with_eviction d p task u k) p
  IsAccessing-with_eviction task u k = at-put_same d.calls p (Some Access) None is.four.calls proc
