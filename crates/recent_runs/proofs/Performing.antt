-- What a load or store makes of the order of its cache's pages.
use Rattle.std.proofs.Common.{◌≡◌, ℕ, Bool, true, false, List, ◌∷◌, Option, Some, None, refl, sym, ap, subst, ◌∙◌}
use Rattle.std.specs.Prelude.{nat_lt, filter, length, ◌*◌, ◌+◌}
use Rattle.std.specs.Option.{option_map}
use Rattle.lock_validate.proofs.Facts.{page_at-fresh}
use Rattle.uid_names.specs.Names.{ObjectName}
use Rattle.uid_names.specs.declared.limits.TheConstants.{PAGE_BYTES}
use Rattle.dom_history.specs.declared.op.Op.{Op}
use Rattle.dom_history.specs.declared.op.Op.TheVariants as ops
use Rattle.dom_history.specs.declared.op.Spot.{Spot}
use Rattle.dom_history.specs.declared.op.Reply.{Reply}
use Rattle.dom_history.specs.Locks.{is_held}
use Rattle.dom_history.specs.Replies.{may_write}
use Rattle.page_cache.specs.Caches.{Resident, page_at, free_count}
use Rattle.page_cache.specs.Changes.{without_page}
use Rattle.fault_handler.specs.declared.tasks.Work.{Work}
use Rattle.fault_handler.specs.declared.tasks.Work.TheVariants.{Load, Store}
use Rattle.fault_handler.specs.declared.tasks.Task.{Task}
use Rattle.fault_handler.specs.Lengths.{known_of, length_of, room_of}
use Rattle.fault_handler.specs.ShownPages.{fresh_page}
use Rattle.fault_handler.specs.Tasks.{page_of, start_of}
use Rattle.fault_handler.specs.Desks.{DeskState, state_of, others_fetch, base_of}
use Rattle.fault_handler.specs.Outcomes.{Turn, Moved}
use Rattle.fault_handler.specs.Changes.{with_raised, with_arrival}
use Rattle.fault_handler.specs.Victims.{Victim}
use Rattle.fault_handler.specs.Accesses.{DeskOp, Accessed, performed, page_by, missed_by, frame_by, page_access, room_made, task_at, target_of, load_by, load_at, store_by, store_at, access_of}
use Rattle.fault_handler.specs.PageReplies.{PageAnswer, page_by_stamp, page_came_of, room_taken}
use Rattle.node_runs.specs.Rooms.{MayMove}
use Rattle.run_laws.proofs.OpenTasks.{open_task_of}
use Rattle.recent_runs.specs.Uses.{PageName, page_around, used_by_load, used_by_store, used_by}
use Rattle.recent_runs.proofs.Orders.{apart}
use Rattle.recent_runs.proofs.PageNames.{names, Kept, kept-same, kept-fewer, kept-used, sent-names, settled-names, without-names, used-names, stored-names, once-more}

-- the page that a load or store uses that is answered so
abbrev pub used_by_work : Work → Reply → Option PageName → Option PageName
used_by_work (Load count) reply page = used_by_load reply page
used_by_work (Store bytes) reply page = used_by_store reply page

-- and that comes to this turn
abbrev pub done_use : Task → Work → Turn → Option PageName
done_use task work (Turn.Ends reply) = used_by_work work reply (Some (task.uid, page_of task))
done_use task work turn = None

abbrev pub DoneKept : DeskState → Task → Moved → Type 0
DoneKept d task m = Kept (done_use task task.work m.turn) d.cache.pages m.desk.cache.pages

pub kept-then : (page : Option PageName) (a b c : List Resident) → Kept None a b → Kept page b c → Kept page a c
kept-then page a b c one two used are = two used (one used are)

-- it is done at its page, which comes to the front
performed-names : (d : DeskState) (task : Task) (work : Work) (r : Resident) → page_at d.cache.pages task.uid (page_of task) ≡ Some r
    → names (performed d task work r).desk.cache.pages ≡ (task.uid, page_of task) ∷ filter (apart (task.uid, page_of task)) (names d.cache.pages)
performed-names d task (Load count) r found = used-names d.cache.pages task.uid (page_of task) r found
performed-names d task (Store bytes) r found = stored-names d.cache.pages task.uid (page_of task) (start_of task) bytes r found

performed-use : (d : DeskState) (task : Task) (work : Work) (r : Resident) → done_use task work (performed d task work r).turn ≡ Some (task.uid, page_of task)
performed-use d task (Load count) r = refl
performed-use d task (Store bytes) r = refl

performed-kept : (d e : DeskState) (task : Task) (work : Work) (r : Resident) → names (performed e task work r).desk.cache.pages ≡ (task.uid, page_of task) ∷ filter (apart (task.uid, page_of task)) (names d.cache.pages)
    → Kept (done_use task work (performed e task work r).turn) d.cache.pages (performed e task work r).desk.cache.pages
performed-kept d e task work r same = subst (λ page. Kept page d.cache.pages (performed e task work r).desk.cache.pages) (sym (performed-use e task work r)) (kept-used d.cache.pages (performed e task work r).desk.cache.pages (task.uid, page_of task) same)

-- a load or store looks for its page
module _ (d : DeskState) (p : ℕ) (task : Task) (to : Moved) where
  room-kept : (v : Victim) → DoneKept d task (room_made d p task v)
  room-kept (Victim.Drops u k) = kept-fewer d.cache.pages (without_page d.cache.pages u k) (apart (u, k)) (without-names d.cache.pages u k)
  room-kept (Victim.SendsHome r) = kept-same d.cache.pages (room_made d p task (Victim.SendsHome r)).desk.cache.pages (sent-names r.uid r.page d.cache.pages)

  framed : (b : Bool) → MayMove p (frame_by d p task b) to → DoneKept d task to
  framed true may = subst (DoneKept d task) (sym may) (λ used are. are)
  framed false may = subst (DoneKept d task) (sym may.2) (room-kept may.0)

  missed : (b : Bool) → MayMove p (missed_by d p task b) to → DoneKept d task to
  missed true may = subst (DoneKept d task) (sym may) (λ used are. are)
  missed false may = framed (nat_lt 0 (free_count d.cache)) may

  by-page : (o : Option Resident) → page_at d.cache.pages task.uid (page_of task) ≡ o → MayMove p (page_by d p task o) to → DoneKept d task to
  by-page (Some r) found may = subst (DoneKept d task) (sym may) (performed-kept d d task task.work r (performed-names d task task.work r found))
  by-page None absent may = missed (others_fetch d.moving p task.uid (page_of task)) may

  pub page-kept : MayMove p (page_access d p task) to → DoneKept d task to
  page-kept may = by-page (page_at d.cache.pages task.uid (page_of task)) refl may

-- its page came, or the one that made room was taken or not
module _ (d : DeskState) (p : ℕ) (to : Moved) where
  came-kept : (task : Task) (stamp : ℕ) (bytes : List ℕ) (b : Bool) → MayMove p (Accessed.Settled (page_by_stamp d p task stamp bytes b)) to → DoneKept d task to
  came-kept task stamp bytes true may = subst (DoneKept d task) (sym may) (λ used are. are)
  came-kept task stamp bytes false may = subst (DoneKept d task) (sym may)
      (performed-kept d (with_arrival (with_raised d task.uid stamp) p task.uid (page_of task) bytes) task task.work (fresh_page task.uid (page_of task) bytes)
      (performed-names (with_arrival (with_raised d task.uid stamp) p task.uid (page_of task) bytes) task task.work (fresh_page task.uid (page_of task) bytes) (page_at-fresh task.uid (page_of task) bytes d.cache.pages)
      ∙ ap (λ (ns : List PageName). (task.uid, page_of task) ∷ ns) (once-more (task.uid, page_of task) (names d.cache.pages))))

  pub answer-kept : (a : PageAnswer) → MayMove p (page_came_of d p a) to → DoneKept d (open_task_of a) to
  answer-kept (PageAnswer.Came task stamp bytes) may = came-kept task stamp bytes (nat_lt stamp (base_of d.seen task.uid)) may
  answer-kept (PageAnswer.Taken task r stamp) may =
      kept-then (done_use task task.work to.turn) d.cache.pages (room_taken d p r stamp).cache.pages to.desk.cache.pages
      (kept-same d.cache.pages (room_taken d p r stamp).cache.pages (settled-names r.uid r.page true d.cache.pages)) (page-kept (room_taken d p r stamp) p task to may)
  answer-kept (PageAnswer.NotTaken task r stamp) may = subst (DoneKept d task) (sym may) (kept-same d.cache.pages _ (sent-names r.uid r.page d.cache.pages))

-- what an operation uses that comes to this turn
abbrev pub op_use : DeskState → ℕ → Op → Turn → Option PageName
op_use d p op (Turn.Ends reply) = used_by d p op reply
op_use d p op turn = None

pub load-use : (d : DeskState) (p : ℕ) (spot : Spot) (count : ℕ) (task : Task) → target_of d p spot ≡ Some (task.uid, task.offset) → task.work ≡ Load count → (turn : Turn) → done_use task task.work turn ≡ op_use d p (ops.Load spot count) turn
load-use d p spot count task at work (Turn.Ends reply) = λ i. used_by_work (work i) reply (option_map page_around (sym at i))
load-use d p spot count task at work (Turn.Asks home ask) = refl
load-use d p spot count task at work (Turn.Waits u k) = refl

pub store-use : (d : DeskState) (p : ℕ) (spot : Spot) (bytes : List ℕ) (task : Task) → target_of d p spot ≡ Some (task.uid, task.offset) → task.work ≡ Store bytes → (turn : Turn) → done_use task task.work turn ≡ op_use d p (ops.Store spot bytes) turn
store-use d p spot bytes task at work (Turn.Ends reply) = λ i. used_by_work (work i) reply (option_map page_around (sym at i))
store-use d p spot bytes task at work (Turn.Asks home ask) = refl
store-use d p spot bytes task at work (Turn.Waits u k) = refl

abbrev pub OpKept : DeskState → ℕ → Op → Moved → Type 0
OpKept d p op m = Kept (op_use d p op m.turn) d.cache.pages m.desk.cache.pages

-- a load or store begins, or begins anew
module _ (d : DeskState) (p : ℕ) (spot : Spot) (to : Moved) where
  module _ (count : ℕ) where
    load-by : (u : ObjectName) (offset : ℕ) → target_of d p spot ≡ Some (u, offset) → (held past : Bool) → MayMove p (load_by d p (task_at u offset (Load count)) held past) to → OpKept d p (ops.Load spot count) to
    load-by u offset at false past may = subst (OpKept d p (ops.Load spot count)) (sym may) (λ used are. are)
    load-by u offset at true true may = subst (OpKept d p (ops.Load spot count)) (sym may) (λ used are. are)
    load-by u offset at true false may =
        subst (λ page. Kept page d.cache.pages to.desk.cache.pages) (load-use d p spot count (task_at u offset (Load count)) at refl to.turn)
        (page-kept d p (task_at u offset (Load count)) to may)

    load-at : (o : Option (ObjectName × ℕ)) → target_of d p spot ≡ o → MayMove p (load_at d p count o) to → OpKept d p (ops.Load spot count) to
    load-at None at may = subst (OpKept d p (ops.Load spot count)) (sym may) (λ used are. are)
    load-at (Some (u, offset)) at may = load-by u offset at (is_held (state_of d p u)) (nat_lt (length_of (known_of u d.known)) (offset + count)) may

    pub load-kept : MayMove p (access_of d p (DeskOp.Loads spot count)) to → OpKept d p (ops.Load spot count) to
    load-kept may = load-at (target_of d p spot) refl may

  module _ (bytes : List ℕ) where
    store-by : (u : ObjectName) (offset : ℕ) → target_of d p spot ≡ Some (u, offset) → (held writes past : Bool) → MayMove p (store_by d p (task_at u offset (Store bytes)) held writes past) to → OpKept d p (ops.Store spot bytes) to
    store-by u offset at false writes past may = subst (OpKept d p (ops.Store spot bytes)) (sym may) (λ used are. are)
    store-by u offset at true false past may = subst (OpKept d p (ops.Store spot bytes)) (sym may) (λ used are. are)
    store-by u offset at true true true may = subst (OpKept d p (ops.Store spot bytes)) (sym may) (λ used are. are)
    store-by u offset at true true false may =
        subst (λ page. Kept page d.cache.pages to.desk.cache.pages) (store-use d p spot bytes (task_at u offset (Store bytes)) at refl to.turn)
        (page-kept d p (task_at u offset (Store bytes)) to may)

    store-at : (o : Option (ObjectName × ℕ)) → target_of d p spot ≡ o → MayMove p (store_at d p bytes o) to → OpKept d p (ops.Store spot bytes) to
    store-at None at may = subst (OpKept d p (ops.Store spot bytes)) (sym may) (λ used are. are)
    store-at (Some (u, offset)) at may = store-by u offset at (is_held (state_of d p u)) (may_write (state_of d p u)) (nat_lt (PAGE_BYTES * room_of (known_of u d.known)) (offset + length bytes)) may

    pub store-kept : MayMove p (access_of d p (DeskOp.Stores spot bytes)) to → OpKept d p (ops.Store spot bytes) to
    store-kept may = store-at (target_of d p spot) refl may
