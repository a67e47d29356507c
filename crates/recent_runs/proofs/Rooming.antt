-- What is known of a desk where room has to be made at it; and that no other call of a desk both drops a page and asks a home.
use Rattle.std.proofs.Common.{◌≡◌, ℕ, ◌+◌, Bool, true, false, List, [], ◌∷◌, length, ◌⊎◌, inl, inr, Option, Some, None, refl, subst}
use Rattle.std.specs.Prelude.{◌&&◌, nat_le, nat_lt, is_some, ◌*◌}
use Rattle.std.proofs.lemmas.Option.{same_Some}
use Rattle.uid_names.specs.Names.{ObjectName}
use Rattle.uid_names.specs.Openings.{Start}
use Rattle.uid_names.specs.declared.limits.TheConstants.{PAGE_BYTES}
use Rattle.uid_names.specs.declared.mode.Mode.{Mode}
use Rattle.dom_history.specs.declared.op.Op.{Op}
use Rattle.dom_history.specs.declared.op.Op.TheVariants as ops
use Rattle.dom_history.specs.Locks.{is_held}
use Rattle.dom_history.specs.Objects.{is_node}
use Rattle.dom_history.specs.Ranges.{IsOp}
use Rattle.dom_history.specs.Replies.{may_write}
use Rattle.page_cache.specs.Caches.{Resident, page_at, free_count}
use Rattle.address_map.specs.Mappings.{mapping_of}
use Rattle.ring_messages.specs.Bodies.{Ask}
use Rattle.ring_messages.specs.Frames.{Message}
use Rattle.ring_messages.specs.Ranges.{IsBody}
use Rattle.fault_handler.specs.declared.tasks.Work.{Work}
use Rattle.fault_handler.specs.declared.tasks.Work.TheVariants.{Load, Store}
use Rattle.fault_handler.specs.declared.tasks.Task.{Task}
use Rattle.fault_handler.specs.Lengths.{known_of, length_of, room_of}
use Rattle.fault_handler.specs.Tasks.{page_of}
use Rattle.fault_handler.specs.ShownPages.{fresh_page}
use Rattle.fault_handler.specs.Desks.{DeskState, state_of, maps_of, moving_of, others_fetch, base_of}
use Rattle.fault_handler.specs.Outcomes.{Turn, Moved}
use Rattle.fault_handler.specs.Changes.{with_raised, with_arrival}
use Rattle.fault_handler.specs.Accesses.{DeskOp, Accessed, performed, page_by, missed_by, frame_by, page_access, task_at, target_of, load_by, load_at, store_by, store_at, length_by, map_by, unmap_by, access_of}
use Rattle.fault_handler.specs.PageReplies.{PageAnswer, page_by_stamp, page_came_of, room_taken}
use Rattle.fault_handler.specs.LockCalls.{LockAnswer}
use Rattle.fault_handler.specs.Invariant.{IsProc, IsDesk}
use Rattle.fault_handler.specs.Conditions.{IsIdle}
use Rattle.fault_handler.proofs.Fours.{at-put_same, length-put}
use Rattle.lock_validate.specs.Causes.{Cause}
use Rattle.lock_validate.specs.Loading.{IsTaskIn}
use Rattle.lock_validate.specs.Releasing.{releasing_in}
use Rattle.lock_validate.specs.Dropped.{MayDropSome, MayDropPages}
use Rattle.lock_validate.specs.Turns.{Says, IsMade}
use Rattle.lock_validate.proofs.EachCall.{comes_of-made}
use Rattle.node_runs.specs.NodeStates.{OpenOp}
use Rattle.node_runs.specs.Operations.{begun, gone_on, Said, said_of, answered, new_by, list_by}
use Rattle.node_runs.specs.Incomings.{Incoming}
use Rattle.node_runs.specs.Outcomes.{Stage}
use Rattle.node_runs.specs.Agreements.{IsCalling}
use Rattle.run_laws.specs.LastCalls.{IsOpenNumber}
use Rattle.run_laws.specs.DeskSteps.{OpMove, IsStageOf, IsHomeTurn}
use Rattle.run_laws.proofs.DeskSteps.{heard-turn}
use Rattle.recent_runs.specs.Uses.{PageName}
use Rattle.recent_runs.proofs.PageNames.{names, settled-names}

-- no home is asked
abbrev pub AsksNone : Turn → Type 0
AsksNone (Turn.Asks home ask) = ⊥
AsksNone turn = Unit {0}

-- nothing is dropped, or no home is asked
abbrev pub NotBoth : Moved → Type 0
NotBoth m = (m.dropped ≡ []) ⊎ AsksNone m.turn

-- where room has to be made: on this desk, of the same pages as before the event
pub record NeedsIt (old : DeskState) (p : ℕ) (d : DeskState) (task : Task) : Type 0 where
  pub proc : IsProc p
  pub four : length d.moving ≡ 4
  pub still : moving_of d p ≡ None
  pub absent : page_at d.cache.pages task.uid (page_of task) ≡ None
  pub same : names d.cache.pages ≡ names old.cache.pages

abbrev pub IsRoomy : DeskState → ℕ → Accessed → Type 0
IsRoomy old p (Accessed.Settled m) = NotBoth m
IsRoomy old p (Accessed.NeedsRoom d task) = NeedsIt old p d task

-- a call that may drop none drops none
none-dropped : (d : DeskState) (p : ℕ) (c : Cause) (m : Moved) → ((x : PageName) (more : List PageName) → MayDropSome d p c (x ∷ more) → AsksNone m.turn) → (dropped : List PageName) → m.dropped ≡ dropped → MayDropPages d p c dropped → NotBoth m
none-dropped d p c m never [] is may = inl is
none-dropped d p c m never (x ∷ more) is may = inr (never x more may)

made-roomy : (d : DeskState) (p : ℕ) (c : Cause) (m : Moved) → ((x : PageName) (more : List PageName) → MayDropSome d p c (x ∷ more) → AsksNone m.turn) → IsMade c p d m → NotBoth m
made-roomy d p c m never made = none-dropped d p c m never m.dropped refl made.may

-- what is neither a load or store, nor a lock or a release, asks nothing
says-none : (d e : DeskState) (p : ℕ) (c : Cause) (turn : Turn) → ((task : Task) → IsTaskIn d p c task → ⊥) → ((u : ObjectName) (m : Mode) → c ≡ Cause.Locks u m → ⊥) → releasing_in c ≡ None → Says d p e c turn → AsksNone turn
says-none d e p c turn no_task no_lock no_release (Says.asks_page cause task given fetches) = absurd (no_task task given)
says-none d e p c turn no_task no_lock no_release (Says.sends_room cause task r given makes) = absurd (no_task task given)
says-none d e p c turn no_task no_lock no_release (Says.sends_page cause delete v k r given opened sends) = absurd (cc)
says-none d e p c turn no_task no_lock no_release (Says.sends_length cause delete v n given opened changed) = absurd (cc)
says-none d e p c turn no_task no_lock no_release (Says.asks_lock u m opened) = absurd (no_lock u m refl)
says-none d e p c turn no_task no_lock no_release (Says.gives_up cause delete v given opened may settled) = absurd (cc)
says-none d e p c turn no_task no_lock no_release says = tt

-- an answer at which pages are dropped asks nothing more
answer-asks : (d e : DeskState) (p : ℕ) (a : LockAnswer) (turn : Turn) (x : PageName) (more : List PageName) → MayDropSome d p (Cause.AnswerCame a) (x ∷ more) → Says d p e (Cause.AnswerCame a) turn → AsksNone turn
answer-asks d e p a turn x more may says = says-none d e p (Cause.AnswerCame a) turn (λ task given. given) (λ u m same. absurd (cc)) (by a may) says
  where
    by : (a : LockAnswer) → MayDropSome d p (Cause.AnswerCame a) (x ∷ more) → releasing_in (Cause.AnswerCame a) ≡ None
    by (LockAnswer.Granted u m grant stamp room n) may = refl
    by (LockAnswer.Gone u) may = refl
    by (LockAnswer.Removed u) may = refl
    by (LockAnswer.Refused q held) may = refl
    by (LockAnswer.Released u) may = refl
    by (LockAnswer.PageSettled u delete taken stamp) may = absurd may
    by (LockAnswer.LengthSettled u n delete taken stamp) may = absurd may

-- a load or store that is done drops nothing
performed-none : (d : DeskState) (task : Task) (work : Work) (r : Resident) → (performed d task work r).dropped ≡ []
performed-none d task (Load count) r = refl
performed-none d task (Store bytes) r = refl

pub settled-roomy : (opening : Start) (incoming : Incoming) (doing : Option OpenOp) (number : ℕ) (d : DeskState) (p : ℕ) (op : Op) (m : Moved) → OpMove opening incoming doing (Stage.Settles number) d p op m → NotBoth m
settled-roomy opening incoming doing number d p op m (OpMove.apart same turn) = inr (by m.turn turn)
  where
    by : (turn : Turn) → IsHomeTurn opening incoming p doing (Stage.Settles number) op turn → AsksNone turn
    by (Turn.Ends reply) is = tt
    by (Turn.Waits u k) is = tt
    by (Turn.Asks home ask) is = absurd is
settled-roomy opening incoming doing number d p op m (OpMove.moves c may of at taken made) = by c at made
  where
    by : (c : Cause) → IsStageOf (Stage.Settles number) c → IsMade c p d m → NotBoth m
    by (Cause.AnswerCame a) at made = made-roomy d p (Cause.AnswerCame a) m (λ x more may. answer-asks d m.desk p a m.turn x more may made.says) made
    by (Cause.AccessFailed t) at made = made-roomy d p (Cause.AccessFailed t) m (λ x more may. absurd may) made
    by (Cause.CallFailed call) at made = made-roomy d p (Cause.CallFailed call) m (λ x more may. absurd may) made
    by (Cause.Accesses a) at made = absurd at
    by (Cause.Locks u mode) at made = absurd at
    by (Cause.Releases delete u) at made = absurd at
    by (Cause.PageCame a) at made = absurd at

module _ (old : DeskState) (p : ℕ) (proc : IsProc p) where
  -- a load or store looks for its page
  module _ (d : DeskState) (four : length d.moving ≡ 4) (still : moving_of d p ≡ None) (same : names d.cache.pages ≡ names old.cache.pages) (task : Task) where
    framed-roomy : (b : Bool) → page_at d.cache.pages task.uid (page_of task) ≡ None → IsRoomy old p (frame_by d p task b)
    framed-roomy true absent = inl refl
    framed-roomy false absent = record { proc = proc; four = four; still = still; absent = absent; same = same }

    missed-roomy : (b : Bool) → page_at d.cache.pages task.uid (page_of task) ≡ None → IsRoomy old p (missed_by d p task b)
    missed-roomy true absent = inl refl
    missed-roomy false absent = framed-roomy (nat_lt 0 (free_count d.cache)) absent

    by-page : (o : Option Resident) → page_at d.cache.pages task.uid (page_of task) ≡ o → IsRoomy old p (page_by d p task o)
    by-page (Some r) found = inl (performed-none d task task.work r)
    by-page None absent = missed-roomy (others_fetch d.moving p task.uid (page_of task)) absent

    pub page-roomy : IsRoomy old p (page_access d p task)
    page-roomy = by-page (page_at d.cache.pages task.uid (page_of task)) refl

  module _ (d : DeskState) (four : length d.moving ≡ 4) (still : moving_of d p ≡ None) (same : names d.cache.pages ≡ names old.cache.pages) where
    load-roomy : (count : ℕ) (o : Option (ObjectName × ℕ)) → IsRoomy old p (load_at d p count o)
    load-roomy count None = inl refl
    load-roomy count (Some (u, offset)) = by (is_held (state_of d p u)) (nat_lt (length_of (known_of u d.known)) (offset + count))
      where
        by : (held past : Bool) → IsRoomy old p (load_by d p (task_at u offset (Load count)) held past)
        by false past = inl refl
        by true true = inl refl
        by true false = page-roomy d four still same (task_at u offset (Load count))

    store-roomy : (bytes : List ℕ) (o : Option (ObjectName × ℕ)) → IsRoomy old p (store_at d p bytes o)
    store-roomy bytes None = inl refl
    store-roomy bytes (Some (u, offset)) = by (is_held (state_of d p u)) (may_write (state_of d p u)) (nat_lt (PAGE_BYTES * room_of (known_of u d.known)) (offset + length bytes))
      where
        by : (held writes past : Bool) → IsRoomy old p (store_by d p (task_at u offset (Store bytes)) held writes past)
        by false writes past = inl refl
        by true false past = inl refl
        by true true true = inl refl
        by true true false = page-roomy d four still same (task_at u offset (Store bytes))

    access-roomy : (op : DeskOp) → IsRoomy old p (access_of d p op)
    access-roomy (DeskOp.Loads spot count) = load-roomy count (target_of d p spot)
    access-roomy (DeskOp.Stores spot bytes) = store-roomy bytes (target_of d p spot)
    access-roomy (DeskOp.Measures u) = by (is_held (state_of d p u))
      where
        by : (b : Bool) → IsRoomy old p (length_by d u b)
        by true = inl refl
        by false = inl refl
    access-roomy (DeskOp.Maps u) = by (is_held (state_of d p u))
      where
        by : (b : Bool) → IsRoomy old p (map_by d p u b)
        by true = inl refl
        by false = inl refl
    access-roomy (DeskOp.Unmaps u) = by (is_some (mapping_of u (maps_of d p)))
      where
        by : (b : Bool) → IsRoomy old p (unmap_by d p u b)
        by true = inl refl
        by false = inl refl

module _ (d : DeskState) (p : ℕ) (is : IsDesk d) (proc : IsProc p) where
  pub begun-roomy : (opening : Start) (op : Op) → IsIdle d p → IsOp op → IsRoomy d p (begun opening d p op)
  begun-roomy opening (ops.New home kind room) idle range = by (is_node opening home && nat_le room opening.greatest)
    where
      by : (b : Bool) → NotBoth (new_by d home kind room b)
      by true = inl refl
      by false = inl refl
  begun-roomy opening (ops.List home after) idle range = by (is_node opening home)
    where
      by : (b : Bool) → NotBoth (list_by d home after b)
      by true = inl refl
      by false = inl refl
  begun-roomy opening (ops.Lock u m) idle range = made-roomy d p (Cause.Locks u m) _ (λ x more may. absurd may) (comes_of-made d p (Cause.Locks u m) is proc idle)
  begun-roomy opening (ops.Unlock u) idle range = made-roomy d p (Cause.Releases false u) _ (λ x more may. absurd may) (comes_of-made d p (Cause.Releases false u) is proc idle)
  begun-roomy opening (ops.Delete u) idle range = made-roomy d p (Cause.Releases true u) _ (λ x more may. absurd may) (comes_of-made d p (Cause.Releases true u) is proc idle)
  begun-roomy opening (ops.Load spot count) idle range = access-roomy d p proc d is.four.moving idle.no_page refl (DeskOp.Loads spot count)
  begun-roomy opening (ops.Store spot bytes) idle range = access-roomy d p proc d is.four.moving idle.no_page refl (DeskOp.Stores spot bytes)
  begun-roomy opening (ops.Length u) idle range = access-roomy d p proc d is.four.moving idle.no_page refl (DeskOp.Measures u)
  begun-roomy opening (ops.Map u) idle range = access-roomy d p proc d is.four.moving idle.no_page refl (DeskOp.Maps u)
  begun-roomy opening (ops.Unmap u) idle range = access-roomy d p proc d is.four.moving idle.no_page refl (DeskOp.Unmaps u)

  pub gone_on-roomy : (op : Op) (accessed : Accessed) → IsIdle d p → gone_on d p op ≡ Some accessed → IsRoomy d p accessed
  gone_on-roomy (ops.Load spot count) accessed idle goes = subst (IsRoomy d p) (same_Some _ accessed goes) (access-roomy d p proc d is.four.moving idle.no_page refl (DeskOp.Loads spot count))
  gone_on-roomy (ops.Store spot bytes) accessed idle goes = subst (IsRoomy d p) (same_Some _ accessed goes) (access-roomy d p proc d is.four.moving idle.no_page refl (DeskOp.Stores spot bytes))
  gone_on-roomy (ops.Unlock u) accessed idle goes = subst (IsRoomy d p) (same_Some _ accessed goes) (made-roomy d p (Cause.Releases false u) _ (λ x more may. absurd may) (comes_of-made d p (Cause.Releases false u) is proc idle))
  gone_on-roomy (ops.Delete u) accessed idle goes = subst (IsRoomy d p) (same_Some _ accessed goes) (made-roomy d p (Cause.Releases true u) _ (λ x more may. absurd may) (comes_of-made d p (Cause.Releases true u) is proc idle))
  gone_on-roomy (ops.Lock u m) accessed idle goes = absurd (cc)
  gone_on-roomy (ops.New home kind room) accessed idle goes = absurd (cc)
  gone_on-roomy (ops.List home after) accessed idle goes = absurd (cc)
  gone_on-roomy (ops.Length u) accessed idle goes = absurd (cc)
  gone_on-roomy (ops.Map u) accessed idle goes = absurd (cc)
  gone_on-roomy (ops.Unmap u) accessed idle goes = absurd (cc)

  came-roomy : (a : PageAnswer) → IsRoomy d p (page_came_of d p a)
  came-roomy (PageAnswer.Came task stamp bytes) = by (nat_lt stamp (base_of d.seen task.uid))
    where
      by : (b : Bool) → NotBoth (page_by_stamp d p task stamp bytes b)
      by true = inl refl
      by false = inl (performed-none (with_arrival (with_raised d task.uid stamp) p task.uid (page_of task) bytes) task task.work (fresh_page task.uid (page_of task) bytes))
  came-roomy (PageAnswer.Taken task r stamp) =
      page-roomy d p proc (room_taken d p r stamp) (length-put d.moving p None is.four.moving) (at-put_same d.moving p None None is.four.moving proc) (settled-names r.uid r.page true d.cache.pages) task
  came-roomy (PageAnswer.NotTaken task r stamp) = inl refl

  pub answered-roomy : (opening : Start) (incoming : Incoming) (doing : Option OpenOp) (op : Op) (ask : Ask) (m : Message) (said : Said) → incoming ≡ Incoming.Frame m → m.proc ≡ p → IsOpenNumber m.number doing → IsCalling d p op ask → IsBody d.node m.body → said_of d p op m.body ≡ Some said
      → IsRoomy d p (answered d p said)
  answered-roomy opening incoming doing op ask m (Said.Replies reply) received own number calling range says = inl refl
  answered-roomy opening incoming doing op ask m (Said.ToAccess a) received own number calling range says = came-roomy a
  answered-roomy opening incoming doing op ask m (Said.ToLock a) received own number calling range says =
      settled-roomy opening incoming doing m.number d p op _ (heard-turn opening incoming doing d p is proc op ask m (Said.ToLock a) _ received own number calling range says refl)
