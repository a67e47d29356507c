-- In every run what is done at a desk is what one store does, and what begins there may begin.
use Rattle.std.proofs.Common.{◌≡◌, ℕ, ◌*◌, Bool, true, false, List, ◌∷◌, ◌++◌, Some, None, refl, sym, ap, subst, ◌∙◌}
use Rattle.std.proofs.lemmas.Option.{same_Some}
use Rattle.uid_names.specs.Names.{ProcName, ObjectName, same_proc}
use Rattle.uid_names.specs.declared.limits.TheConstants.{PAGE_BYTES}
use Rattle.uid_names.proofs.ListLemmas.{by_cases}
use Rattle.dom_history.specs.declared.deed.Deed.{Deed}
use Rattle.dom_history.specs.declared.event.What.{What}
use Rattle.dom_history.specs.declared.op.Op.{Op}
use Rattle.dom_history.specs.declared.op.Op.TheVariants as ops
use Rattle.dom_history.specs.declared.op.Reply.{Reply}
use Rattle.dom_history.specs.declared.op.Spot.{Spot}
use Rattle.dom_history.specs.Bytes.{bytes_from}
use Rattle.dom_history.specs.StoreEffects.{own}
use Rattle.dom_history.specs.Locks.{state, is_held}
use Rattle.dom_history.specs.Legal.{IsAllowed}
use Rattle.dom_history.specs.Ranges.{IsOp, IsWant}
use Rattle.dom_history.specs.Replies.{Before}
use Rattle.page_cache.specs.Caches.{Resident, page_at}
use Rattle.call_once.specs.Calls.{looked, last_of}
use Rattle.call_once.specs.declared.served.Looked.{Looked}
use Rattle.call_once.specs.declared.served.Looked.TheVariants.{Fresh, Again, Old}
use Rattle.ring_messages.specs.Bodies.{Ask, Answer}
use Rattle.ring_messages.specs.Frames.{caller_of}
use Rattle.fault_handler.specs.Accesses.{DeskOp, Accessed, access_of}
use Rattle.fault_handler.specs.Desks.{DeskState, state_of, maps_of, task_of}
use Rattle.fault_handler.specs.Tasks.{page_of}
use Rattle.fault_handler.specs.Outcomes.{Turn, Moved}
use Rattle.fault_handler.specs.Conditions.{IsIdle}
use Rattle.fault_handler.specs.Invariant.{IsProc}
use Rattle.fault_handler.specs.Next.{IsCallOf, release_op}
use Rattle.lock_validate.specs.Releases.{begin_unlock_of, begin_delete_of}
use Rattle.lock_validate.specs.Causes.{Cause, MayCome, IsOf, op_of}
use Rattle.lock_validate.specs.Turns.{Says}
use Rattle.node_runs.specs.Setups.{Setup, IsSetup, Given, given}
use Rattle.node_runs.specs.NodeStates.{Asked, Await, BegunOp, OpenOp, NodeState, proc_of, name_of}
use Rattle.node_runs.specs.Operations.{begun, gone_on, Said}
use Rattle.node_runs.specs.Incomings.{Incoming}
use Rattle.node_runs.specs.Notes.{Note}
use Rattle.node_runs.specs.Outcomes.{Stage, Stepped, turned, moved as moved_by}
use Rattle.node_runs.specs.Doings.{ticked, begun_at, served_note}
use Rattle.node_runs.specs.Dones.{Did, asking, paused, finished, began, resumed, served, passed_over, heard, ignored, resent, gave_up, got_ready, marked}
use Rattle.node_runs.specs.Rooms.{MayMove}
use Rattle.node_runs.specs.Agreements.{IsCallOpen, IsCalling, Agrees}
use Rattle.node_runs.specs.NodesKeep.{IsNodeOf, IsTimely}
use Rattle.node_runs.specs.Runs.{World, Noted, Choice, world_after}
use Rattle.node_runs.proofs.Calls.{put-same}
use Rattle.node_runs.proofs.Doing.{step_of-did}
use Rattle.node_runs.proofs.Running.{run-keeps}
use Rattle.node_runs.proofs.SettingUp.{setup-gives, given-procs}
use Rattle.run_laws.specs.DecidedReplies.{proc_at}
use Rattle.run_laws.specs.Progress.{IsApart}
use Rattle.run_laws.specs.DeskSteps.{IsHomeTurn, IsStageOf, IsAt, OpMove, apart, moves, doing_after, turn_note, NodeMove, still, moved}
use Rattle.run_laws.proofs.OpenTasks.{open_task_of, runs-within}
use Rattle.run_laws.proofs.TaskPlaces.{runs-placed}
use Rattle.run_laws.specs.NotedEffects.{note_effects, noted_past}
use Rattle.run_laws.specs.NotedDeeds.{note_deeds, noted_deeds}
use Rattle.run_laws.proofs.States.{states-told}
use Rattle.run_laws.proofs.Targets.{targets-told, mapped-are}
use Rattle.run_laws.specs.Stores.{AreReadsRight}
use Rattle.run_laws.specs.DeskReplies.{IsOneStoreNote, AreDeskReplies}
use Rattle.run_laws.proofs.EventMoves.{desk-moves}
use Rattle.run_laws.proofs.ReplyMoving.{IsEventOf, event-of}
use Rattle.run_laws.proofs.DeskTurns.{IsLike, IsSo, lock-so, unlock-so, delete-so, length-so, load-so, store-so}
use Rattle.run_laws.proofs.MapTurns.{AreLike, map-so, unmap-so}
use Rattle.run_laws.proofs.HomeBegins.{new-so, list-so}
use Rattle.run_laws.proofs.Elsewhere.{no-rows}
use Rattle.run_laws.proofs.DeskLike.{before_at, pages-are, like-is, maps-like}
use Rattle.run_laws.proofs.CameTurns.{came-so}

-- a load tells nothing of locks
load-told : (u : ObjectName) (name : ProcName) (d : Deed) (spot : Spot) (n : ℕ) → d.op ≡ ops.Load spot n → (deeds : List Deed) → state u (own name (d ∷ deeds)) ≡ state u (own name deeds)
load-told u name d spot n load deeds = by_cases (same_proc d.proc name) (state u (own name (d ∷ deeds)) ≡ state u (own name deeds)) (λ h. rw (h, load) refl) (λ h. rw h refl)

-- a process whose call is open is not idle
module _ (d : DeskState) (p : ℕ) (idle : IsIdle d p) where
  closed : (op : Op) (ask : Ask) → IsCallOpen d p op ask → ⊥
  closed op ask is = subst (IsCallOf op (task_of d p)) idle.no_call is.opened

  busy-access : (access : DeskOp) (ask : Ask) → IsCalling d p (op_of access) ask → ⊥
  busy-access (DeskOp.Loads spot count) ask is = closed (ops.Load spot count) ask is
  busy-access (DeskOp.Stores spot bytes) ask is = closed (ops.Store spot bytes) ask is
  busy-access (DeskOp.Measures u) ask is = closed (ops.Length u) ask is
  busy-access (DeskOp.Maps u) ask is = closed (ops.Map u) ask is
  busy-access (DeskOp.Unmaps u) ask is = closed (ops.Unmap u) ask is

  busy-release : (delete : Bool) (u : ObjectName) (ask : Ask) → IsCalling d p (release_op delete u) ask → ⊥
  busy-release true u ask is = closed (ops.Delete u) ask is
  busy-release false u ask is = closed (ops.Unlock u) ask is

-- the number of the process of what was done
abbrev number_in : Note → ℕ
number_in (Note.Did p phase op reply) = p.number
number_in note = 0

-- the note of a move
moved-note : (g : Given) (n : NodeState) (p : ℕ) (o : BegunOp) (stage : Stage) (to : Moved) → (moved_by g n p o stage to).note ≡ turn_note stage (name_of g p) (proc_of n p).phase o to.turn
moved-note g n p o stage to = by to.turn
  where
    by : (turn : Turn) → (turned g (record n { desk = to.desk }) p o stage turn).note ≡ turn_note stage (name_of g p) (proc_of n p).phase o turn
    by (Turn.Ends reply) = refl
    by (Turn.Asks home ask) = refl
    by (Turn.Waits u k) = refl

module _ (reads : (s : Setup) → IsSetup s → (cs : List Choice) (w : World) → world_after s cs ≡ Some w → IsTimely w → AreReadsRight s w) (s : Setup) (setup : IsSetup s) (older : List Noted) (j : Noted) (ev : IsEventOf s older j) where
  abbrev node : ℕ
  node = ev.choice.node

  abbrev g : Given
  g = given s node

  abbrev n : NodeState
  n = ticked (ev.old.nodes node) ev.next.is.incoming

  abbrev b : ℕ → Before
  b p = before_at s ev.old node p

  abbrev IsReply : Note → Type 0
  IsReply note = IsOneStoreNote s ev.old.trace note

  node-is : IsNodeOf g (ev.old.nodes node)
  node-is = ev.next.kept.nodes node ev.next.is.node

  module _ (p : ℕ) (proc : IsProc p) where
    like : IsLike (b p) (proc_at node p) n.desk p
    like = like-is s setup ev.before ev.old ev.has ev.was (reads s setup ev.before ev.old ev.has ev.was) node ev.next.is.node p proc (states-told s setup ev.before ev.old ev.has ev.was) (targets-told s setup ev.before ev.old ev.has ev.was)

    maps : AreLike s.opening (noted_past ev.old.trace) (proc_at node p) (maps_of n.desk p)
    maps = maps-like s.opening (noted_past ev.old.trace) (proc_at node p) n.desk p (mapped-are s setup ev.before ev.old ev.has ev.was node p ev.next.is.node proc)

    abbrev So : Op → Turn → Type 0
    So op turn = IsSo (b p) (proc_at node p) op turn

    -- an operation begins
    begun-so : (op : Op) (to : Moved) → IsIdle n.desk p → IsOp op → MayMove p (begun s.opening n.desk p op) to → So op to.turn
    begun-so (ops.New home kind room) to idle range way = subst (λ (m : Moved). So (ops.New home kind room) m.turn) (sym way) (new-so (b p) (proc_at node p) n.desk home kind room)
    begun-so (ops.List home after) to idle range way = subst (λ (m : Moved). So (ops.List home after) m.turn) (sym way) (list-so (b p) (proc_at node p) n.desk home after (no-rows s setup ev.before ev.old ev.has ev.was home))
    begun-so (ops.Lock u m) to idle range way = subst (λ (x : Moved). So (ops.Lock u m) x.turn) (sym way) (lock-so (b p) (proc_at node p) n.desk p like u m range)
    begun-so (ops.Unlock u) to idle range way = subst (λ (m : Moved). So (ops.Unlock u) m.turn) (sym way) (unlock-so (b p) (proc_at node p) n.desk p like u)
    begun-so (ops.Delete u) to idle range way = subst (λ (m : Moved). So (ops.Delete u) m.turn) (sym way) (delete-so (b p) (proc_at node p) n.desk p like u)
    begun-so (ops.Load spot count) to idle range way = load-so (b p) (proc_at node p) n.desk p like idle spot count to range way
    begun-so (ops.Store spot bytes) to idle range way = store-so (b p) (proc_at node p) n.desk p like idle spot bytes to way
    begun-so (ops.Length u) to idle range way = length-so (b p) (proc_at node p) n.desk p like idle u to way
    begun-so (ops.Map u) to idle range way = map-so (b p) (proc_at node p) n.desk p like maps (node-is.desk.maps p proc) idle u to way
    begun-so (ops.Unmap u) to idle range way = unmap-so (b p) (proc_at node p) n.desk p like maps (node-is.desk.maps p proc) idle u to way

    -- one that waited goes on
    gone-so : (op : Op) (accessed : Accessed) (to : Moved) → IsIdle n.desk p → IsOp op → gone_on n.desk p op ≡ Some accessed → MayMove p accessed to → So op to.turn
    gone-so (ops.Load spot count) accessed to idle range goes way = load-so (b p) (proc_at node p) n.desk p like idle spot count to range (subst (λ a. MayMove p a to) (sym (same_Some (access_of n.desk p (DeskOp.Loads spot count)) accessed goes)) way)
    gone-so (ops.Store spot bytes) accessed to idle range goes way = store-so (b p) (proc_at node p) n.desk p like idle spot bytes to (subst (λ a. MayMove p a to) (sym (same_Some (access_of n.desk p (DeskOp.Stores spot bytes)) accessed goes)) way)
    gone-so (ops.Unlock u) accessed to idle range goes way =
        subst (λ (m : Moved). So (ops.Unlock u) m.turn) (sym (subst (λ a. MayMove p a to) (sym (same_Some (Accessed.Settled (begin_unlock_of n.desk p u)) accessed goes)) way)) (unlock-so (b p) (proc_at node p) n.desk p like u)
    gone-so (ops.Delete u) accessed to idle range goes way =
        subst (λ (m : Moved). So (ops.Delete u) m.turn) (sym (subst (λ a. MayMove p a to) (sym (same_Some (Accessed.Settled (begin_delete_of n.desk p u)) accessed goes)) way)) (delete-so (b p) (proc_at node p) n.desk p like u)
    gone-so (ops.New home kind room) accessed to idle range goes way = absurd (cc)
    gone-so (ops.List home after) accessed to idle range goes way = absurd (cc)
    gone-so (ops.Lock u m) accessed to idle range goes way = absurd (cc)
    gone-so (ops.Length u) accessed to idle range goes way = absurd (cc)
    gone-so (ops.Map u) accessed to idle range goes way = absurd (cc)
    gone-so (ops.Unmap u) accessed to idle range goes way = absurd (cc)

    -- what such a turn leaves for the history
    turn-so : (stage : Stage) (phase : ℕ) (o : BegunOp) (turn : Turn) → So o.op turn → IsReply (turn_note stage (name_of g p) phase o turn)
    turn-so Stage.Starts phase o (Turn.Ends reply) is = is
    turn-so Stage.Starts phase o (Turn.Asks home ask) is = is
    turn-so Stage.Starts phase o (Turn.Waits u k) is = is
    turn-so Stage.Resumes phase o (Turn.Ends reply) is = is
    turn-so Stage.Resumes phase o (Turn.Asks home ask) is = tt
    turn-so Stage.Resumes phase o (Turn.Waits u k) is = tt
    turn-so (Stage.Settles number) phase o (Turn.Ends reply) is = tt
    turn-so (Stage.Settles number) phase o (Turn.Asks home ask) is = tt
    turn-so (Stage.Settles number) phase o (Turn.Waits u k) is = tt

    -- after a load the desk has pages as the store has them
    module _ (phase : ℕ) (spot : Spot) (count : ℕ) (reply : Reply) (note : ev.next.is.step.note ≡ Note.Did (name_of g p) phase (ops.Load spot count) reply) (none : (proc_of ev.next.is.step.node p).doing ≡ None) where
      node-then : ev.new.nodes node ≡ ev.next.is.step.node
      node-then = ap (λ (w : World). w.nodes node) ev.next.is.world ∙ put-same ev.old.nodes node node ev.next.is.step.node refl

      past-then : noted_past ev.new.trace ≡ noted_past ev.old.trace
      past-then = ap (λ (w : World). noted_past w.trace) ev.next.is.world ∙ ap (λ x. note_effects node x ++ noted_past ev.old.trace) note

      idle-then : IsIdle (ev.new.nodes node).desk p
      idle-then = subst (Agrees (ev.new.nodes node).desk p (proc_of (ev.new.nodes node) p).last) (ap (λ (x : NodeState). (proc_of x p).doing) node-then ∙ none) ((((run-keeps s setup (ev.choice ∷ ev.before) ev.new ev.now).kept ev.is).nodes node ev.next.is.node).agrees p proc)

      told-then : (u : ObjectName) → state u (b p).told ≡ state_of (ev.new.nodes node).desk p u
      told-then u =
          sym (ap (λ (w : World). state u (own (proc_at node p) (noted_deeds w.trace))) ev.next.is.world
          ∙ ap (λ x. state u (own (proc_at node p) (note_deeds x ++ noted_deeds ev.old.trace))) note
          ∙ load-told u (proc_at node p) (record { proc = name_of g p; op = ops.Load spot count; reply = reply }) spot count refl (noted_deeds ev.old.trace))
          ∙ (states-told s setup (ev.choice ∷ ev.before) ev.new ev.now ev.is).states node p ev.next.is.node proc u

      pages-then : (u : ObjectName) (k : ℕ) (r : Resident) → is_held (state u (b p).told) ≡ true → page_at ev.next.is.step.node.desk.cache.pages u k ≡ Some r → r.bytes ≡ bytes_from s.opening (noted_past ev.old.trace) u (PAGE_BYTES * k) PAGE_BYTES
      pages-then u k r held found =
          pages-are s setup (ev.choice ∷ ev.before) ev.new ev.now ev.is (reads s setup (ev.choice ∷ ev.before) ev.new ev.now ev.is) node ev.next.is.node p proc u k r
          (idle-then.keeping u (ap is_held (sym (told-then u)) ∙ held))
          (ap (λ (x : NodeState). page_at x.desk.cache.pages u k) node-then ∙ found)
          ∙ ap (λ past. bytes_from s.opening past u (PAGE_BYTES * k) PAGE_BYTES) past-then

    -- a load or store ends with its page
    module _ (o : BegunOp) (m : Moved) (reply : Reply) (ends : m.turn ≡ Turn.Ends reply) (desk : ev.next.is.step.node.desk ≡ m.desk) (phase : ℕ) (note : ev.next.is.step.note ≡ Note.Did (name_of g p) phase o.op reply) (none : (proc_of ev.next.is.step.node p).doing ≡ None)
        (began_o : BegunOp) (c : Asked) (doing : (proc_of n p).doing ≡ asking began_o c) (same : o ≡ began_o) where
      calling : IsCalling n.desk p o.op c.ask
      calling = subst (λ (x : BegunOp). IsCalling n.desk p x.op c.ask) (sym same) (subst (Agrees n.desk p (proc_of n p).last) doing (node-is.agrees p proc)).1.0

      by-cause : (cause : Cause) → MayCome n.desk p cause → IsOf n.desk p cause o.op → IsStageOf Stage.Resumes cause → Says n.desk p m.desk cause (Turn.Ends reply) → IsAllowed (b p) (proc_at node p) o.op reply
      by-cause (Cause.Accesses access) may of at says = absurd (busy-access n.desk p may.0 access c.ask (subst (λ op. IsCalling n.desk p op c.ask) of calling))
      by-cause (Cause.Releases delete u) may of at says = absurd (busy-release n.desk p may delete u c.ask (subst (λ op. IsCalling n.desk p op c.ask) of calling))
      by-cause (Cause.PageCame a) may of at says =
          came-so (b p) (proc_at node p) n.desk m.desk p like node-is.desk proc a may o (proc_of n p).doing
          (λ r is. same ∙ ap (λ (x : OpenOp). x.began) (same_Some (record { began = began_o; awaits = Await.Answer c }) r (sym doing ∙ is)))
          (runs-placed s setup ev.before ev.old ev.has ev.was node ev.next.is.node p proc) (runs-within s setup ev.before ev.old ev.has ev.was node ev.next.is.node p proc) of
          (λ spot k load r held found. pages-then phase spot k reply (note ∙ ap (λ op. Note.Did (name_of g p) phase op reply) load) none (open_task_of a).uid (page_of (open_task_of a)) r held (ap (λ (x : DeskState). page_at x.cache.pages (open_task_of a).uid (page_of (open_task_of a))) desk ∙ found))
          reply says
      by-cause (Cause.Locks u mode) may of at says = absurd at
      by-cause (Cause.AnswerCame a) may of at says = absurd at
      by-cause (Cause.AccessFailed t) may of at says = absurd at
      by-cause (Cause.CallFailed call) may of at says = absurd at

      ends-so : OpMove g.opening ev.next.is.incoming (proc_of n p).doing Stage.Resumes n.desk p o.op m → IsAllowed (b p) (proc_at node p) o.op reply
      ends-so (apart left turn) = absurd (subst (IsHomeTurn g.opening ev.next.is.incoming p (proc_of n p).doing Stage.Resumes o.op) ends turn)
      ends-so (moves cause may of at taken made) = by-cause cause may of at (subst (Says n.desk p m.desk cause) ends made.says)

  -- what is settled leaves nothing here
  settled-note : (p number phase : ℕ) (o : BegunOp) (turn : Turn) → IsReply (turn_note (Stage.Settles number) (name_of g p) phase o turn)
  settled-note p number phase o (Turn.Ends reply) = tt
  settled-note p number phase o (Turn.Asks home ask) = tt
  settled-note p number phase o (Turn.Waits u k) = tt

  -- an event beside the desk
  apart-so : (note : Note) → IsApart note → IsReply note
  apart-so Note.Nothing is = tt
  apart-so (Note.Began p op) is = absurd is
  apart-so (Note.Did p phase op reply) is = absurd is
  apart-so (Note.Ended t) is = absurd is
  apart-so (Note.Decided p number ask answer) is = tt

  served-so : (how : Looked) (p : ProcName) (number : ℕ) (ask : Ask) (answer : Answer) → IsReply (served_note how p number ask answer)
  served-so Fresh p number ask answer = tt
  served-so Again p number ask answer = tt
  served-so Old p number ask answer = tt

  -- an answer came to the page of a load or store
  module _ (p : ℕ) (o : BegunOp) (c : Asked) (doing : (proc_of n p).doing ≡ asking o c) (phase : ℕ) (turn : Turn) (note : ev.next.is.step.note ≡ turn_note Stage.Resumes (name_of g p) phase o turn) where
    module _ (q : ℕ) (proc : IsProc q) (r : BegunOp) (m : Moved) (desk : ev.next.is.step.node.desk ≡ m.desk) (later : (proc_of ev.next.is.step.node q).doing ≡ doing_after r (proc_of n q) m.turn) (stage : Stage)
        (at : IsAt (proc_of n q).doing r stage) (made : OpMove g.opening ev.next.is.incoming (proc_of n q).doing stage n.desk q r.op m) (phase_q : ℕ) (note_q : ev.next.is.step.note ≡ turn_note stage (name_of g q) phase_q r m.turn) where
      -- it is the same process
      same-proc : (x y : Reply) → Note.Did (name_of g q) phase_q r.op x ≡ Note.Did (name_of g p) phase o.op y → q ≡ p
      same-proc x y e = ap number_in e

      doing-q : q ≡ p → (proc_of n q).doing ≡ asking o c
      doing-q is = ap (λ i. (proc_of n i).doing) is ∙ doing

      by-turns : (x : Stage) (t v : Turn) → stage ≡ x → m.turn ≡ t → turn ≡ v → turn_note x (name_of g q) phase_q r t ≡ turn_note Stage.Resumes (name_of g p) phase o v → IsReply (turn_note x (name_of g q) phase_q r t)
      by-turns (Stage.Settles number) t v is_stage is_t is_v both = settled-note q number phase_q r t
      by-turns Stage.Resumes (Turn.Asks home ask) v is_stage is_t is_v both = tt
      by-turns Stage.Resumes (Turn.Waits u k) v is_stage is_t is_v both = tt
      by-turns Stage.Resumes (Turn.Ends x) (Turn.Ends y) is_stage is_t is_v both =
          let mine = doing-q (same-proc x y both) in
          ends-so q proc r m x is_t desk phase_q (note_q ∙ ap (λ z. turn_note z (name_of g q) phase_q r m.turn) is_stage ∙ ap (turn_note Stage.Resumes (name_of g q) phase_q r) is_t) (later ∙ ap (doing_after r (proc_of n q)) is_t) o c mine
          (subst (λ d. IsAt d r Stage.Resumes) mine (subst (IsAt (proc_of n q).doing r) is_stage at))
          (subst (λ z. OpMove g.opening ev.next.is.incoming (proc_of n q).doing z n.desk q r.op m) is_stage made)
      by-turns Stage.Resumes (Turn.Ends x) (Turn.Asks home ask) is_stage is_t is_v both = absurd (cc)
      by-turns Stage.Resumes (Turn.Ends x) (Turn.Waits u k) is_stage is_t is_v both = absurd (cc)
      by-turns Stage.Starts (Turn.Ends x) (Turn.Ends y) is_stage is_t is_v both = absurd (subst (λ d. IsAt d r Stage.Starts) (doing-q (same-proc x y both)) (subst (IsAt (proc_of n q).doing r) is_stage at))
      by-turns Stage.Starts (Turn.Ends x) (Turn.Asks home ask) is_stage is_t is_v both = absurd (cc)
      by-turns Stage.Starts (Turn.Ends x) (Turn.Waits u k) is_stage is_t is_v both = absurd (cc)
      by-turns Stage.Starts (Turn.Asks home ask) (Turn.Ends y) is_stage is_t is_v both = absurd (cc)
      by-turns Stage.Starts (Turn.Asks home ask) (Turn.Asks to x) is_stage is_t is_v both = absurd (cc)
      by-turns Stage.Starts (Turn.Asks home ask) (Turn.Waits u k) is_stage is_t is_v both = absurd (cc)
      by-turns Stage.Starts (Turn.Waits u k) (Turn.Ends y) is_stage is_t is_v both = absurd (cc)
      by-turns Stage.Starts (Turn.Waits u k) (Turn.Asks to x) is_stage is_t is_v both = absurd (cc)
      by-turns Stage.Starts (Turn.Waits u k) (Turn.Waits v i) is_stage is_t is_v both = absurd (cc)

      own-so : IsReply ev.next.is.step.note
      own-so = subst IsReply (sym note_q) (by-turns stage m.turn turn refl refl refl (sym note_q ∙ note))

    heard-so : NodeMove g n ev.next.is.incoming ev.next.is.step → IsReply ev.next.is.step.note
    heard-so (still desk same quiet uncalled) = apart-so ev.next.is.step.note quiet
    heard-so (moved q r stage m proc continues made desk later others note_q call side) = own-so q proc r m desk later stage continues made (proc_of n q).phase note_q

  -- what the event did
  did-so : (what : What) (incoming : Incoming) (step : Stepped) → Did g n what incoming step → ev.next.is.step ≡ step → NodeMove g n ev.next.is.incoming ev.next.is.step → IsReply step.note
  did-so what incoming step (paused p has none want) is move = tt
  did-so what incoming step (finished p has none want) is move = tt
  did-so what incoming step (began p op to has none want way) is move =
      let own = setup-gives s setup node ev.next.is.node in
      let proc = given-procs g own.programs p has in
      let range : IsOp op = subst IsWant want (own.wants p (proc_of n p).heard (node-is.followed p proc).fitting (node-is.followed p proc).named) in
      let idle : IsIdle n.desk p = subst (Agrees n.desk p (proc_of n p).last) none (node-is.agrees p proc) in
      subst IsReply (sym (moved-note g n p (begun_at g n op) Stage.Starts to)) (turn-so p proc Stage.Starts (proc_of n p).phase (begun_at g n op) to.turn (begun-so p proc op to idle range way))
  did-so what incoming step (resumed p o u k accessed to has doing come goes way) is move =
      let proc = given-procs g (setup-gives s setup node ev.next.is.node).programs p has in
      let agrees = subst (Agrees n.desk p (proc_of n p).last) doing (node-is.agrees p proc) in
      subst IsReply (sym (moved-note g n p o Stage.Resumes to)) (turn-so p proc Stage.Resumes (proc_of n p).phase o to.turn (gone-so p proc o.op accessed to agrees.1.idle agrees.0 goes way))
  did-so what incoming step (served from index m ask answer sender receiver asks answers) is move = served-so (looked m.number (last_of (caller_of m) n.side.served)) (caller_of m) m.number ask answer
  did-so what incoming step (passed_over from index m ask sender receiver asks none) is move = tt
  did-so what incoming step (heard from index m o c (Said.ToAccess a) to sender receiver asks doing same says way) is move =
      subst (λ (x : Stepped). IsReply x.note) is
      (heard-so m.proc o c doing (proc_of n m.proc).phase to.turn (ap (λ (x : Stepped). x.note) is ∙ moved-note g n m.proc o Stage.Resumes to) move)
  did-so what incoming step (heard from index m o c (Said.ToLock a) to sender receiver asks doing same says way) is move = subst IsReply (sym (moved-note g n m.proc o (Stage.Settles m.number) to)) (settled-note m.proc m.number (proc_of n m.proc).phase o to.turn)
  did-so what incoming step (heard from index m o c (Said.Replies reply) to sender receiver asks doing same says way) is move = subst IsReply (sym (moved-note g n m.proc o (Stage.Settles m.number) to)) (settled-note m.proc m.number (proc_of n m.proc).phase o to.turn)
  did-so what incoming step (ignored from index m sender receiver asks) is move = tt
  did-so what incoming step (resent p from to index number tick o c has doing same answer) is move = tt
  did-so what incoming step (gave_up p from to index number tick o c into has doing same answer fails) is move = subst IsReply (sym (moved-note g n p o (Stage.Settles c.waiting.number) into)) (settled-note p c.waiting.number (proc_of n p).phase o into.turn)
  did-so what incoming step (got_ready phase may) is move = tt
  did-so what incoming step (marked from phase tick may) is move = tt

  event-so : IsOneStoreNote s older j.note
  event-so =
      subst (λ x. IsOneStoreNote s x j.note) ev.trace
      (subst (λ (x : Noted). IsOneStoreNote s ev.old.trace x.note) ev.note
      (did-so ev.choice.what ev.next.is.incoming ev.next.is.step
      (step_of-did g (ev.old.nodes node) ev.choice.what ev.next.is.incoming ev.choice.dropped ev.next.is.step ev.next.is.steps) refl (desk-moves s setup ev.old ev.choice ev.new ev.next)))

-- in every run, where what is read is right
pub desks-reply : ((s : Setup) → IsSetup s → (cs : List Choice) (w : World) → world_after s cs ≡ Some w → IsTimely w → AreReadsRight s w)
    → (s : Setup) → IsSetup s → (cs : List Choice) (w : World) → world_after s cs ≡ Some w → IsTimely w → AreDeskReplies s w
desks-reply reads s setup cs w e timely newer older j parts = event-so reads s setup older j (event-of s setup j older cs w e timely newer parts)
