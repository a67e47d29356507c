-- In every run each resident page is one of an object that has a name, and so is each page that an event drops.
use Rattle.std.proofs.Common.{◌≡◌, ℕ, ◌≤◌, Bool, true, false, List, Option, Some, None, inl, inr, refl, sym, ap, subst, ◌∙◌, arith}
use Rattle.std.specs.Prelude.{◌==◌, ◌&&◌, nat_le, not, is_some, if◌then◌else◌, IsSome}
use Rattle.std.proofs.lemmas.Bool.{and_from, cases_eq, cases_lt}
use Rattle.std.proofs.lemmas.Option.{same_Some}
use Rattle.uid_names.specs.Names.{ObjectName, IsName, ProcName}
use Rattle.uid_names.specs.Openings.{Start}
use Rattle.uid_names.proofs.Passed.{equal, le-passes, left-true}
use Rattle.uid_names.proofs.Somes.{bind-some}
use Rattle.dom_history.specs.Locks.{is_held}
use Rattle.dom_history.specs.Objects.{is_node}
use Rattle.dom_history.specs.Ranges.{IsOp, IsWant}
use Rattle.dom_history.specs.declared.deed.LockState.{LockState}
use Rattle.dom_history.specs.declared.deed.LockState.TheVariants.{Held}
use Rattle.dom_history.specs.declared.event.What.{What}
use Rattle.dom_history.specs.declared.op.Op.{Op}
use Rattle.dom_history.specs.declared.op.Op.TheVariants as ops
use Rattle.uid_names.specs.declared.mode.Mode.{Mode}
use Rattle.uid_names.specs.declared.mode.ObjKind.{ObjKind}
use Rattle.object_store.specs.HomeStates.{HomeState, attr_of}
use Rattle.object_store.specs.Kept.{IsHome}
use Rattle.object_store.specs.Objects.{attr_at}
use Rattle.object_store.proofs.RowLemmas.{attr_at-high, attr_at-low}
use Rattle.page_cache.specs.Caches.{Resident}
use Rattle.ring_messages.specs.Bodies.{Answer, answer_of}
use Rattle.ring_messages.specs.Ranges.{IsBody}
use Rattle.ring_messages.specs.declared.body.Body.{Body}
use Rattle.fault_handler.specs.declared.entries.LockEntry.{LockEntry}
use Rattle.fault_handler.specs.declared.tasks.Task.{Task}
use Rattle.fault_handler.specs.declared.transits.Transit.{Transit}
use Rattle.fault_handler.specs.Accesses.{Accessed, DeskOp}
use Rattle.fault_handler.specs.Conditions.{IsIdle}
use Rattle.fault_handler.specs.Desks.{DeskState, IsNode, at, entries_of, entry_at, moving_of, task_of}
use Rattle.fault_handler.specs.Entries.{entry_of, keeps}
use Rattle.fault_handler.specs.Invariant.{IsProc, FitsOpen, is_access}
use Rattle.fault_handler.specs.Outcomes.{Moved, Turn}
use Rattle.fault_handler.specs.PageReplies.{PageAnswer}
use Rattle.fault_handler.specs.Tasks.{page_of, IsTask}
use Rattle.lock_validate.specs.Causes.{Cause, MayCome, comes_of}
use Rattle.lock_validate.specs.Turns.{IsMade}
use Rattle.lock_validate.proofs.EachCall.{comes_of-made}
use Rattle.journal_text.specs.Written.{IsPage}
use Rattle.node_runs.specs.Setups.{Setup, IsSetup, Given, IsGiven, given}
use Rattle.node_runs.specs.NodeStates.{NodeState, OpenOp, proc_of}
use Rattle.node_runs.specs.Operations.{Said, answered, begun, failed, gone_on, list_by, new_by, said_by, said_of, said_to_list, said_to_new}
use Rattle.node_runs.specs.Incomings.{Incoming}
use Rattle.node_runs.specs.Outcomes.{Stage, Stepped}
use Rattle.node_runs.specs.Doings.{stage_of}
use Rattle.node_runs.specs.Dones.{Did, paused, finished, began, resumed, served, passed_over, heard, ignored, resent, gave_up, got_ready, marked}
use Rattle.node_runs.specs.Rooms.{MayMove}
use Rattle.node_runs.specs.Agreements.{Agrees}
use Rattle.node_runs.specs.NodesKeep.{IsCounted, IsNodeOf, IsTimely}
use Rattle.node_runs.specs.SentFrames.{IsIncoming}
use Rattle.node_runs.specs.Runs.{Choice, World, world_after}
use Rattle.node_runs.specs.CallsKeep.{EachOf}
use Rattle.node_runs.proofs.Calls.{put-same, put-other}
use Rattle.node_runs.proofs.MakingRoom.{always-may}
use Rattle.node_runs.proofs.Nodes.{node-with}
use Rattle.node_runs.proofs.SettingUp.{given-procs, setup-gives}
use Rattle.node_runs.proofs.Worlds.{nodes-counted}
use Rattle.run_laws.specs.LastCalls.{IsOpenNumber}
use Rattle.run_laws.proofs.HearingRuns.{IsKeptNext, event, event-did, event-incoming}
use Rattle.run_laws.specs.DeskSteps.{IsHomeTurn, IsOfHome, NodeMove, OpMove, apart as desk_apart, moves, still, moved}
use Rattle.run_laws.proofs.DeskSteps.{heard-turn, gave_up-turn}
use Rattle.run_laws.proofs.EventMoves.{desk-moves}
use Rattle.run_laws.proofs.OpenTasks.{answer-task, open_task_of}
use Rattle.run_laws.specs.StandingLocks.{AreStanding, IsKeeping}
use Rattle.lock_validate.proofs.EachPage.{moves-pages}
use Rattle.run_journals.proofs.Drops.{AreSuch, moves-drop}

-- a page of an object that has a name
abbrev pub Named : ObjectName → ℕ → Type 0
Named u k = IsPage (u, k)

abbrev pub AreNamed : List Resident → Type 0
AreNamed pages = EachOf (λ (r : Resident). Named r.uid r.page) pages

-- each resident page of each node
abbrev pub AreAllNamed : Setup → World → Type 0
AreAllNamed s w = (n : ℕ) → is_node s.opening n ≡ true → AreNamed (w.nodes n).desk.cache.pages

-- the counter of an object that is there
there-counted : (home : HomeState) (u : ObjectName) → IsHome home → is_some (attr_of home u) ≡ true → (1 ≤ u.counter) × (u.counter ≤ home.greatest)
there-counted home u is there = (low, high)
  where
    row-there : (b : Bool) → is_some (if b then attr_at home.objects u.counter else None) ≡ true → is_some (attr_at home.objects u.counter) ≡ true
    row-there true h = h
    row-there false h = absurd (cc)

    absent : attr_at home.objects u.counter ≡ None → ⊥
    absent none = let h = row-there (u.home == home.node) there in let e : true ≡ false = sym h ∙ ap is_some none in cc

    low : 1 ≤ u.counter
    low = elim (cases_lt 0 u.counter) [ inl above ↦ omega (arith, above) | inr none ↦ absurd (absent (attr_at-low 0 u.counter home.objects is.rising (omega (arith, none)))) ]

    high : u.counter ≤ home.greatest
    high = elim (cases_lt home.greatest u.counter) [ inl above ↦ absurd (absent (attr_at-high home.greatest u.counter home.objects is.rows above)) | inr within ↦ within ]

held-mode : (s : LockState) → is_held s ≡ true → (m : Mode) × (s ≡ Held m)
held-mode (Held m) held = (m, refl)
held-mode _ held = absurd (cc)

-- an open load or store is of an object that its process keeps
open-kept : (pages : List Resident) (entries : List (List LockEntry)) (p : ℕ) (task : Task) (b : Bool) (t : Option Transit) → FitsOpen pages entries p b (Some task) t → keeps (entry_at entries p task.uid) ≡ true
open-kept pages entries p task true (Some t) is = is.allowed.kept
open-kept pages entries p task true None is = absurd is
open-kept pages entries p task false None is = absurd is
open-kept pages entries p task false (Some t) is = absurd is

module _ (s : Setup) (setup : IsSetup s) (w : World) (timely : IsTimely w) (counted : (n : ℕ) → IsCounted (w.nodes n)) (nodes : (n : ℕ) → is_node s.opening n ≡ true → IsNodeOf (given s n) (w.nodes n)) (standing : AreStanding w) where
  -- the object of a lock that is kept has a name
  kept-named : (n : ℕ) → is_node s.opening n ≡ true → (p : ℕ) → IsProc p → (u : ObjectName) → keeps (entry_at (w.nodes n).desk.entries p u) ≡ true → IsName u
  kept-named n node p proc u kept = by_entry (entry_of u (entries_of (w.nodes n).desk p)) refl kept
    where
      by_entry : (o : Option LockEntry) → entry_of u (entries_of (w.nodes n).desk p) ≡ o → keeps o ≡ true → IsName u
      by_entry None found kept = absurd (cc)
      by_entry (Some e) found kept =
          let mode = held-mode e.state (left-true (is_held e.state) (not e.released) kept) in
          let keeping : IsKeeping w n p u mode.0 e.grant = record { owner = proc; entry = e; found = found; kept = kept; state = mode.1; number = refl } in
          let there = standing.there n p u mode.0 e.grant keeping in
          let home : IsNode s.opening.nodes u.home = subst (λ k. IsNode k u.home) (nodes n node).own.nodes ((nodes n node).desk.at_nodes.locked p proc u (subst (λ (o : Option LockEntry). IsSome o) (sym found) refl)) in
          let at : is_node s.opening u.home ≡ true = and_from (nat_le 1 u.home) (nat_le u.home s.opening.nodes) (le-passes 1 u.home home.0) (le-passes u.home s.opening.nodes home.1) in
          let range = there-counted (w.nodes u.home).side.home u (nodes u.home at).side.home there in
          let greatest = (counted u.home).side.counters in
          let tick = timely u.home in
          let few = setup.start.nodes_high in
          record { counter_low = range.0; counter_high = omega (arith, range.1, greatest, tick); home_low = home.0; home_high = omega (arith, home.1, few) }

-- an event's
module _ (g : Given) (n : NodeState) (is : IsNodeOf g n) (kept : (p : ℕ) → IsProc p → (u : ObjectName) → keeps (entry_at n.desk.entries p u) ≡ true → IsName u) (named : AreNamed n.desk.cache.pages) where
  -- the page that comes
  came-named : (p : ℕ) → IsProc p → (cause : Cause) (may : MayCome n.desk p cause) (task : Task) (stamp : ℕ) (bytes : List ℕ) → cause ≡ Cause.PageCame (PageAnswer.Came task stamp bytes) → IsTask task → Named task.uid (page_of task)
  came-named p proc (Cause.PageCame a) may task stamp bytes same range =
      let opened : task_of n.desk p ≡ Some task = answer-task n.desk.cache.pages (task_of n.desk p) (moving_of n.desk p) may.answer a may.says ∙ ap (λ x. Some (open_task_of x)) (page-cause a (PageAnswer.Came task stamp bytes) same) in
      let page = range.page in (
        kept p proc task.uid (open-kept n.desk.cache.pages n.desk.entries p task (is_access (at n.desk.calls p None)) (moving_of n.desk p)
            (subst (λ o. FitsOpen n.desk.cache.pages n.desk.entries p (is_access (at n.desk.calls p None)) o (moving_of n.desk p)) opened (is.desk.calls p proc))),
        omega (arith, page),
      )
    where
      page-cause : (x y : PageAnswer) → Cause.PageCame x ≡ Cause.PageCame y → x ≡ y
      page-cause x y same = cc
  came-named p proc (Cause.Accesses access) may task stamp bytes same range = absurd (cc)
  came-named p proc (Cause.Locks u m) may task stamp bytes same range = absurd (cc)
  came-named p proc (Cause.Releases delete u) may task stamp bytes same range = absurd (cc)
  came-named p proc (Cause.AnswerCame a) may task stamp bytes same range = absurd (cc)
  came-named p proc (Cause.AccessFailed t) may task stamp bytes same range = absurd (cc)
  came-named p proc (Cause.CallFailed call) may task stamp bytes same range = absurd (cc)

  -- the pages after it
  desk-named : (incoming : Incoming) (s : Stepped) → NodeMove g n incoming s → AreNamed s.node.desk.cache.pages
  desk-named incoming s (still desk same quiet uncalled) = subst (λ (d : DeskState). AreNamed d.cache.pages) (sym desk) named
  desk-named incoming s (moved p o stage m proc is_at (desk_apart desk turn) at_desk doing others note call side) = subst (λ (d : DeskState). AreNamed d.cache.pages) (sym (at_desk ∙ desk)) named
  desk-named incoming s (moved p o stage m proc is_at (moves cause may of at_stage taken made) at_desk doing others note call side) =
      subst (λ (d : DeskState). AreNamed d.cache.pages) (sym at_desk)
      (moves-pages Named cause m.turn p (λ d task stamp bytes same range. came-named p proc cause may task stamp bytes same range) n.desk m.desk m.dropped made.moves named)

  abbrev Drop : Moved → Type 0
  Drop m = AreSuch Named m.dropped

  -- the pages that a call of a desk drops
  made-drop : (p : ℕ) → IsProc p → (cause : Cause) → MayCome n.desk p cause → (m : Moved) → IsMade cause p n.desk m → Drop m
  made-drop p proc cause may m made = moves-drop Named cause m.turn p (λ d task stamp bytes same range. came-named p proc cause may task stamp bytes same range) n.desk m.desk m.dropped made.moves named

  caused-drop : (p : ℕ) → IsProc p → (cause : Cause) → MayCome n.desk p cause → (m : Moved) → MayMove p (comes_of n.desk p cause) m → Drop m
  caused-drop p proc cause may m way = made-drop p proc cause may m (always-may p (IsMade cause p n.desk) (comes_of n.desk p cause) m (comes_of-made n.desk p cause is.desk proc may) way)

  new-drop : (home : ℕ) (kind : ObjKind) (room : ℕ) (b : Bool) → Drop (new_by n.desk home kind room b)
  new-drop home kind room true = tt
  new-drop home kind room false = tt

  list-drop : (home : ℕ) (after : Option (ObjectName × ProcName)) (b : Bool) → Drop (list_by n.desk home after b)
  list-drop home after true = tt
  list-drop home after false = tt

  -- an operation begins, or goes on after a wait
  begun-drop : (p : ℕ) → IsProc p → (op : Op) (to : Moved) → IsIdle n.desk p → IsOp op → MayMove p (begun g.opening n.desk p op) to → Drop to
  begun-drop p proc (ops.New home kind room) to idle range way = subst Drop (sym way) (new-drop home kind room (is_node g.opening home && nat_le room g.opening.greatest))
  begun-drop p proc (ops.List home after) to idle range way = subst Drop (sym way) (list-drop home after (is_node g.opening home))
  begun-drop p proc (ops.Lock u m) to idle range way = caused-drop p proc (Cause.Locks u m) idle to way
  begun-drop p proc (ops.Unlock u) to idle range way = caused-drop p proc (Cause.Releases false u) idle to way
  begun-drop p proc (ops.Delete u) to idle range way = caused-drop p proc (Cause.Releases true u) idle to way
  begun-drop p proc (ops.Load spot count) to idle range way = caused-drop p proc (Cause.Accesses (DeskOp.Loads spot count)) (idle, range) to way
  begun-drop p proc (ops.Store spot bytes) to idle range way = caused-drop p proc (Cause.Accesses (DeskOp.Stores spot bytes)) (idle, range) to way
  begun-drop p proc (ops.Length u) to idle range way = caused-drop p proc (Cause.Accesses (DeskOp.Measures u)) (idle, range) to way
  begun-drop p proc (ops.Map u) to idle range way = caused-drop p proc (Cause.Accesses (DeskOp.Maps u)) (idle, range) to way
  begun-drop p proc (ops.Unmap u) to idle range way = caused-drop p proc (Cause.Accesses (DeskOp.Unmaps u)) (idle, range) to way

  resumed-drop : (p : ℕ) → IsProc p → (op : Op) (accessed : Accessed) (to : Moved) → IsIdle n.desk p → IsOp op → gone_on n.desk p op ≡ Some accessed → MayMove p accessed to → Drop to
  resumed-drop p proc (ops.Load spot count) accessed to idle range goes way = caused-drop p proc (Cause.Accesses (DeskOp.Loads spot count)) (idle, range) to (subst (λ a. MayMove p a to) (sym (same_Some _ accessed goes)) way)
  resumed-drop p proc (ops.Store spot bytes) accessed to idle range goes way = caused-drop p proc (Cause.Accesses (DeskOp.Stores spot bytes)) (idle, range) to (subst (λ a. MayMove p a to) (sym (same_Some _ accessed goes)) way)
  resumed-drop p proc (ops.Unlock u) accessed to idle range goes way = caused-drop p proc (Cause.Releases false u) idle to (subst (λ a. MayMove p a to) (sym (same_Some _ accessed goes)) way)
  resumed-drop p proc (ops.Delete u) accessed to idle range goes way = caused-drop p proc (Cause.Releases true u) idle to (subst (λ a. MayMove p a to) (sym (same_Some _ accessed goes)) way)
  resumed-drop p proc op accessed to idle range goes way = absurd (cc)

  -- an answer came, or the call was given up: of the desk's call, or of a new object or a list
  of-home : (opening : Start) (incoming : Incoming) (p : ℕ) (doing : Option OpenOp) (stage : Stage) (op : Op) (turn : Turn) → IsHomeTurn opening incoming p doing stage op turn → (stage ≡ Stage.Starts → ⊥) → IsOfHome op
  of-home opening incoming p doing Stage.Starts op turn is other = absurd (other refl)
  of-home opening incoming p doing Stage.Resumes op turn is other = absurd is
  of-home opening incoming p doing (Stage.Settles number) op (Turn.Ends reply) is other = is.0
  of-home opening incoming p doing (Stage.Settles number) op (Turn.Asks home ask) is other = absurd is
  of-home opening incoming p doing (Stage.Settles number) op (Turn.Waits u k) is other = absurd is

  turn-drop : (incoming : Incoming) (p : ℕ) → IsProc p → (doing : Option OpenOp) (stage : Stage) (op : Op) (to : Moved) → (stage ≡ Stage.Starts → ⊥) → (IsOfHome op → Drop to) → OpMove g.opening incoming doing stage n.desk p op to → Drop to
  turn-drop incoming p proc doing stage op to other home (desk_apart desk turn) = home (of-home g.opening incoming p doing stage op to.turn turn other)
  turn-drop incoming p proc doing stage op to other home (moves cause may of at_stage taken made) = made-drop p proc cause may to made

  new-said : (p : ℕ) (x : Answer) (said : Said) (to : Moved) → said_to_new x ≡ Some said → MayMove p (answered n.desk p said) to → Drop to
  new-said p (Answer.Made u) said to says way = subst Drop (sym (subst (λ y. MayMove p (answered n.desk p y) to) (sym (same_Some _ said says)) way)) tt
  new-said p Answer.NoSpace said to says way = subst Drop (sym (subst (λ y. MayMove p (answered n.desk p y) to) (sym (same_Some _ said says)) way)) tt
  new-said p x said to says way = absurd (cc)

  list-said : (p : ℕ) (x : Answer) (said : Said) (to : Moved) → said_to_list x ≡ Some said → MayMove p (answered n.desk p said) to → Drop to
  list-said p (Answer.Listed rows more) said to says way = subst Drop (sym (subst (λ y. MayMove p (answered n.desk p y) to) (sym (same_Some _ said says)) way)) tt
  list-said p x said to says way = absurd (cc)

  home-said : (p : ℕ) (op : Op) (body : Body) (said : Said) (to : Moved) → said_of n.desk p op body ≡ Some said → MayMove p (answered n.desk p said) to → IsOfHome op → Drop to
  home-said p (ops.New home kind room) body said to says way of = let found = bind-some (answer_of body) (said_by n.desk p (ops.New home kind room)) said says in new-said p found.0 said to found.2 way
  home-said p (ops.List home after) body said to says way of = let found = bind-some (answer_of body) (said_by n.desk p (ops.List home after)) said says in list-said p found.0 said to found.2 way
  home-said p op body said to says way of = absurd of

  home-failed : (p : ℕ) (op : Op) (to : Moved) → failed n.desk p op ≡ Some to → IsOfHome op → Drop to
  home-failed p (ops.New home kind room) to fails of = subst Drop (same_Some _ to fails) tt
  home-failed p (ops.List home after) to fails of = subst Drop (same_Some _ to fails) tt
  home-failed p op to fails of = absurd of

  not-starts : (number : ℕ) (said : Said) → stage_of number said ≡ Stage.Starts → ⊥
  not-starts number (Said.Replies reply) same = cc
  not-starts number (Said.ToAccess answer) same = cc
  not-starts number (Said.ToLock answer) same = cc

  settles-later : (number : ℕ) → Stage.Settles number ≡ Stage.Starts → ⊥
  settles-later number same = cc

  -- the pages that it drops
  module _ (given : IsGiven g) where
    did-drop : (what : What) (incoming : Incoming) (s : Stepped) → IsIncoming incoming → Did g n what incoming s → AreSuch Named s.effects.dropped
    did-drop what incoming s frame (paused p has none want) = tt
    did-drop what incoming s frame (finished p has none want) = tt
    did-drop what incoming s frame (began p op to has none want way) =
        let proc = given-procs g given.programs p has in
        let range : IsOp op = subst IsWant want (given.wants p (proc_of n p).heard (is.followed p proc).fitting (is.followed p proc).named) in
        begun-drop p proc op to (subst (Agrees n.desk p (proc_of n p).last) none (is.agrees p proc)) range way
    did-drop what incoming s frame (resumed p o u k accessed to has doing come goes way) =
        let proc = given-procs g given.programs p has in
        let agrees = subst (Agrees n.desk p (proc_of n p).last) doing (is.agrees p proc) in
        resumed-drop p proc o.op accessed to agrees.1.idle agrees.0 goes way
    did-drop what incoming s frame (served from index m ask answer sender receiver asks answers) = tt
    did-drop what incoming s frame (passed_over from index m ask sender receiver asks none) = tt
    did-drop what incoming s frame (heard from index m o c said to sender receiver asks doing same says way) =
        let proc : IsProc m.proc = (frame.range.proc_low, frame.range.proc_high) in
        let agrees = subst (Agrees n.desk m.proc (proc_of n m.proc).last) doing (is.agrees m.proc proc) in
        let number : c.waiting.number ≡ m.number = sym (equal m.number c.waiting.number same) in
        turn-drop incoming m.proc proc (proc_of n m.proc).doing (stage_of m.number said) o.op to (not-starts m.number said) (home-said m.proc o.op m.body said to says way)
        (heard-turn g.opening incoming (proc_of n m.proc).doing n.desk m.proc is.desk proc o.op c.ask m said to refl refl (subst (IsOpenNumber m.number) (sym doing) number) agrees.1.0 (subst (λ k. IsBody k m.body) (receiver ∙ sym is.own.node) frame.range.body) says way)
    did-drop what incoming s frame (ignored from index m sender receiver asks) = tt
    did-drop what incoming s frame (resent p from to index number tick o c has doing same answer) = tt
    did-drop what incoming s frame (gave_up p from to index number tick o c into has doing same answer fails) =
        let proc = given-procs g given.programs p has in
        let agrees = subst (Agrees n.desk p (proc_of n p).last) doing (is.agrees p proc) in
        turn-drop incoming p proc (proc_of n p).doing (Stage.Settles c.waiting.number) o.op into (settles-later c.waiting.number) (home-failed p o.op into fails)
        (gave_up-turn g.opening incoming (proc_of n p).doing n.desk p is.desk proc c.waiting.number o.op c.ask into agrees.1.0 fails)
    did-drop what incoming s frame (got_ready phase may) = tt
    did-drop what incoming s frame (marked from phase tick may) = tt

-- one event of a run
module _ (s : Setup) (setup : IsSetup s) (cs : List Choice) (old : World) (e : world_after s cs ≡ Some old) (timely : IsTimely old) (c : Choice) (new : World) (next : IsKeptNext s old c new) (standing : AreStanding old) (all : AreAllNamed s old) where
  open event s old c new next use {g, n, step, after}

  own : IsNodeOf g n
  own = let is = next.kept.nodes c.node next.is.node in node-with g (old.nodes c.node) n is refl refl is.side is.home is.within.side

  locks : (p : ℕ) → IsProc p → (u : ObjectName) → keeps (entry_at n.desk.entries p u) ≡ true → IsName u
  locks = kept-named s setup old timely (nodes-counted s setup cs old e) next.kept.nodes standing c.node next.is.node

  pub event-drops : AreSuch Named step.effects.dropped
  event-drops = did-drop g n own locks (all c.node next.is.node) (setup-gives s setup c.node next.is.node) c.what next.is.incoming step (event-incoming s old c new next) (event-did s old c new next)

  pub named-later : AreAllNamed s new
  named-later = subst (AreAllNamed s) (sym next.is.world) (λ a node. elim (cases_eq a c.node) [
    | inl here ↦ subst (λ (x : NodeState). AreNamed x.desk.cache.pages) (sym (put-same old.nodes c.node a step.node here)) (desk-named g n own locks (all c.node next.is.node) next.is.incoming step (desk-moves s setup old c new next))
    | inr away ↦ subst (λ (x : NodeState). AreNamed x.desk.cache.pages) (sym (put-other old.nodes c.node a step.node away)) (all a node)
  ])
