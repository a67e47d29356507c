-- In every run what is left is at home.
use Rattle.std.proofs.Common.{◌≡◌, ◌≢◌, ℕ, ◌*◌, ◌≤◌, ◌<◌, true, false, List, [], ◌∷◌, ◌++◌, Option, Some, None, ◌⊎◌, inl, inr, refl, sym, ap, subst, ◌∙◌, arith}
use Rattle.std.specs.Prelude.{is_some, if◌then◌else◌, nat_le, nat_lt}
use Rattle.std.proofs.lemmas.Bool.{cases_eq}
use Rattle.uid_names.specs.Names.{ProcName, ObjectName, same_proc}
use Rattle.uid_names.specs.Openings.{Start}
use Rattle.uid_names.specs.Modes.{modes_clash}
use Rattle.uid_names.specs.declared.limits.TheConstants.{PAGE_BYTES}
use Rattle.uid_names.proofs.Codes.{shared-writes, writes-together}
use Rattle.uid_names.proofs.ListLemmas.{by_cases}
use Rattle.uid_names.proofs.Orders.{same_proc_is, same_uid_is}
use Rattle.dom_history.specs.declared.op.Op.{Op}
use Rattle.dom_history.specs.declared.op.Op.TheVariants as ops
use Rattle.dom_history.specs.declared.op.Reply.TheVariants as replies
use Rattle.dom_history.specs.declared.op.Spot.{Spot}
use Rattle.dom_history.specs.Locks.{is_held, state}
use Rattle.dom_history.specs.Mappings.{Target, target}
use Rattle.dom_history.specs.Objects.{is_node}
use Rattle.dom_history.specs.Replies.{may_write}
use Rattle.dom_history.specs.StoreEffects.{StoreEffect, own}
use Rattle.call_once.specs.Calls.{last_of}
use Rattle.object_store.specs.declared.attributes.Attr.{Attr}
use Rattle.object_store.specs.Objects.{room_of}
use Rattle.object_store.specs.HomeStates.{HomeState, attr_of}
use Rattle.object_store.specs.Rules.{has_page, has_length}
use Rattle.lock_manager.specs.Grants.{grant_of, held_in}
use Rattle.lock_manager.specs.Tables.{Table}
use Rattle.lock_manager.proofs.Conflicts.{holders-compatible}
use Rattle.ring_messages.specs.Bodies.{Ask}
use Rattle.ring_messages.specs.Frames.{caller_of}
use Rattle.page_server.specs.Decisions.{decide, is_granted}
use Rattle.fault_handler.specs.declared.lengths.Known.{Known}
use Rattle.fault_handler.specs.Entries.{entry_of, state_in, keeps}
use Rattle.fault_handler.specs.Desks.{DeskState, entry_at, state_of}
use Rattle.fault_handler.specs.Outcomes.{Turn, Moved}
use Rattle.fault_handler.specs.Invariant.{IsProc}
use Rattle.lock_validate.specs.Settled.{IsSettled}
use Rattle.lock_validate.proofs.Beside.{moves-beside}
use Rattle.node_runs.specs.Agreements.{Agrees}
use Rattle.node_runs.specs.Setups.{Setup, IsSetup, given}
use Rattle.node_runs.specs.NodeStates.{Asked, OpenOp, NodeState, proc_of}
use Rattle.node_runs.specs.NodesKeep.{IsTimely, IsNodeOf}
use Rattle.node_runs.specs.Incomings.{Incoming}
use Rattle.node_runs.specs.Notes.{Note}
use Rattle.node_runs.specs.Outcomes.{Stage, next_call}
use Rattle.node_runs.specs.Dones.{asking}
use Rattle.node_runs.specs.CallsKeep.{IsCallAt}
use Rattle.node_runs.specs.Runs.{World, Noted, Choice, first_world, world_after}
use Rattle.node_runs.proofs.Calls.{put-same, put-other}
use Rattle.node_runs.proofs.Decisions.{IsNoDecision, HomeStep, apart, decides}
use Rattle.node_runs.proofs.Running.{run-keeps}
use Rattle.node_runs.proofs.SettingUp.{setup-procs}
use Rattle.node_runs.proofs.Worlds.{place_at}
use Rattle.run_laws.specs.DecidedReplies.{proc_at}
use Rattle.run_laws.specs.Progress.{IsApart}
use Rattle.run_laws.proofs.HearingRuns.{IsKeptNext, every-kept-run, event}
use Rattle.run_laws.specs.DeskSteps.{OpMove, apart as desk_apart, moves, doing_after, turn_call, NodeMove, still, moved}
use Rattle.run_laws.specs.OpenCalls.{Carries, CarriesOpen}
use Rattle.run_laws.proofs.OpenCalls.{runs-carry}
use Rattle.run_laws.specs.ToldRooms.{IsRoomOf}
use Rattle.run_laws.specs.LiveLocks.{row_at, locks_of, served_of}
use Rattle.run_laws.specs.KnownRooms.{IsKnownRight}
use Rattle.run_laws.proofs.KnownRooms.{known-are, known-still}
use Rattle.run_laws.proofs.LiveRun.{end-none}
use Rattle.run_laws.proofs.Standing.{table-now, row-there, keeping-row, held-grant, standing-are}
use Rattle.run_laws.specs.NotedEffects.{note_effects, noted_past}
use Rattle.run_laws.specs.NotedDeeds.{noted_deeds}
use Rattle.run_laws.specs.States.{AreStatesTold}
use Rattle.run_laws.proofs.States.{states-told}
use Rattle.run_laws.specs.Items.{Item, Value, Write, write_of, same_item, desk_value, is_dirty_at, home_value}
use Rattle.run_laws.specs.Stamps.{AreStamped, IsThere, home_at, stamp_at}
use Rattle.run_laws.specs.ObjectMoves.{IsWritten, IsTaking, ObjectMove}
use Rattle.run_laws.proofs.ObjectChanges.{there-given}
use Rattle.run_laws.proofs.ObjectMoves.{object-move}
use Rattle.run_laws.proofs.Stamping.{stamped-are}
use Rattle.run_laws.specs.Writes.{HasRoom, MayStore}
use Rattle.run_laws.specs.DeskContents.{AreContents}
use Rattle.run_laws.proofs.WriteCalls.{call-then, node-move, home-step, given-are}
use Rattle.run_laws.proofs.Decisions.{granted-before}
use Rattle.run_laws.proofs.Keeping.{contents-are}
use Rattle.run_laws.proofs.Steps.{home-sends}
use Rattle.run_laws.proofs.Sending.{IsSent, SendsTurn, says-sent}
use Rattle.run_laws.proofs.Traces.{item-is}
use Rattle.run_laws.specs.Stores.{AreStores, stored_value, IsCleanEverywhere}
use Rattle.run_laws.proofs.Keepers.{keeper, Writer, writer, dirty-any}
use Rattle.run_laws.proofs.StoresAre.{stores-are, reads-are}
use Rattle.run_laws.proofs.StoresRun.{calls-of-nodes, write-is, room-is}
use Rattle.run_laws.proofs.Stepping.{store-note}
use Rattle.run_laws.specs.DeskReplies.{before_note, IsOneStoreNote, AreDeskReplies}
use Rattle.run_laws.proofs.DeskReplies.{desks-reply}
use Rattle.run_laws.specs.Left.{HasOwn, IsUnkept, IsLeft, AreLeft}
use Rattle.run_laws.proofs.Owned.{NoteStorers, note-storers, IsBeside, own-store, own-leaves, own-beside}
use Rattle.run_laws.proofs.Beside.{store-held, held-still, store-proc}
use Rattle.run_laws.proofs.Releasing.{unkept-settled}

-- what has room is told by the room alone
page-room : (a b : Option Attr) (k : ℕ) → is_some b ≡ true → room_of a ≡ room_of b → has_page a k ≡ true → has_page b k ≡ true
page-room None b k there same is = absurd (cc)
page-room (Some a) None k there same is = absurd (cc)
page-room (Some a) (Some b) k there same is = subst (λ r. nat_lt k r ≡ true) same is

length-room : (a b : Option Attr) (n : ℕ) → is_some b ≡ true → room_of a ≡ room_of b → has_length a n ≡ true → has_length b n ≡ true
length-room None b n there same is = absurd (cc)
length-room (Some a) None n there same is = absurd (cc)
length-room (Some a) (Some b) n there same is = subst (λ r. nat_le n (PAGE_BYTES * r) ≡ true) same is

room-back : (new old : HomeState) (u : ObjectName) (x : Item) (v : Value) → is_some (attr_of old u) ≡ true → room_of (attr_of new u) ≡ room_of (attr_of old u) → HasRoom new u x v → HasRoom old u x v
room-back new old u (Item.Page k) v there same is = page-room (attr_of new u) (attr_of old u) k there same is
room-back new old u Item.Size (Value.Length n) there same is = length-room (attr_of new u) (attr_of old u) n there same is
room-back new old u Item.Size (Value.Bytes bytes) there same is = is

op-sends : (opening : Start) (incoming : Incoming) (doing : Option OpenOp) (stage : Stage) (d : DeskState) (p : ℕ) (op : Op) (m : Moved) → OpMove opening incoming doing stage d p op m → SendsTurn m.desk p m.turn
op-sends opening incoming doing stage d p op m (desk_apart desk turn) = home-sends opening incoming p doing stage op m.desk m.turn turn
op-sends opening incoming doing stage d p op m (moves cause may of at_stage taken made) = says-sent d p m.desk cause m.turn made.says

abbrev asked_in : Ask → Option (ℕ × Asked) → Ask
asked_in other None = other
asked_in other (Some made) = made.1.ask

abbrev proc_in : ℕ → Option (ℕ × Asked) → ℕ
proc_in other None = other
proc_in other (Some made) = made.0

module _ (s : Setup) (setup : IsSetup s) (before : List Choice) (old : World) (e : world_after s before ≡ Some old) (timely : IsTimely old) (c : Choice) (new : World) (next : IsKeptNext s old c new)
    (after : List Choice) (whole : world_after s after ≡ Some new) (late : IsTimely new) (were : AreLeft s old) where
  open event s old c new next use {n, step, mark}

  node-here : new.nodes c.node ≡ step.node
  node-here = ap (λ (w : World). w.nodes c.node) next.is.world ∙ put-same old.nodes c.node c.node step.node refl

  node-away : (a : ℕ) → a ≢ c.node → new.nodes a ≡ old.nodes a
  node-away a away = ap (λ (w : World). w.nodes a) next.is.world ∙ put-other old.nodes c.node a step.node away

  trace-new : new.trace ≡ mark ∷ old.trace
  trace-new = ap (λ (w : World). w.trace) next.is.world

  abbrev past : List StoreEffect
  past = noted_past old.trace

  abbrev now : List StoreEffect
  now = noted_past new.trace

  past-new : now ≡ note_effects c.node step.note ++ past
  past-new = ap noted_past trace-new

  nodes : (a : ℕ) → is_node s.opening a ≡ true → IsNodeOf (given s a) (new.nodes a)
  nodes = ((run-keeps s setup after new whole).kept late).nodes

  contents : AreContents s new
  contents = contents-are s setup after new whole late

  stores : AreStores s new
  stores = stores-are s setup after new whole late

  stamped : AreStamped s new
  stamped = stamped-are s setup after new whole late

  stamped_old : AreStamped s old
  stamped_old = stamped-are s setup before old e timely

  states : AreStatesTold s new
  states = states-told s setup after new whole late

  replied : AreDeskReplies s new
  replied = desks-reply reads-are s setup after new whole late

  move : NodeMove (given s c.node) n next.is.incoming step
  move = node-move s setup old c new next

  homes : HomeStep (given s c.node) n c.what next.is.incoming step
  homes = home-step s setup old c new next

  -- where the item is clean everywhere the home has the last stores, and so has what may be written
  clean-left : (p : ProcName) (u : ObjectName) (x : Item) → is_node s.opening u.home ≡ true → IsThere new u → IsCleanEverywhere s new u x → IsLeft s new p u x
  clean-left p u x home there clean =
      let whole_home : home_value (home_at new u) u x ≡ stored_value s new u x = stores.clean u x home there clean in
      record {
        home = subst (HasOwn s.opening now p u x) (sym whole_home) (own-store s.opening now p u x);
        late = λ a q v node m.
            let same : v ≡ stored_value s new u x = contents.harmless a q node u x v there (clean a node) m ∙ (sym (stamped.homes u home there x) ∙ whole_home) in
            subst (HasOwn s.opening now p u x) (sym same) (own-store s.opening now p u x);
      }

  -- no home decides, or the desks stay
  abbrev SameLocks : Type 0
  SameLocks = (a : ℕ) → locks_of new a ≡ locks_of old a

  abbrev SameDesks : Type 0
  SameDesks = (a : ℕ) → (new.nodes a).desk ≡ (old.nodes a).desk

  locks-or : SameLocks ⊎ SameDesks
  locks-or = by homes move
    where
      by : HomeStep (given s c.node) n c.what next.is.incoming step → NodeMove (given s c.node) n next.is.incoming step → SameLocks ⊎ SameDesks
      by (apart more same none) any = inl (λ a. elim (cases_eq a c.node) [
        | inl here ↦ ap (λ i. (new.nodes i).side.locks) here ∙ (ap (λ (x : NodeState). x.side.locks) node-here ∙ (same.1 ∙ ap (λ b. (old.nodes b).side.locks) (sym here)))
        | inr away ↦ ap (λ (x : NodeState). x.side.locks) (node-away a away)
      ])
      by (decides from index m ask answer takes frame asks more above last note decision) (still desk same quiet uncalled) = inr (λ a. elim (cases_eq a c.node) [
        | inl here ↦ ap (λ i. (new.nodes i).desk) here ∙ (ap (λ (x : NodeState). x.desk) node-here ∙ (desk ∙ ap (λ b. (old.nodes b).desk) (sym here)))
        | inr away ↦ ap (λ (x : NodeState). x.desk) (node-away a away)
      ])
      by (decides from index m ask answer takes frame asks more above last note decision) (moved p o stage to proc is_at made at_desk doing others moved_note call side) =
          absurd (subst IsNoDecision (sym moved_note ∙ note) (end-none stage _ (proc_of n p).phase o to.turn))

  -- where a process kept the object in a mode that writes, and does not now, all of it is clean at its node
  settled-now : (p : ProcName) → IsProc p.number → (u : ObjectName) → keeps (entry_at (old.nodes p.node).desk.entries p.number u) ≡ true → may_write (state_of (old.nodes p.node).desk p.number u) ≡ true → IsUnkept new p u → IsSettled (new.nodes p.node).desk p.number u
  settled-now p proc u kept writes unkept = elim (cases_eq p.node c.node) [
    | inr away ↦ absurd (changed (ap (λ (y : NodeState). y.desk) (node-away p.node away)))
    | inl here ↦ by move here
  ]
    where
      changed : (new.nodes p.node).desk ≡ (old.nodes p.node).desk → ⊥
      changed same = absurd (let h : true ≡ false = sym kept ∙ (ap (λ (d : DeskState). keeps (entry_at d.entries p.number u)) (sym same) ∙ unkept) in cc)

      same-here : p.node ≡ c.node → step.node.desk ≡ n.desk → (new.nodes p.node).desk ≡ (old.nodes p.node).desk
      same-here here same = ap (λ i. (new.nodes i).desk) here ∙ (ap (λ (y : NodeState). y.desk) node-here ∙ (same ∙ ap (λ i. (old.nodes i).desk) (sym here)))

      by : NodeMove (given s c.node) n next.is.incoming step → p.node ≡ c.node → IsSettled (new.nodes p.node).desk p.number u
      by (still desk same quiet uncalled) here = absurd (changed (same-here here desk))
      by (moved r o stage m is_proc is_at (desk_apart desk turn) at_desk doing others note call side) here = absurd (changed (same-here here (at_desk ∙ desk)))
      by (moved r o stage m is_proc is_at (moves cause may of at_stage taken made) at_desk doing others note call side) here = elim (cases_eq p.number r) [
        | inl mine ↦
            (let kept_here : keeps (entry_at n.desk.entries r u) ≡ true = subst (λ q. keeps (entry_at n.desk.entries q u) ≡ true) mine (subst (λ i. keeps (entry_at (old.nodes i).desk.entries p.number u) ≡ true) here kept) in
            let writes_here : may_write (state_of n.desk r u) ≡ true = subst (λ q. may_write (state_of n.desk q u) ≡ true) mine (subst (λ i. may_write (state_of (old.nodes i).desk p.number u) ≡ true) here writes) in
            let unkept_here : keeps (entry_at m.desk.entries r u) ≡ false = subst (λ q. keeps (entry_at m.desk.entries q u) ≡ false) mine (subst (λ (d : DeskState). keeps (entry_at d.entries p.number u) ≡ false) (now_here here) unkept) in
            subst (λ (d : DeskState). IsSettled d p.number u) (sym (now_here here)) (subst (λ q. IsSettled m.desk q u) (sym mine)
            (unkept-settled cause r n.desk m is_proc (next.kept.nodes c.node next.is.node).desk made u kept_here writes_here unkept_here)))
        | inr differs ↦
            (let beside_it = moves-beside cause m.turn r p.number is_proc proc differs n.desk m.desk m.dropped made.moves in
            absurd (let h : true ≡ false = sym kept ∙ (ap (λ i. keeps (entry_at (old.nodes i).desk.entries p.number u)) here ∙ (ap (λ es. keeps (entry_of u es)) (sym beside_it.entries) ∙ (ap (λ (d : DeskState). keeps (entry_at d.entries p.number u)) (sym (now_here here)) ∙ unkept))) in cc))
      ]
        where
          now_here : p.node ≡ c.node → (new.nodes p.node).desk ≡ m.desk
          now_here here = ap (λ i. (new.nodes i).desk) here ∙ (ap (λ (y : NodeState). y.desk) node-here ∙ at_desk)

  settled-clean : (d : DeskState) (p : ℕ) (u : ObjectName) → IsSettled d p u → (x : Item) → is_dirty_at d u x ≡ false
  settled-clean d p u settled (Item.Page k) = settled.clean k
  settled-clean d p u settled Item.Size = settled.length

  -- its row stands: so nothing of the object is dirty, neither at its node nor at another
  given-up : (p : ProcName) → IsProc p.number → (u : ObjectName) → keeps (entry_at (old.nodes p.node).desk.entries p.number u) ≡ true → IsUnkept new p u → (x : Item) → IsCleanEverywhere s new u x
  given-up p proc u kept unkept x a node = elim locks-or [
    | inl same ↦ by_cases (is_dirty_at (new.nodes a).desk u x) (is_dirty_at (new.nodes a).desk u x ≡ false)
        (λ dirty. absurd (none same dirty (writer new a u (dirty-any (new.nodes a).desk (nodes a node).desk u x dirty)))) (λ h. h)
    | inr same ↦ absurd (let h : true ≡ false = sym kept ∙ (ap (λ (d : DeskState). keeps (entry_at d.entries p.number u)) (sym (same p.node)) ∙ unkept) in cc)
  ]
    where
      none : SameLocks → is_dirty_at (new.nodes a).desk u x ≡ true → Writer new a u → ⊥
      none same dirty w = by_cases (same_proc p (proc_at a w.proc)) ⊥
          (λ mine. absurd (
          let keeps_now : keeps (entry_at (new.nodes a).desk.entries w.proc u) ≡ true = ap keeps w.keeping.found ∙ w.keeping.kept in
          let h : true ≡ false = sym keeps_now ∙ subst (λ (r : ProcName). keeps (entry_at (new.nodes r.node).desk.entries r.number u) ≡ false) (same_proc_is p (proc_at a w.proc) mine) unkept in cc))
          (λ other.
          let k = keeper old p.node p.number proc u kept in
          let row : row_at (locks_of new) p u ≡ Some (k.mode, k.grant) = ap (λ (t : Table). held_in (grant_of p u t.grants)) (same u.home) ∙ keeping-row s setup before old e timely p.node p.number u k.mode k.grant k.keeping in
          let one = held-grant (grant_of p u (locks_of new u.home).grants) k.mode k.grant row in
          let two = held-grant (grant_of (proc_at a w.proc) u (locks_of new u.home).grants) w.mode w.grant (keeping-row s setup after new whole late a w.proc u w.mode w.grant w.keeping) in
          let free : modes_clash p k.mode (proc_at a w.proc) w.mode ≡ false =
          subst (λ y. modes_clash p k.mode (proc_at a w.proc) y ≡ false) two.2 (subst (λ y. modes_clash p y (proc_at a w.proc) two.0.row.mode ≡ false) one.2
          (holders-compatible p (proc_at a w.proc) u (locks_of new u.home).grants one.0 two.0 (table-now s setup after new whole late u.home).compatible one.1 two.1 other)) in
          let both = writes-together p k.mode (proc_at a w.proc) w.mode w.writes free in
          let writes : may_write (state_of (old.nodes p.node).desk p.number u) ≡ true = ap (λ o. may_write (state_in o)) k.keeping.found ∙ (ap may_write k.keeping.state ∙ shared-writes k.mode both.0) in
          let clean : is_dirty_at (new.nodes p.node).desk u x ≡ false = settled-clean (new.nodes p.node).desk p.number u (settled-now p proc u kept writes unkept) x in
          absurd (let h : true ≡ false = sym dirty ∙ subst (λ i. is_dirty_at (new.nodes i).desk u x ≡ false) both.1.1 clean in cc))

  -- a store that is done now is of a process that keeps its object
  module _ (p : ProcName) (node : is_node s.opening p.node ≡ true) (proc : IsProc p.number) (u : ObjectName) (unkept : IsUnkept new p u) where
    done-idle : (q : ProcName) (phase : ℕ) (spot : Spot) (bytes : List ℕ) → step.note ≡ Note.Did q phase (ops.Store spot bytes) replies.Fine → q ≡ p → (proc_of (new.nodes p.node) p.number).doing ≡ None
    done-idle q phase spot bytes note mine = by move
      where
        by : NodeMove (given s c.node) n next.is.incoming step → (proc_of (new.nodes p.node) p.number).doing ≡ None
        by (still desk same quiet uncalled) = absurd (subst IsApart note quiet)
        by (moved r o stage m is_proc is_at made at_desk doing others moved_note call side) =
            let said = sym moved_note ∙ note in
            let named : proc_at c.node r ≡ p = store-proc stage (proc_at c.node r) q (proc_of n r).phase phase o m.turn spot bytes said ∙ mine in
            let turn = (store-note stage (proc_at c.node r) q (proc_of n r).phase phase o m.turn spot bytes said).turn_is in
            let here : (proc_of (new.nodes c.node) r).doing ≡ None = ap (λ (y : NodeState). (proc_of y r).doing) node-here ∙ (doing ∙ ap (doing_after o (proc_of n r)) turn) in
            subst (λ (z : ProcName). (proc_of (new.nodes z.node) z.number).doing ≡ None) named here

    held-kept : (doing : Option OpenOp) → (proc_of (new.nodes p.node) p.number).doing ≡ doing → doing ≡ None → is_held (state_of (new.nodes p.node).desk p.number u) ≡ true → keeps (entry_at (new.nodes p.node).desk.entries p.number u) ≡ true
    held-kept doing is none held =
        let agrees = subst (Agrees (new.nodes p.node).desk p.number (proc_of (new.nodes p.node) p.number).last) (is ∙ none) ((nodes p.node node).agrees p.number proc) in
        agrees.keeping u held

    beside : (q : ProcName) (phase : ℕ) (spot : Spot) (bytes : List ℕ) → step.note ≡ Note.Did q phase (ops.Store spot bytes) replies.Fine → (o : Option Target) → target s.opening past q spot ≡ o → IsBeside o q p u
    beside q phase spot bytes note None at = tt
    beside q phase spot bytes note (Some t) at = λ on. by_cases (same_proc q p) (same_proc q p ≡ false)
        (λ same. absurd (
        let mine : q ≡ p = same_proc_is q p same in
        let allowed = subst (IsOneStoreNote s old.trace) note (replied [] old.trace mark trace-new) in
        let held : is_held (state t.uid (own q (noted_deeds old.trace))) ≡ true = store-held (before_note s old.trace q) q spot bytes allowed t at in
        let on_u : is_held (state u (own q (noted_deeds old.trace))) ≡ true = subst (λ v. is_held (state v (own q (noted_deeds old.trace))) ≡ true) (same_uid_is t.uid u on) held in
        let still_held = held-still q spot bytes u (noted_deeds old.trace) on_u in
        let deeds : noted_deeds new.trace ≡ record { proc = q; op = ops.Store spot bytes; reply = replies.Fine } ∷ noted_deeds old.trace = ap noted_deeds trace-new ∙ ap (λ x. noted_deeds (record { place = place_at c step; note = x } ∷ old.trace)) note in
        let told : is_held (state u (own p (noted_deeds new.trace))) ≡ true = subst (λ r. is_held (state u (own r (noted_deeds new.trace))) ≡ true) mine (ap (λ ds. is_held (state u (own q ds))) deeds ∙ still_held) in
        let desk : is_held (state_of (new.nodes p.node).desk p.number u) ≡ true = ap is_held (sym (states.states p.node p.number node proc u)) ∙ told in
        let kept = held-kept (proc_of (new.nodes p.node) p.number).doing refl (done-idle q phase spot bytes note mine) desk in
        let h : true ≡ false = sym kept ∙ unkept in cc))
        (λ h. h)

    own-later : (x : Item) (v : Value) → HasOwn s.opening past p u x v → HasOwn s.opening now p u x v
    own-later x v has = subst (λ es. HasOwn s.opening es p u x v) (sym past-new) (by (note-storers c.node step.note))
      where
        by : NoteStorers c.node step.note → HasOwn s.opening (note_effects c.node step.note ++ past) p u x v
        by (NoteStorers.leaves is) = own-leaves s.opening (note_effects c.node step.note) past is p u x v has
        by (NoteStorers.wrote q phase spot bytes note) = subst (λ y. HasOwn s.opening (note_effects c.node y ++ past) p u x v) (sym note)
            (own-beside s.opening past q spot bytes p u (beside q phase spot bytes note (target s.opening past q spot) refl) x v has)

  -- a write that may be taken might be before, or is asked for now: of what is dirty, as it is
  pub record IsSentThen (a : ℕ) (u : ObjectName) (x : Item) (v : Value) : Type 0 where
    dirty : is_dirty_at (new.nodes a).desk u x ≡ true
    value : desk_value (new.nodes a).desk u x ≡ Some v

  sent-then : (a q number : ℕ) (u : ObjectName) (ask : Ask) (written : Write) → IsCallAt (new.calls a q) number u.home ask → write_of ask ≡ Some written → IsCallAt (old.calls a q) number u.home ask ⊎ IsSentThen a written.uid written.item written.value
  sent-then a q number u ask written call writes =
      elim (call-then old c.node a q number u.home ask step.call (subst (λ (w : World). IsCallAt (w.calls a q) number u.home ask) next.is.world call)) [
        | inl older ↦ inl older
        | inr made ↦ inr (by move made.call made.is made.node made.asks)
      ]
    where
      by : NodeMove (given s c.node) n next.is.incoming step → (k : Asked) → step.call ≡ Some (q, k) → a ≡ c.node → k.ask ≡ ask → IsSentThen a written.uid written.item written.value
      by (still desk same quiet uncalled) k is here asks = absurd (let h : None ≡ Some (q, k) = sym uncalled ∙ is in cc)
      by (moved p o stage m proc is_at made at_desk doing others note made_call side) k is here asks = at m.turn refl (op-sends _ _ _ stage n.desk p o.op m made) (sym made_call ∙ is)
        where
          at : (turn : Turn) → m.turn ≡ turn → SendsTurn m.desk p turn → turn_call p (proc_of n p) turn ≡ Some (q, k) → IsSentThen a written.uid written.item written.value
          at (Turn.Ends reply) same sends is = absurd (cc)
          at (Turn.Waits w i) same sends is = absurd (cc)
          at (Turn.Asks to y) same sends is =
              let desk_here : (new.nodes c.node).desk ≡ m.desk = ap (λ (z : NodeState). z.desk) node-here ∙ at_desk in
              let desk : (new.nodes a).desk ≡ m.desk = ap (λ i. (new.nodes i).desk) here ∙ desk_here in
              let this : y ≡ ask = ap (asked_in y) is ∙ asks in
              let open_now : (proc_of (new.nodes c.node) p).doing ≡ asking o (next_call (proc_of n p) to y) = ap (λ (z : NodeState). (proc_of z p).doing) node-here ∙ (doing ∙ ap (doing_after o (proc_of n p)) same) in
              let carries : Carries m.desk p y = subst (λ d. Carries d p y) desk_here (subst (CarriesOpen (new.nodes c.node).desk p) open_now (runs-carry s setup after new whole late c.node next.is.node p proc)) in
              let sent : IsSent m.desk written = sends carries written (ap write_of this ∙ writes) in
              record { dirty = subst (λ d. is_dirty_at d written.uid written.item ≡ true) (sym desk) sent.dirty; value = subst (λ d. desk_value d written.uid written.item ≡ Some written.value) (sym desk) sent.value }

  -- it carries what one store has
  sent-own : (p : ProcName) (a : ℕ) → is_node s.opening a ≡ true → (u : ObjectName) (x : Item) (v : Value) → IsThere new u → IsSentThen a u x v → HasOwn s.opening now p u x v
  sent-own p a node u x v there sent = subst (HasOwn s.opening now p u x) (some-value (stored_value s new u x) v (sym (stores.dirty a node u x there sent.dirty) ∙ sent.value)) (own-store s.opening now p u x)
    where
      some-value : (y z : Value) → Some y ≡ Some z → y ≡ z
      some-value y z is = cc

  served-was : (q : ProcName) (a : ℕ) → served_of old q a ≤ served_of new q a
  served-was q a = elim (cases_eq a c.node) [
    | inl here ↦
        (let f = ap (λ i. last_of q (new.nodes i).side.served) here in
        let g = ap (λ (x : NodeState). last_of q x.side.served) node-here in
        let h = ap (λ i. last_of q (old.nodes i).side.served) here in
        let k = by homes in
        omega (arith, f, g, h, k))
    | inr away ↦ (let f = ap (λ (x : NodeState). last_of q x.side.served) (node-away a away) in omega (arith, f))
  ]
    where
      by : HomeStep (given s c.node) n c.what next.is.incoming step → last_of q n.side.served ≤ last_of q step.node.side.served
      by (apart more same none) = more q
      by (decides from index m ask answer takes frame asks more above last note decision) = more q

  granted-was : (u : ObjectName) (grant a : ℕ) → grant ≤ (locks_of old u.home).last → is_granted (locks_of new u.home) grant u a ≡ true → is_granted (locks_of old u.home) grant u a ≡ true
  granted-was u grant a low on = elim (cases_eq u.home c.node) [
    | inr away ↦ subst (λ (x : NodeState). is_granted x.side.locks grant u a ≡ true) (node-away u.home away) on
    | inl here ↦ by homes here
  ]
    where
      by : HomeStep (given s c.node) n c.what next.is.incoming step → u.home ≡ c.node → is_granted (locks_of old u.home) grant u a ≡ true
      by (apart more same none) here =
          subst (λ i. is_granted (locks_of old i) grant u a ≡ true) (sym here)
          (subst (λ (t : Table). is_granted t grant u a ≡ true) same.1 (subst (λ (x : NodeState). is_granted x.side.locks grant u a ≡ true) node-here (subst (λ i. is_granted (locks_of new i) grant u a ≡ true) here on)))
      by (decides from index m ask answer takes frame asks more above last note decision) here =
          let locks : locks_of new u.home ≡ (decide n.side.home n.side.locks (caller_of m) ask).locks = ap (locks_of new) here ∙ (ap (λ (x : NodeState). x.side.locks) node-here ∙ decision.locks) in
          let below : grant ≤ n.side.locks.last = subst (λ i. grant ≤ (locks_of old i).last) here low in
          subst (λ i. is_granted (locks_of old i) grant u a ≡ true) (sym here)
          (granted-before grant u a n.side.home n.side.locks (locks_of new u.home) (caller_of m) ask (table-now s setup after new whole late u.home) locks below on)

  room-same : (u : ObjectName) → is_node s.opening u.home ≡ true → IsThere old u → IsThere new u → room_of (attr_of (home_at new u) u) ≡ room_of (attr_of (home_at old u) u)
  room-same u home had there =
      let row : Known = record { uid = u; room = room_of (attr_of (home_at old u) u); length = 0; changed = false } in
      let was_room : IsRoomOf (home_at old u) u (room_of (attr_of (home_at old u) u)) 0 =
      record { given = there-given (home_at old u) u (next.kept.nodes u.home home).side.home had; room = λ is. refl; within = omega arith } in
      let still_room : IsKnownRight (home_at new u) u (Some row) =
      subst (λ (w : World). IsKnownRight (home_at w u) u (Some row)) (sym next.is.world) (known-still s setup before old e timely c new next (known-are s setup before old e timely) homes u (Some row) was_room) in
      still_room.room there

  -- where the stamp stays
  may-was : (u : ObjectName) → is_node s.opening u.home ≡ true → IsThere old u → IsThere new u → stamp_at new u ≡ stamp_at old u → (a q : ℕ) → is_node s.opening a ≡ true → (x : Item) (v : Value) (m : MayStore new a q u x v) → IsCallAt (old.calls a q) m.number u.home m.ask → MayStore old a q u x v
  may-was u home had there stamp a q node x v m call = record {
    owner = m.owner;
    number = m.number;
    ask = m.ask;
    call = call;
    undecided = let f = m.undecided in let g = served-was (proc_at a q) u.home in omega (arith, f, g);
    grant = m.grant;
    writes = m.writes ∙ ap (λ b. Some (let y : Write = record { uid = u; item = x; value = v; grant = m.grant; base = b } in y)) stamp;
    room = room-back (home_at new u) (home_at old u) u x v had (room-same u home had there) m.room;
    granted = granted-was u m.grant a (given-are s setup before old e timely a q node m.owner m.number u.home m.ask (record { uid = u; item = x; value = v; grant = m.grant; base = stamp_at new u }) call m.writes) m.granted;
  }

  -- a write that a home takes is one that it may take
  taking-node : (u : ObjectName) (w : Write) (j : Noted) (taking : IsTaking old u w j) → is_node s.opening taking.proc.node ≡ true
  taking-node u w j taking = by_cases (is_node s.opening taking.proc.node) (is_node s.opening taking.proc.node ≡ true) (λ h. h)
      (λ none. absurd (subst (λ calls. IsCallAt calls taking.number u.home taking.ask) (calls-of-nodes s setup before old e timely taking.proc.node taking.proc.number none) taking.call))

  taking-may : (u : ObjectName) (w : Write) (j : Noted) (taking : IsTaking old u w j) → IsWritten (home_at old u) (home_at new u) u w → MayStore old taking.proc.node taking.proc.number u w.item w.value
  taking-may u w j taking written = record {
    owner = taking.owner;
    number = taking.number;
    ask = taking.ask;
    call = taking.call;
    undecided = taking.undecided;
    grant = w.grant;
    writes = taking.write ∙ ap (λ (y : Write). Some y) (write-is w u (stamp_at old u) taking.named written.base);
    room = room-is (home_at old u) u w.item w.value written.room;
    granted = taking.granted;
  }

  -- what was just made is clean
  made-clean : (u : ObjectName) → is_node s.opening u.home ≡ true → (home_at old u).greatest < u.counter → (x : Item) → IsCleanEverywhere s new u x
  made-clean u home above x a node = by_cases (is_dirty_at (new.nodes a).desk u x) (is_dirty_at (new.nodes a).desk u x ≡ false)
      (λ dirty. absurd (none (had (writer new a u (dirty-any (new.nodes a).desk (nodes a node).desk u x dirty)) dirty))) (λ h. h)
    where
      none : IsThere old u → ⊥
      none there = let low = there-given (home_at old u) u (next.kept.nodes u.home home).side.home there in absurd (omega (arith, above, low))

      had : Writer new a u → is_dirty_at (new.nodes a).desk u x ≡ true → IsThere old u
      had w dirty = elim locks-or [
        | inl same ↦ row-there s setup before old e timely (proc_at a w.proc) u (w.mode, w.grant)
            (sym (ap (λ (t : Table). held_in (grant_of (proc_at a w.proc) u t.grants)) (same u.home)) ∙ keeping-row s setup after new whole late a w.proc u w.mode w.grant w.keeping)
        | inr same ↦
            (let was = writer old a u (dirty-any (old.nodes a).desk (next.kept.nodes a node).desk u x (ap (λ (d : DeskState). is_dirty_at d u x) (sym (same a)) ∙ dirty)) in
            (standing-are s setup before old e timely).there a was.proc u was.mode was.grant was.keeping)
      ]

  module _ (p : ProcName) (node : is_node s.opening p.node ≡ true) (proc : IsProc p.number) (u : ObjectName) (x : Item) (home : is_node s.opening u.home ≡ true) (there : IsThere new u) (unkept : IsUnkept new p u) (unkept_old : IsUnkept old p u) where
    later : (v : Value) → HasOwn s.opening past p u x v → HasOwn s.opening now p u x v
    later v has = own-later p node proc u unkept x v has

    by-object : ObjectMove old new u → IsLeft s new p u x
    by-object (ObjectMove.makes same above stamp fresh) = clean-left p u x home there (made-clean u home above x)
    by-object (ObjectMove.keeps same so) =
        let a = so there in
        let was = were p node proc u x home a.there unkept_old in
        record {
          home = subst (HasOwn s.opening now p u x) (sym (a.value x)) (later (home_value (home_at old u) u x) was.home);
          late = λ b q v is_one m. elim (sent-then b q m.number u m.ask (record { uid = u; item = x; value = v; grant = m.grant; base = stamp_at new u }) m.call m.writes) [
            | inl call ↦ later v (was.late b q v is_one (may-was u home a.there there a.stamp b q is_one x v m call))
            | inr sent ↦ sent-own p b is_one u x v there sent
          ];
        }
    by-object (ObjectMove.writes w j taking trace is) =
        let was = were p node proc u x home is.there unkept_old in
        record {
          home = subst (HasOwn s.opening now p u x) (sym (is.value x)) (by_cases (same_item w.item x) (HasOwn s.opening now p u x (if same_item w.item x then w.value else home_value (home_at old u) u x))
              (λ same. subst (λ b. HasOwn s.opening now p u x (if b then w.value else home_value (home_at old u) u x)) (sym same)
              (later w.value (was.late taking.proc.node taking.proc.number w.value (taking-node u w j taking) (subst (λ y. MayStore old taking.proc.node taking.proc.number u y w.value) (item-is w.item x same) (taking-may u w j taking is)))))
              (λ differs. subst (λ b. HasOwn s.opening now p u x (if b then w.value else home_value (home_at old u) u x)) (sym differs) (later (home_value (home_at old u) u x) was.home)));
          late = λ b q v is_one m. elim (sent-then b q m.number u m.ask (record { uid = u; item = x; value = v; grant = m.grant; base = stamp_at new u }) m.call m.writes) [
            | inl call ↦ absurd (
                let low = (stamped_old.bases b q is_one m.owner m.number u.home m.ask (record { uid = u; item = x; value = v; grant = m.grant; base = stamp_at new u }) call m.writes).most is.there in
                let up = is.stamp in omega (arith, low, up))
            | inr sent ↦ sent-own p b is_one u x v there sent
          ];
        }

  pub left-later : AreLeft s new
  left-later p node proc u x home there unkept = by_cases (keeps (entry_at (old.nodes p.node).desk.entries p.number u)) (IsLeft s new p u x)
      (λ kept. clean-left p u x home there (given-up p proc u kept unkept x))
      (λ none. by-object p node proc u x home there unkept none (object-move s old c new next u))

-- at first nothing was stored
first-own : (s : Setup) (p : ProcName) (u : ObjectName) (x : Item) → HasOwn s.opening (noted_past (first_world s).trace) p u x (home_value (home_at (first_world s) u) u x)
first-own s p u (Item.Page k) = λ i low mine. absurd (cc)
first-own s p u Item.Size = omega arith

abbrev IsLeftRun : Setup → World → Type 0
IsLeftRun s w = (cs : List Choice) → world_after s cs ≡ Some w → IsTimely w → AreLeft s w

pub left-are : (s : Setup) → IsSetup s → (cs : List Choice) (w : World) → world_after s cs ≡ Some w → IsTimely w → AreLeft s w
left-are s setup cs w e timely =
    every-kept-run s setup (setup-procs s setup) (IsLeftRun s)
    (λ cs e timely p node proc u x home there unkept. record { home = first-own s p u x; late = λ n q v is_one m. absurd m.call })
    (λ before old c new e timely next was after whole late. left-later s setup before old e timely c new next after whole late (was before e timely))
    cs w e timely cs e timely
