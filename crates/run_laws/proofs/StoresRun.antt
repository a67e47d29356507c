-- In every run the last store of each byte is dirty at the node that writes, or at the home.
use Rattle.std.proofs.Common.{◌≡◌, ◌≢◌, ℕ, ◌*◌, ◌≤◌, ◌<◌, true, false, List, [], ◌++◌, Option, Some, None, inl, inr, refl, sym, ap, subst, ◌∙◌, arith}
use Rattle.std.specs.Prelude.{is_some, if◌then◌else◌}
use Rattle.std.proofs.lemmas.Bool.{cases_eq}
use Rattle.uid_names.specs.Names.{ObjectName}
use Rattle.uid_names.specs.declared.limits.TheConstants.{PAGE_BYTES}
use Rattle.uid_names.proofs.ListLemmas.{by_cases}
use Rattle.dom_history.specs.declared.op.Op.{Op}
use Rattle.dom_history.specs.declared.op.Op.TheVariants as ops
use Rattle.dom_history.specs.declared.op.Spot.{Spot}
use Rattle.dom_history.specs.Objects.{is_node}
use Rattle.dom_history.specs.Bytes.{length_of}
use Rattle.object_store.specs.Objects.{room_of}
use Rattle.object_store.specs.HomeStates.{HomeState, attr_of}
use Rattle.fault_handler.specs.declared.lengths.Known.{Known}
use Rattle.fault_handler.specs.Desks.{DeskState}
use Rattle.fault_handler.specs.Outcomes.{Turn, Moved}
use Rattle.fault_handler.specs.Invariant.{IsProc}
use Rattle.lock_validate.specs.Causes.{Cause, MayCome, IsOf}
use Rattle.lock_validate.specs.Turns.{IsMade}
use Rattle.node_runs.specs.Setups.{Setup, IsSetup, given}
use Rattle.node_runs.specs.NodeStates.{Asked, BegunOp, NodeState, proc_of}
use Rattle.node_runs.specs.NodesKeep.{IsTimely}
use Rattle.node_runs.specs.Notes.{Note}
use Rattle.node_runs.specs.Outcomes.{Stage}
use Rattle.node_runs.specs.CallsKeep.{IsCallAt}
use Rattle.node_runs.specs.Runs.{World, Noted, Choice, first_world, calls_after, world_after}
use Rattle.node_runs.proofs.Calls.{put-same, put-other}
use Rattle.node_runs.proofs.SettingUp.{setup-procs}
use Rattle.run_laws.specs.DecidedReplies.{proc_at}
use Rattle.run_laws.specs.Progress.{IsApart}
use Rattle.run_laws.proofs.HearingRuns.{IsKeptNext, every-kept-run, event}
use Rattle.run_laws.specs.DeskSteps.{apart as desk_apart, moves, IsAt, IsStageOf, IsTaken, IsHomeTurn, NodeMove, still, moved, turn_note}
use Rattle.run_laws.proofs.EventMoves.{desk-moves}
use Rattle.run_laws.specs.ToldRooms.{IsRoomOf}
use Rattle.run_laws.proofs.KnownRooms.{known-are, known-still}
use Rattle.run_laws.specs.NotedEffects.{note_effects, noted_past}
use Rattle.run_laws.specs.Targets.{AreTargetsTold}
use Rattle.run_laws.specs.Items.{Item, Value, Write, blank, same_item, desk_value, is_dirty_at, home_value}
use Rattle.run_laws.specs.Stamps.{AreStamped, IsThere, home_at, stamp_at}
use Rattle.run_laws.specs.ObjectMoves as moves
use Rattle.run_laws.specs.ObjectMoves.{IsWritten, IsTaking, ObjectMove}
use Rattle.run_laws.proofs.ObjectChanges.{there-given}
use Rattle.run_laws.proofs.ObjectMoves.{object-move, home-step, counters-rise}
use Rattle.run_laws.specs.Writes.{HasRoom, MayStore}
use Rattle.run_laws.specs.DeskContents.{AreContents}
use Rattle.run_laws.proofs.Traces.{item-is}
use Rattle.run_laws.specs.Stores.{AreStores, store_value, stored_value, IsCleanEverywhere}
use Rattle.run_laws.proofs.Keepers.{Writer, writer, dirty-any, writes-alone}
use Rattle.run_laws.proofs.StoresMoved.{length-is}
use Rattle.run_laws.proofs.NotedStores.{LeavesStores, NoteStores, note-stores, left-value, blank-value}
use Rattle.run_laws.proofs.ReadsRight.{kept-there}
use Rattle.run_laws.proofs.Stepping.{store-note, unwritten-value, dirty-home, dirty-now, clean-still, cleaned-home, length-within}

-- where the last store is; and of an object that was not made nothing was stored
pub record AreStoresKept (s : Setup) (w : World) : Type 0 where
  pub stores : AreStores s w
  pub unmade : (u : ObjectName) → is_node s.opening u.home ≡ true → (home_at w u).greatest < u.counter → (x : Item) → stored_value s w u x ≡ blank x

pub write-is : (w : Write) (u : ObjectName) (base : ℕ) → w.uid ≡ u → w.base ≡ base → w ≡ (let y : Write = record { uid = u; item = w.item; value = w.value; grant = w.grant; base = base } in y)
write-is w u base named based = ap (λ v. let y : Write = record { uid = v; item = w.item; value = w.value; grant = w.grant; base = w.base } in y) named ∙ ap (λ b. let y : Write = record { uid = u; item = w.item; value = w.value; grant = w.grant; base = b } in y) based

-- the room that a write was taken for
pub room-is : (home : HomeState) (u : ObjectName) (x : Item) (v : Value) → moves.HasRoom (attr_of home u) x v → HasRoom home u x v
room-is home u (Item.Page k) v is = is
room-is home u Item.Size (Value.Length n) is = is
room-is home u Item.Size (Value.Bytes bytes) is = is

-- no node but those of the opening makes calls
abbrev pub AreCallsOfNodes : Setup → World → Type 0
AreCallsOfNodes s w = (n p : ℕ) → is_node s.opening n ≡ false → w.calls n p ≡ []

pub calls-of-nodes : (s : Setup) → IsSetup s → (cs : List Choice) (w : World) → world_after s cs ≡ Some w → IsTimely w → AreCallsOfNodes s w
calls-of-nodes s setup = every-kept-run s setup (setup-procs s setup) (AreCallsOfNodes s) (λ n p none. refl) (λ cs old c new e timely next was. later old c new next was)
  where
    later : (old : World) (c : Choice) (new : World) → IsKeptNext s old c new → AreCallsOfNodes s old → AreCallsOfNodes s new
    later old c new next was n p none = subst (λ (w : World). w.calls n p ≡ []) (sym next.is.world) (by next.is.step.call)
      where
        away : n ≢ c.node
        away same = absurd (let h : true ≡ false = sym next.is.node ∙ (ap (is_node s.opening) (sym same) ∙ none) in cc)

        by : (made : Option (ℕ × Asked)) → calls_after old c.node made n p ≡ []
        by None = was n p none
        by (Some made) = ap (λ (f : ℕ → List Asked). f p) (put-other old.calls c.node n _ away) ∙ was n p none

module _ (s : Setup) (setup : IsSetup s) (cs : List Choice) (old : World) (e : world_after s cs ≡ Some old) (timely : IsTimely old) (c : Choice) (new : World) (next : IsKeptNext s old c new)
    (was : AreStoresKept s old) (contents : AreContents s old) (stamped : AreStamped s old) (targets : AreTargetsTold s old) where
  open event s old c new next use {n, step, after}

  abbrev stores : AreStores s old
  stores = was.stores

  object-after : (u : ObjectName) → ObjectMove old after u
  object-after u = subst (λ (w : World). ObjectMove old w u) next.is.world (object-move s old c new next u)

  node-after : (a : ℕ) → a ≢ c.node → after.nodes a ≡ old.nodes a
  node-after a away = put-other old.nodes c.node a step.node away

  node-here : after.nodes c.node ≡ step.node
  node-here = put-same old.nodes c.node c.node step.node refl

  -- what is dirty at a node is of an object that is there
  dirty-writer : (a : ℕ) → is_node s.opening a ≡ true → (u : ObjectName) (x : Item) → is_dirty_at (old.nodes a).desk u x ≡ true → Writer old a u
  dirty-writer a node u x dirty = writer old a u (dirty-any (old.nodes a).desk (next.kept.nodes a node).desk u x dirty)

  writer-there : (a : ℕ) → is_node s.opening a ≡ true → (u : ObjectName) → Writer old a u → IsThere old u
  writer-there a node u w = kept-there s setup cs old e timely next.kept.nodes contents stamped a w.proc node u w.mode w.grant w.keeping

  -- no process writes an object that was not made
  unmade-unwritten : (u : ObjectName) → is_node s.opening u.home ≡ true → (home_at old u).greatest < u.counter → Writer old c.node u → ⊥
  unmade-unwritten u home above w =
      let low = there-given (home_at old u) u (next.kept.nodes u.home home).side.home (writer-there c.node next.is.node u w) in
      absurd (omega (arith, above, low))

  -- a write that a home takes is one that it may take
  pub taking-node : (u : ObjectName) (w : Write) (j : Noted) (taking : IsTaking old u w j) → is_node s.opening taking.proc.node ≡ true
  taking-node u w j taking = by_cases (is_node s.opening taking.proc.node) (is_node s.opening taking.proc.node ≡ true) (λ h. h)
      (λ none. absurd (subst (λ calls. IsCallAt calls taking.number u.home taking.ask) (calls-of-nodes s setup cs old e timely taking.proc.node taking.proc.number none) taking.call))

  pub taking-may : (u : ObjectName) (w : Write) (j : Noted) (taking : IsTaking old u w j) → IsWritten (home_at old u) (home_at after u) u w → MayStore old taking.proc.node taking.proc.number u w.item w.value
  taking-may u w j taking written = record {
    owner = taking.owner;
    number = taking.number;
    ask = taking.ask;
    call = taking.call;
    undecided = taking.undecided;
    grant = w.grant;
    writes = taking.write ∙ ap (λ (y : Write). Some y) (write-is w u (stamp_at old u) taking.named written.base);
    room = room-is (home_at old u) u w.item w.value written.room;
    granted = taking.granted;
  }

  -- an event that leaves the desks, and what one store has
  module _ (desks : (a : ℕ) → (after.nodes a).desk ≡ (old.nodes a).desk) (leaves : LeavesStores (note_effects c.node step.note)) where
    same-value : (u : ObjectName) (x : Item) → stored_value s after u x ≡ stored_value s old u x
    same-value u x = left-value s.opening (note_effects c.node step.note) (noted_past old.trace) leaves u x

    quiet-dirty : (a : ℕ) → is_node s.opening a ≡ true → (u : ObjectName) (x : Item) → is_dirty_at (after.nodes a).desk u x ≡ true → desk_value (after.nodes a).desk u x ≡ Some (stored_value s after u x)
    quiet-dirty a node u x dirty =
        let here : is_dirty_at (old.nodes a).desk u x ≡ true = ap (λ (d : DeskState). is_dirty_at d u x) (sym (desks a)) ∙ dirty in
        ap (λ (d : DeskState). desk_value d u x) (desks a) ∙ (stores.dirty a node u x (writer-there a node u (dirty-writer a node u x here)) here ∙ ap (λ v. Some v) (sym (same-value u x)))

    old-clean : (u : ObjectName) (x : Item) → IsCleanEverywhere s after u x → IsCleanEverywhere s old u x
    old-clean u x clean a node = ap (λ (d : DeskState). is_dirty_at d u x) (sym (desks a)) ∙ clean a node

    quiet-clean : (u : ObjectName) (x : Item) → is_node s.opening u.home ≡ true → IsThere after u → IsCleanEverywhere s after u x → home_value (home_at after u) u x ≡ stored_value s after u x
    quiet-clean u x home there clean = by (object-after u) ∙ sym (same-value u x)
      where
        was-clean : IsThere old u → home_value (home_at old u) u x ≡ stored_value s old u x
        was-clean before = stores.clean u x home before (old-clean u x clean)

        written : (w : Write) (j : Noted) → IsTaking old u w j → IsWritten (home_at old u) (home_at after u) u w → same_item w.item x ≡ true → w.value ≡ home_value (home_at old u) u x
        written w j taking is same =
            let item : w.item ≡ x = item-is w.item x same in
            let node = taking-node u w j taking in
            let clean_there : is_dirty_at (old.nodes taking.proc.node).desk u w.item ≡ false = subst (λ y. is_dirty_at (old.nodes taking.proc.node).desk u y ≡ false) (sym item) (old-clean u x clean taking.proc.node node) in
            contents.harmless taking.proc.node taking.proc.number node u w.item w.value is.there clean_there (taking-may u w j taking is) ∙ (sym (stamped.homes u home is.there w.item) ∙ ap (home_value (home_at old u) u) item)

        by : ObjectMove old after u → home_value (home_at after u) u x ≡ stored_value s old u x
        by (ObjectMove.keeps same so) = let a = so there in a.value x ∙ was-clean a.there
        by (ObjectMove.makes same above stamp fresh) = fresh x ∙ sym (was.unmade u home above x)
        by (ObjectMove.writes w j taking trace is) = is.value x ∙ by_cases (same_item w.item x) ((if same_item w.item x then w.value else home_value (home_at old u) u x) ≡ stored_value s old u x)
            (λ same. ap (λ b. if b then w.value else home_value (home_at old u) u x) same ∙ (written w j taking is same ∙ was-clean is.there))
            (λ differs. ap (λ b. if b then w.value else home_value (home_at old u) u x) differs ∙ was-clean is.there)

    quiet-within : (u : ObjectName) → is_node s.opening u.home ≡ true → IsThere after u → length_of s.opening (noted_past after.trace) u ≤ PAGE_BYTES * room_of (attr_of (home_at after u) u)
    quiet-within u home there = by (object-after u)
      where
        same : length_of s.opening (noted_past after.trace) u ≡ length_of s.opening (noted_past old.trace) u
        same = length-is _ _ (same-value u Item.Size)

        stays : IsThere old u → length_of s.opening (noted_past after.trace) u ≤ PAGE_BYTES * room_of (attr_of (home_at after u) u)
        stays before =
            let was_room : IsRoomOf (home_at old u) u (room_of (attr_of (home_at old u) u)) (length_of s.opening (noted_past old.trace) u) =
            record { given = there-given (home_at old u) u (next.kept.nodes u.home home).side.home before; room = λ is. refl; within = stores.within u home before } in
            let row : Known = record { uid = u; room = room_of (attr_of (home_at old u) u); length = length_of s.opening (noted_past old.trace) u; changed = false } in
            let now = known-still s setup cs old e timely c new next (known-are s setup cs old e timely) (home-step s old c new next) u (Some row) was_room in
            let room = now.room there in
            let low = now.within in
            subst (λ r. length_of s.opening (noted_past after.trace) u ≤ PAGE_BYTES * r) (sym room) (omega (arith, same, low))

        by : ObjectMove old after u → length_of s.opening (noted_past after.trace) u ≤ PAGE_BYTES * room_of (attr_of (home_at after u) u)
        by (ObjectMove.keeps same_content so) = stays (so there).there
        by (ObjectMove.writes w j taking trace is) = stays is.there
        by (ObjectMove.makes same_content above stamp fresh) =
            let none : length_of s.opening (noted_past old.trace) u ≡ 0 = length-is _ _ (was.unmade u home above Item.Size) in
            omega (arith, same, none)

    quiet-unmade : (u : ObjectName) → is_node s.opening u.home ≡ true → (home_at after u).greatest < u.counter → (x : Item) → stored_value s after u x ≡ blank x
    quiet-unmade u home above x =
        let up = subst (λ (w : World). (home_at old u).greatest ≤ (home_at w u).greatest) next.is.world (counters-rise s old c new next u) in
        same-value u x ∙ was.unmade u home (omega (arith, above, up)) x

    quiet-kept : AreStoresKept s after
    quiet-kept = record { stores = record { dirty = λ a node u x there dirty. quiet-dirty a node u x dirty; clean = quiet-clean; within = quiet-within }; unmade = quiet-unmade }

  -- an event that moves a desk, by what the desk knows
  module _ (p : ℕ) (proc : IsProc p) (o : BegunOp) (stage : Stage) (m : Moved) (is_at : IsAt (proc_of n p).doing o stage) (cause : Cause) (may : MayCome (old.nodes c.node).desk p cause) (of : IsOf (old.nodes c.node).desk p cause o.op)
      (at_stage : IsStageOf stage cause) (taken : IsTaken next.is.incoming (old.nodes c.node).desk p (proc_of n p).doing cause may) (made : IsMade cause p (old.nodes c.node).desk m) (phase : ℕ)
      (at_desk : step.node.desk ≡ m.desk) (note : step.note ≡ turn_note stage (proc_at c.node p) phase o m.turn) (side : step.node.side ≡ n.side) where
    homes : (u : ObjectName) → home_at after u ≡ home_at old u
    homes u = elim (cases_eq u.home c.node) [
      | inl here ↦ ap (λ (x : NodeState). x.side.home) (put-same old.nodes c.node u.home step.node here) ∙ (ap (λ y. y.home) side ∙ ap (λ a. (old.nodes a).side.home) (sym here))
      | inr away ↦ ap (λ (x : NodeState). x.side.home) (node-after u.home away)
    ]

    there-was : (u : ObjectName) → IsThere after u → IsThere old u
    there-was u is = ap (λ (h : HomeState). is_some (attr_of h u)) (sym (homes u)) ∙ is

    desk-here : (after.nodes c.node).desk ≡ m.desk
    desk-here = ap (λ (x : NodeState). x.desk) node-here ∙ at_desk

    abbrev later_value : ObjectName → Item → Value
    later_value u x = store_value s.opening (note_effects c.node (turn_note stage (proc_at c.node p) phase o m.turn) ++ noted_past old.trace) u x

    value-is : (u : ObjectName) (x : Item) → stored_value s after u x ≡ later_value u x
    value-is u x = ap (λ y. store_value s.opening (note_effects c.node y ++ noted_past old.trace) u x) note

    unwritten : (u : ObjectName) → (Writer old c.node u → ⊥) → (x : Item) → stored_value s after u x ≡ stored_value s old u x
    unwritten u none x = value-is u x ∙ unwritten-value s setup cs old e timely c new next stores contents stamped targets p proc o stage m is_at cause may of at_stage taken made phase u none x

    moved-dirty : (a : ℕ) → is_node s.opening a ≡ true → (u : ObjectName) (x : Item) → IsThere after u → is_dirty_at (after.nodes a).desk u x ≡ true → desk_value (after.nodes a).desk u x ≡ Some (stored_value s after u x)
    moved-dirty a node u x there dirty = elim (cases_eq a c.node) [
      | inl here ↦
          (let same : (after.nodes a).desk ≡ m.desk = ap (λ i. (after.nodes i).desk) here ∙ desk-here in
          let at : is_dirty_at m.desk u x ≡ true = ap (λ (d : DeskState). is_dirty_at d u x) (sym same) ∙ dirty in
          let home = dirty-home s setup cs old e timely c new next stores contents stamped targets p proc o stage m is_at cause may of at_stage taken made phase u x at in
          ap (λ (d : DeskState). desk_value d u x) same
          ∙ (dirty-now s setup cs old e timely c new next stores contents stamped targets p proc o stage m is_at cause may of at_stage taken made phase u (there-was u there) home x at ∙ ap (λ v. Some v) (sym (value-is u x))))
      | inr away ↦
          (let same = ap (λ (y : NodeState). y.desk) (node-after a away) in
          let at : is_dirty_at (old.nodes a).desk u x ≡ true = ap (λ (d : DeskState). is_dirty_at d u x) (sym same) ∙ dirty in
          let none : Writer old c.node u → ⊥ = λ w. away (writes-alone s setup cs old e timely c.node w.proc u w.mode w.grant w.keeping a (dirty-writer a node u x at)) in
          ap (λ (d : DeskState). desk_value d u x) same ∙ (stores.dirty a node u x (there-was u there) at ∙ ap (λ v. Some v) (sym (unwritten u none x))))
    ]

    moved-clean : (u : ObjectName) (x : Item) → is_node s.opening u.home ≡ true → IsThere after u → IsCleanEverywhere s after u x → home_value (home_at after u) u x ≡ stored_value s after u x
    moved-clean u x home there clean =
        let here : is_dirty_at m.desk u x ≡ false = ap (λ (d : DeskState). is_dirty_at d u x) (sym desk-here) ∙ clean c.node next.is.node in
        let still = clean-still s setup cs old e timely c new next stores contents stamped targets p proc o stage m is_at cause may of at_stage taken made phase u (there-was u there) home x here in
        ap (λ (h : HomeState). home_value h u x) (homes u) ∙ (had here ∙ (sym still ∙ sym (value-is u x)))
      where
        had : is_dirty_at m.desk u x ≡ false → home_value (home_at old u) u x ≡ stored_value s old u x
        had here = by_cases (is_dirty_at (old.nodes c.node).desk u x) (home_value (home_at old u) u x ≡ stored_value s old u x)
            (λ dirty. cleaned-home s setup cs old e timely c new next stores contents stamped targets p proc o stage m is_at cause may of at_stage taken made phase u (there-was u there) home x dirty here)
            (λ none. stores.clean u x home (there-was u there) (λ a node. elim (cases_eq a c.node) [
              | inl same ↦ ap (λ i. is_dirty_at (old.nodes i).desk u x) same ∙ none
              | inr away ↦ ap (λ (y : NodeState). is_dirty_at y.desk u x) (sym (node-after a away)) ∙ clean a node
            ]))

    moved-within : (u : ObjectName) → is_node s.opening u.home ≡ true → IsThere after u → length_of s.opening (noted_past after.trace) u ≤ PAGE_BYTES * room_of (attr_of (home_at after u) u)
    moved-within u home there =
        let now = length-within s setup cs old e timely c new next stores contents stamped targets p proc o stage m is_at cause may of at_stage taken made phase u (there-was u there) (stores.within u home (there-was u there)) in
        let same : length_of s.opening (noted_past after.trace) u ≡ length_of s.opening (note_effects c.node (turn_note stage (proc_at c.node p) phase o m.turn) ++ noted_past old.trace) u = length-is _ _ (value-is u Item.Size) in
        subst (λ (h : HomeState). length_of s.opening (noted_past after.trace) u ≤ PAGE_BYTES * room_of (attr_of h u)) (sym (homes u)) (subst (λ i. i ≤ PAGE_BYTES * room_of (attr_of (home_at old u) u)) (sym same) now)

    moved-unmade : (u : ObjectName) → is_node s.opening u.home ≡ true → (home_at after u).greatest < u.counter → (x : Item) → stored_value s after u x ≡ blank x
    moved-unmade u home above x =
        let before : (home_at old u).greatest < u.counter = subst (λ (h : HomeState). h.greatest < u.counter) (homes u) above in
        unwritten u (unmade-unwritten u home before) x ∙ was.unmade u home before x

    moved-kept : AreStoresKept s after
    moved-kept = record { stores = record { dirty = moved-dirty; clean = moved-clean; within = moved-within }; unmade = moved-unmade }

  -- a note of no operation, or of one in which the desk has no part
  apart-leaves : (note : Note) → IsApart note → NoteStores c.node note → LeavesStores (note_effects c.node note)
  apart-leaves note is (NoteStores.leaves so) = so
  apart-leaves note is (NoteStores.wrote P phase spot bytes same) = absurd (subst IsApart same is)

  no-home-turn : (p : ℕ) (op : Op) (stage : Stage) (turn : Turn) (spot : Spot) (bytes : List ℕ) → op ≡ ops.Store spot bytes → IsHomeTurn s.opening next.is.incoming p (proc_of n p).doing stage op turn → ⊥
  no-home-turn p op stage turn spot bytes same is = by stage turn (subst (λ x. IsHomeTurn s.opening next.is.incoming p (proc_of n p).doing stage x turn) same is)
    where
      by : (st : Stage) (t : Turn) → IsHomeTurn s.opening next.is.incoming p (proc_of n p).doing st (ops.Store spot bytes) t → ⊥
      by Stage.Starts t is = is
      by Stage.Resumes t is = is
      by (Stage.Settles number) (Turn.Ends reply) is = is.0
      by (Stage.Settles number) (Turn.Asks home ask) is = is
      by (Stage.Settles number) (Turn.Waits u k) is = is

  home-leaves : (p : ℕ) (o : BegunOp) (stage : Stage) (turn : Turn) (phase : ℕ) → step.note ≡ turn_note stage (proc_at c.node p) phase o turn → IsHomeTurn s.opening next.is.incoming p (proc_of n p).doing stage o.op turn → NoteStores c.node step.note → LeavesStores (note_effects c.node step.note)
  home-leaves p o stage turn phase note is (NoteStores.leaves so) = so
  home-leaves p o stage turn phase note is (NoteStores.wrote Q other spot bytes same) =
      absurd (no-home-turn p o.op stage turn spot bytes (store-note stage (proc_at c.node p) Q phase other o turn spot bytes (sym note ∙ same)).op is)

  same-desks : step.node.desk ≡ n.desk → (a : ℕ) → (after.nodes a).desk ≡ (old.nodes a).desk
  same-desks same a = elim (cases_eq a c.node) [
    | inl here ↦ ap (λ (x : NodeState). x.desk) (put-same old.nodes c.node a step.node here) ∙ (same ∙ ap (λ i. (old.nodes i).desk) (sym here))
    | inr away ↦ ap (λ (x : NodeState). x.desk) (node-after a away)
  ]

  kept-after : NodeMove (given s c.node) n next.is.incoming step → AreStoresKept s after
  kept-after (still desk same quiet uncalled) = quiet-kept (same-desks desk) (apart-leaves step.note quiet (note-stores c.node step.note))
  kept-after (moved p o stage m proc is_at (desk_apart desk turn) at_desk doing others note call side) = quiet-kept (same-desks (at_desk ∙ desk)) (home-leaves p o stage m.turn (proc_of n p).phase note turn (note-stores c.node step.note))
  kept-after (moved p o stage m proc is_at (moves cause may of at_stage taken made) at_desk doing others note call side) = moved-kept p proc o stage m is_at cause may of at_stage taken made (proc_of n p).phase at_desk note side

  pub kept-later : AreStoresKept s new
  kept-later = subst (AreStoresKept s) (sym next.is.world)
      (kept-after (desk-moves s setup old c new next))

-- at first nothing is dirty, and nothing was stored
first-clean : (s : Setup) (n : ℕ) (u : ObjectName) (x : Item) → is_dirty_at ((first_world s).nodes n).desk u x ≡ false
first-clean s n u (Item.Page k) = refl
first-clean s n u Item.Size = refl

pub kept-first : (s : Setup) → AreStamped s (first_world s) → AreStoresKept s (first_world s)
kept-first s stamped = record {
  stores = record {
    dirty = λ n node u x there dirty. absurd (let h : true ≡ false = sym dirty ∙ first-clean s n u x in cc);
    clean = λ u x home there clean. stamped.homes u home there x ∙ sym (blank-value s.opening u x);
    within = λ u home there. omega arith;
  };
  unmade = λ u home above x. blank-value s.opening u x;
}

-- in every run, as stamps, contents and mappings are in order in each
pub kept-are : (s : Setup) → IsSetup s → ((cs : List Choice) (w : World) → world_after s cs ≡ Some w → IsTimely w → AreStamped s w) → ((cs : List Choice) (w : World) → world_after s cs ≡ Some w → IsTimely w → AreContents s w)
    → ((cs : List Choice) (w : World) → world_after s cs ≡ Some w → IsTimely w → AreTargetsTold s w) → (cs : List Choice) (w : World) → world_after s cs ≡ Some w → IsTimely w → AreStoresKept s w
kept-are s setup stamped contents targets = every-kept-run s setup (setup-procs s setup) (AreStoresKept s) (kept-first s (stamped [] (first_world s) refl (λ n. omega arith)))
    (λ cs old c new e timely next was. kept-later s setup cs old e timely c new next was (contents cs old e timely) (stamped cs old e timely) (targets cs old e timely))
