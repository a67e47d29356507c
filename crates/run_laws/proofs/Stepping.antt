-- What an event that moves a desk leaves of where the last store is.
use Rattle.std.proofs.Common.{◌≡◌, ℕ, ◌+◌, ◌*◌, ◌≤◌, true, false, List, [], ◌∷◌, ◌++◌, length, Option, Some, None, IfSome, inl, inr, ◌⊎◌, refl, sym, ap, subst, ◌∙◌, arith}
use Rattle.std.specs.Prelude.{max}
use Rattle.std.specs.Option.{option_map}
use Rattle.std.proofs.lemmas.Bool.Decides.{nat_tests}
use Rattle.uid_names.specs.Names.{ProcName, ObjectName, same_uid}
use Rattle.uid_names.specs.declared.limits.TheConstants.{PAGE_BYTES}
use Rattle.uid_names.proofs.ListLemmas.{by_cases}
use Rattle.uid_names.proofs.Orders.{same_uid_is}
use Rattle.dom_history.specs.declared.op.Op.{Op}
use Rattle.dom_history.specs.declared.op.Op.TheVariants as ops
use Rattle.dom_history.specs.declared.op.Reply.{Reply}
use Rattle.dom_history.specs.declared.op.Reply.TheVariants as replies
use Rattle.dom_history.specs.declared.op.Spot.{Spot}
use Rattle.dom_history.specs.Objects.{is_node}
use Rattle.dom_history.specs.StoreEffects.{StoreEffect, Writes}
use Rattle.dom_history.specs.Bytes.{bytes_from, length_of}
use Rattle.object_store.specs.Objects.{room_of as room_in}
use Rattle.object_store.specs.HomeStates.{attr_of}
use Rattle.page_cache.specs.Caches.{Resident, page_at}
use Rattle.fault_handler.specs.declared.lengths.Known.{Known}
use Rattle.fault_handler.specs.declared.tasks.Work.TheVariants.{Store}
use Rattle.fault_handler.specs.declared.tasks.Task.{Task}
use Rattle.fault_handler.specs.Lengths.{known_of, is_changed, room_of}
use Rattle.fault_handler.specs.Tasks.{page_of}
use Rattle.fault_handler.specs.Transits.{going}
use Rattle.fault_handler.specs.Desks.{DeskState, any_keeps, any_writes, task_of, moving_of}
use Rattle.fault_handler.specs.Outcomes.{Turn, Moved}
use Rattle.fault_handler.specs.Accesses.{DeskOp}
use Rattle.fault_handler.specs.PageReplies.{PageAnswer}
use Rattle.fault_handler.specs.Invariant.{IsProc, IsDesk, is_dirty}
use Rattle.fault_handler.proofs.Accessing.{home-written}
use Rattle.fault_handler.proofs.TransitKeeps.{any_writes-keeps}
use Rattle.lock_validate.specs.Causes.{Cause, MayCome, IsOf}
use Rattle.lock_validate.specs.Loading.{IsTaskIn}
use Rattle.lock_validate.specs.DeskMoves.{DeskMoves}
use Rattle.lock_validate.specs.Turns.{Says, IsMade}
use Rattle.lock_validate.proofs.Beside.{moves-same}
use Rattle.lock_validate.proofs.DeskStays.{moves-desk}
use Rattle.node_runs.specs.Setups.{Setup, IsSetup}
use Rattle.node_runs.specs.NodeStates.{BegunOp, proc_of}
use Rattle.node_runs.specs.NodesKeep.{IsTimely}
use Rattle.node_runs.specs.Notes.{Note}
use Rattle.node_runs.specs.Outcomes.{Stage}
use Rattle.node_runs.specs.Doings.{ticked}
use Rattle.node_runs.specs.Runs.{World, Choice, world_after}
use Rattle.run_laws.specs.DecidedReplies.{proc_at}
use Rattle.run_laws.proofs.HearingRuns.{IsKeptNext}
use Rattle.run_laws.specs.DeskSteps.{IsAt, IsStageOf, IsTaken, turn_note}
use Rattle.run_laws.specs.OpenTasks.{IsWithin, IsTaskWithin}
use Rattle.run_laws.proofs.GoingPages.{change-dirty}
use Rattle.run_laws.proofs.OpenCalls.{runs-carry, open-dirty}
use Rattle.run_laws.proofs.OpenTasks.{open_task_of, answer-task, runs-within}
use Rattle.run_laws.specs.KnownRooms.{IsKnownRight}
use Rattle.run_laws.proofs.KnownRooms.{known-are}
use Rattle.run_laws.specs.NotedEffects.{note_effects, noted_past}
use Rattle.run_laws.specs.Targets.{AreTargetsTold}
use Rattle.run_laws.specs.Items.{Item, Value, desk_value, page_value, known_value, is_dirty_at, home_value}
use Rattle.run_laws.specs.Stamps.{AreStamped, IsThere, home_at}
use Rattle.run_laws.specs.DeskContents.{AreContents}
use Rattle.run_laws.specs.Stores.{AreStores, store_value}
use Rattle.run_laws.proofs.Doings.{IsAccess, MayStoreBy, task-of, task-access, moves-tables, says-done}
use Rattle.run_laws.proofs.Endings.{Ending, page-end, page-still, length-end, length-still}
use Rattle.run_laws.proofs.Keepers.{Writer, writer, dirty-any}
use Rattle.run_laws.proofs.Middle.{IsFirst, IsPageSo, IsKnownSo, page-moves, known-moves}
use Rattle.run_laws.proofs.StoresMoved.{store-of, first-of, dirty-reads, length-is}
use Rattle.run_laws.proofs.NotedStores.{NoteStores, note-stores, left-value}
use Rattle.run_laws.proofs.PageChanges.{SendsThis}
use Rattle.run_laws.proofs.ReadsRight.{node-test}
use Rattle.run_laws.proofs.StoredBytes.{page-apart, length-apart, length-put}

-- the note of a store that was done
pub record IsStoreNote (st : Stage) (o : BegunOp) (turn : Turn) (spot : Spot) (bytes : List ℕ) : Type 0 where
  pub turn_is : turn ≡ Turn.Ends replies.Fine
  pub op : o.op ≡ ops.Store spot bytes

did-reply : {a b : ProcName} {i j : ℕ} {x y : Op} {r t : Reply} → Note.Did a i x r ≡ Note.Did b j y t → r ≡ t
did-reply same = cc

did-op : {a b : ProcName} {i j : ℕ} {x y : Op} {r t : Reply} → Note.Did a i x r ≡ Note.Did b j y t → x ≡ y
did-op same = cc

pub store-note : (st : Stage) (P Q : ProcName) (phase other : ℕ) (o : BegunOp) (turn : Turn) (spot : Spot) (bytes : List ℕ) → turn_note st P phase o turn ≡ Note.Did Q other (ops.Store spot bytes) replies.Fine → IsStoreNote st o turn spot bytes
store-note Stage.Starts P Q phase other o (Turn.Ends reply) spot bytes is = record { turn_is = ap Turn.Ends (did-reply is); op = did-op is }
store-note Stage.Resumes P Q phase other o (Turn.Ends reply) spot bytes is = record { turn_is = ap Turn.Ends (did-reply is); op = did-op is }
store-note (Stage.Settles number) P Q phase other o (Turn.Ends reply) spot bytes is = absurd (cc)
store-note Stage.Starts P Q phase other o (Turn.Asks home ask) spot bytes is = absurd (cc)
store-note Stage.Resumes P Q phase other o (Turn.Asks home ask) spot bytes is = absurd (cc)
store-note (Stage.Settles number) P Q phase other o (Turn.Asks home ask) spot bytes is = absurd (cc)
store-note Stage.Starts P Q phase other o (Turn.Waits u k) spot bytes is = absurd (cc)
store-note Stage.Resumes P Q phase other o (Turn.Waits u k) spot bytes is = absurd (cc)
store-note (Stage.Settles number) P Q phase other o (Turn.Waits u k) spot bytes is = absurd (cc)

-- it is not settled by an answer or a link fault
pub unsettled : (number : ℕ) (P Q : ProcName) (phase other : ℕ) (o : BegunOp) (turn : Turn) (spot : Spot) (bytes : List ℕ) → turn_note (Stage.Settles number) P phase o turn ≡ Note.Did Q other (ops.Store spot bytes) replies.Fine → ⊥
unsettled number P Q phase other o (Turn.Ends reply) spot bytes is = absurd (cc)
unsettled number P Q phase other o (Turn.Asks home ask) spot bytes is = absurd (cc)
unsettled number P Q phase other o (Turn.Waits u k) spot bytes is = absurd (cc)

-- which causes do a store
store-cause : (d : DeskState) (p : ℕ) (st : Stage) (x : Cause) (op : Op) (spot : Spot) (bytes : List ℕ) → IsOf d p x op → op ≡ ops.Store spot bytes → IsStageOf st x → ((number : ℕ) → st ≡ Stage.Settles number → ⊥) → MayStoreBy x
store-cause d p st (Cause.Accesses (DeskOp.Stores spot_of stored)) op spot bytes of is at plain = tt
store-cause d p st (Cause.Accesses (DeskOp.Loads spot_of count)) op spot bytes of is at plain = absurd (let e = sym of ∙ is in cc)
store-cause d p st (Cause.Accesses (DeskOp.Measures u)) op spot bytes of is at plain = absurd (let e = sym of ∙ is in cc)
store-cause d p st (Cause.Accesses (DeskOp.Maps u)) op spot bytes of is at plain = absurd (let e = sym of ∙ is in cc)
store-cause d p st (Cause.Accesses (DeskOp.Unmaps u)) op spot bytes of is at plain = absurd (let e = sym of ∙ is in cc)
store-cause d p st (Cause.PageCame a) op spot bytes of is at plain = tt
store-cause d p st (Cause.Locks u m) op spot bytes of is at plain = absurd (let e = sym of ∙ is in cc)
store-cause d p st (Cause.Releases true u) op spot bytes of is at plain = absurd (let e = sym of ∙ is in cc)
store-cause d p st (Cause.Releases false u) op spot bytes of is at plain = absurd (let e = sym of ∙ is in cc)
store-cause d p (Stage.Settles number) (Cause.AnswerCame a) op spot bytes of is at plain = absurd (plain number refl)
store-cause d p Stage.Starts (Cause.AnswerCame a) op spot bytes of is at plain = absurd at
store-cause d p Stage.Resumes (Cause.AnswerCame a) op spot bytes of is at plain = absurd at
store-cause d p (Stage.Settles number) (Cause.AccessFailed t) op spot bytes of is at plain = absurd (plain number refl)
store-cause d p Stage.Starts (Cause.AccessFailed t) op spot bytes of is at plain = absurd at
store-cause d p Stage.Resumes (Cause.AccessFailed t) op spot bytes of is at plain = absurd at
store-cause d p (Stage.Settles number) (Cause.CallFailed call) op spot bytes of is at plain = absurd (plain number refl)
store-cause d p Stage.Starts (Cause.CallFailed call) op spot bytes of is at plain = absurd at
store-cause d p Stage.Resumes (Cause.CallFailed call) op spot bytes of is at plain = absurd at

-- a page that a process sends home is dirty, at each change
module _ (c : Cause) (turn : Turn) (p : ℕ) (proc : IsProc p) (u : ObjectName) (k : ℕ) where
  abbrev GoesDirty : DeskState → Type 0
  GoesDirty f = moving_of f p ≡ going u k → is_dirty (page_at f.cache.pages u k) ≡ true

  moves-dirty : (f e : DeskState) (dropped : List (ObjectName × ℕ)) → IsDesk f → DeskMoves c turn p f e dropped → GoesDirty f → GoesDirty e
  moves-dirty f e dropped desk DeskMoves.none was = was
  moves-dirty f e dropped desk (DeskMoves.next {e = g} before change) was = change-dirty c turn p proc g (moves-desk c turn p proc f g dropped desk before) u k e [] change (moves-dirty f g dropped desk before was)
  moves-dirty f e dropped desk (DeskMoves.dropping {e = g} before change) was = change-dirty c turn p proc g (moves-desk c turn p proc f g [] desk before) u k e dropped change (moves-dirty f g [] desk before was)

-- what is sent is what the process moves
sends-moving : (f : DeskState) (p : ℕ) (e : DeskState) (u : ObjectName) (k : ℕ) (c : Cause) (turn : Turn) → Says f p e c turn → SendsThis turn u k → moving_of e p ≡ going u k
sends-moving f p e u k c turn (Says.sends_room cause task r is room) sends = room.sends.moves ∙ (ap (λ v. going v r.page) sends.0 ∙ ap (going u) sends.1)
sends-moving f p e u k c turn (Says.sends_page cause delete v j r gives opened sent) sends = sent.moves ∙ (ap (λ w. going w j) sends.0 ∙ ap (going u) sends.1)
sends-moving f p e u k c turn (Says.gives_up cause true v gives opened may settled) sends = absurd sends
sends-moving f p e u k c turn (Says.gives_up cause false v gives opened may settled) sends = absurd sends
sends-moving f p e u k c turn said sends = absurd sends

module _ (s : Setup) (setup : IsSetup s) (cs : List Choice) (old : World) (e : world_after s cs ≡ Some old) (timely : IsTimely old) (c : Choice) (new : World) (next : IsKeptNext s old c new)
    (stores : AreStores s old) (contents : AreContents s old) (stamped : AreStamped s old) (targets : AreTargetsTold s old)
    (p : ℕ) (proc : IsProc p) (o : BegunOp) (stage : Stage) (m : Moved) (is_at : IsAt (proc_of (ticked (old.nodes c.node) next.is.incoming) p).doing o stage) (cause : Cause) (may : MayCome (old.nodes c.node).desk p cause) (of : IsOf (old.nodes c.node).desk p cause o.op)
    (at_stage : IsStageOf stage cause) (taken : IsTaken next.is.incoming (old.nodes c.node).desk p (proc_of (ticked (old.nodes c.node) next.is.incoming) p).doing cause may) (made : IsMade cause p (old.nodes c.node).desk m) (phase : ℕ) where
  abbrev pub d : DeskState
  d = (old.nodes c.node).desk

  abbrev pub past : List StoreEffect
  past = noted_past old.trace

  abbrev pub note : Note
  note = turn_note stage (proc_at c.node p) phase o m.turn

  abbrev pub later : List StoreEffect
  later = note_effects c.node note ++ past

  desk : IsDesk d
  desk = (next.kept.nodes c.node next.is.node).desk

  desk_after : IsDesk m.desk
  desk_after = moves-desk cause m.turn p proc d m.desk m.dropped desk made.moves

  ending : Ending s.opening past later d p m.desk cause
  ending = by (note-stores c.node note)
    where
      by : NoteStores c.node note → Ending s.opening past later d p m.desk cause
      by (NoteStores.leaves is) = Ending.quiet (note_effects c.node note) refl is
      by (NoteStores.wrote Q other spot bytes is) =
          let told = store-note stage (proc_at c.node p) Q phase other o m.turn spot bytes is in
          let may_store = store-cause d p stage cause o.op spot bytes of told.op at_stage (λ number same. unsettled number (proc_at c.node p) Q phase other o m.turn spot bytes (subst (λ st. turn_note st (proc_at c.node p) phase o m.turn ≡ Note.Did Q other (ops.Store spot bytes) replies.Fine) same is)) in
          let done = says-done d p m.desk cause m.turn may_store told.turn_is made.says in
          let store = store-of s setup cs old e timely c new next stores contents stamped targets p proc o stage m is_at cause may of at_stage taken made phase done.task done.bytes (task-of d d p cause done.task refl done.is) done.work told.turn_is in
          Ending.stored done (proc_at c.node p) store.spot store.effects store.at store.within

  -- one object of which no process of the node writes
  pub unwritten-value : (u : ObjectName) → (Writer old c.node u → ⊥) → (x : Item) → store_value s.opening later u x ≡ store_value s.opening past u x
  unwritten-value u none x = by ending x
    where
      by : Ending s.opening past later d p m.desk cause → (x : Item) → store_value s.opening later u x ≡ store_value s.opening past u x
      by (Ending.quiet effects is leaves) x = ap (λ es. store_value s.opening es u x) is ∙ left-value s.opening effects past leaves u x
      by (Ending.stored done P spot is at within) x = by_cases (same_uid done.task.uid u) (store_value s.opening later u x ≡ store_value s.opening past u x)
          (λ same. absurd (
          let tables = moves-tables cause m.turn p (task-access d p cause done.task done.is) d m.desk m.dropped made.moves in
          let writes : any_writes m.desk.entries done.task.uid ≡ true = dirty-any m.desk desk_after done.task.uid (Item.Page (page_of done.task)) (ap is_dirty done.page) in
          none (writer old c.node u (subst (λ v. any_writes d.entries v ≡ true) (same_uid_is done.task.uid u same) (subst (λ es. any_writes es done.task.uid ≡ true) tables.entries writes)))))
          (λ apart. ap (λ es. store_value s.opening es u x) is ∙ of_item apart x)
        where
          of_item : same_uid done.task.uid u ≡ false → (x : Item) → store_value s.opening (Writes P spot done.bytes ∷ past) u x ≡ store_value s.opening past u x
          of_item apart (Item.Page k) = ap (λ bs. Value.Bytes bs) (page-apart s.opening past P spot done.bytes done.task.uid done.task.offset at within u apart k)
          of_item apart Item.Size = ap (λ i. Value.Length i) (length-apart s.opening past P spot done.bytes done.task.uid done.task.offset at within u apart)

  -- the home of what is dirty is a node
  pub dirty-home : (u : ObjectName) (x : Item) → is_dirty_at m.desk u x ≡ true → is_node s.opening u.home ≡ true
  dirty-home u x dirty = node-test s.opening.nodes u.home m.desk.nodes ((moves-same cause m.turn p d m.desk m.dropped made.moves).nodes ∙ (next.kept.nodes c.node next.is.node).own.nodes)
      (home-written m.desk u desk_after (dirty-any m.desk desk_after u x dirty))

  -- one object that is there
  module _ (u : ObjectName) (there : IsThere old u) (home : is_node s.opening u.home ≡ true) where
    abbrev was : ℕ → List ℕ
    was k = bytes_from s.opening past u (PAGE_BYTES * k) PAGE_BYTES

    abbrev pub now : ℕ → List ℕ
    now k = bytes_from s.opening later u (PAGE_BYTES * k) PAGE_BYTES

    abbrev HasPage : ℕ → Type 0
    HasPage k = (r : Resident) → page_at d.cache.pages u k ≡ Some r → home_value (home_at old u) u (Item.Page k) ≡ page_value r

    abbrev HasLength : Type 0
    HasLength = (row : Known) → known_of u d.known ≡ Some row → home_value (home_at old u) u Item.Size ≡ known_value row

    first : IsFirst cause m.turn p d u was now (length_of s.opening past u) (length_of s.opening later u) HasPage HasLength
    first = first-of s setup cs old e timely c new next stores contents stamped targets p proc o stage m is_at cause may of at_stage taken made phase u there home

    reads-dirty : (x : Item) (v : Value) → desk_value d u x ≡ Some v → is_dirty_at d u x ≡ true → v ≡ store_value s.opening past u x
    reads-dirty = dirty-reads s setup cs old e timely c new next stores contents stamped targets p proc o stage m is_at cause may of at_stage taken made phase u there home

    -- it is so at every desk in between, so at the end
    abbrev HasBytesAt : ℕ → Option Resident → Type 0
    HasBytesAt k None = Unit {0}
    HasBytesAt k (Some r) = (any_keeps d.entries u ≡ true) ⊎ (r.flags.dirty ≡ true) → (r.bytes ≡ was k) ⊎ (r.bytes ≡ now k)

    abbrev HasLengthAt : Option Known → Type 0
    HasLengthAt None = Unit {0}
    HasLengthAt (Some row) = (any_keeps d.entries u ≡ true) ⊎ (row.changed ≡ true) → (row.changed ≡ false → row.length ≡ length_of s.opening past u) × ((row.length ≡ length_of s.opening past u) ⊎ (row.length ≡ length_of s.opening later u))

    page-so : (k : ℕ) → IsPageSo cause m.turn p proc d u was now (length_of s.opening past u) (length_of s.opening later u) HasPage HasLength first k (moving_of m.desk p ≡ going u k) (page_at m.desk.cache.pages u k)
    page-so k = page-moves cause m.turn p proc d u was now (length_of s.opening past u) (length_of s.opening later u) HasPage HasLength first k m.desk m.dropped made.moves

    known-so : IsKnownSo cause m.turn p proc d u was now (length_of s.opening past u) (length_of s.opening later u) HasPage HasLength first (known_of u m.desk.known)
    known-so = known-moves cause m.turn p proc d u was now (length_of s.opening past u) (length_of s.opening later u) HasPage HasLength first m.desk m.dropped made.moves

    -- what is dirty then
    dirty-page : (k : ℕ) (found : Option Resident) → page_at m.desk.cache.pages u k ≡ found → is_dirty found ≡ true → option_map page_value found ≡ Some (Value.Bytes (now k))
    dirty-page k None is dirty = absurd (cc)
    dirty-page k (Some r) is dirty =
        let has : (r.bytes ≡ was k) ⊎ (r.bytes ≡ now k) = (subst (HasBytesAt k) is (page-so k).bytes) (inr dirty) in
        ap (λ bs. Some (Value.Bytes bs)) (page-end s.opening past later d p m.desk cause ending desk_after u k r is has)

    dirty-length : (found : Option Known) → known_of u m.desk.known ≡ found → is_changed found ≡ true → option_map known_value found ≡ Some (Value.Length (length_of s.opening later u))
    dirty-length None is dirty = absurd (cc)
    dirty-length (Some row) is dirty =
        let has = ((subst HasLengthAt is known-so.length) (inr dirty)).1 in
        ap (λ i. Some (Value.Length i)) (length-end s.opening past later d p m.desk cause ending u row is has)

    -- what a process of the node keeps
    pub page-now : any_keeps d.entries u ≡ true → (k : ℕ) (r : Resident) → page_at m.desk.cache.pages u k ≡ Some r → r.bytes ≡ now k
    page-now kept k r found = page-end s.opening past later d p m.desk cause ending desk_after u k r found ((subst (HasBytesAt k) found (page-so k).bytes) (inl kept))

    pub dirty-now : (x : Item) → is_dirty_at m.desk u x ≡ true → desk_value m.desk u x ≡ Some (store_value s.opening later u x)
    dirty-now (Item.Page k) dirty = dirty-page k (page_at m.desk.cache.pages u k) refl dirty
    dirty-now Item.Size dirty = dirty-length (known_of u m.desk.known) refl dirty

    -- what is clean then was not stored to
    kept-length : IsAccess cause → (k : ℕ) (row : Known) → is_changed (known_of u m.desk.known) ≡ false → is_dirty (page_at m.desk.cache.pages u k) ≡ true → known_of u m.desk.known ≡ Some row → row.length ≡ length_of s.opening past u
    kept-length access k row clean dirty found =
        let tables = moves-tables cause m.turn p access d m.desk m.dropped made.moves in
        let writes : any_writes m.desk.entries u ≡ true = dirty-any m.desk desk_after u (Item.Page k) dirty in
        let kept : any_keeps d.entries u ≡ true = any_writes-keeps d.entries u (subst (λ es. any_writes es u ≡ true) tables.entries writes) in
        ((subst HasLengthAt found known-so.length) (inl kept)).0 (sym (ap is_changed found) ∙ clean)

    pub clean-still : (x : Item) → is_dirty_at m.desk u x ≡ false → store_value s.opening later u x ≡ store_value s.opening past u x
    clean-still (Item.Page k) clean = ap (λ bs. Value.Bytes bs) (page-still s.opening past later d p m.desk cause ending u k clean)
    clean-still Item.Size clean = ap (λ i. Value.Length i) (length-still s.opening past later d p m.desk cause ending u (λ access k row dirty found. kept-length access k row clean dirty found))

    -- what was dirty, and is clean then, its home has
    sends-dirty : (k : ℕ) → SendsThis m.turn u k → is_dirty (page_at m.desk.cache.pages u k) ≡ true
    sends-dirty k sends = moves-dirty cause m.turn p proc u k d m.desk m.dropped desk made.moves
        (open-dirty d p u k (proc_of (ticked (old.nodes c.node) next.is.incoming) p).doing (runs-carry s setup cs old e timely c.node next.is.node p proc))
        (sends-moving d p m.desk u k cause m.turn made.says sends)

    cleaned-page : (k : ℕ) (found : Option Resident) → page_at d.cache.pages u k ≡ found → is_dirty found ≡ true → is_dirty (page_at m.desk.cache.pages u k) ≡ false → home_value (home_at old u) u (Item.Page k) ≡ store_value s.opening past u (Item.Page k)
    cleaned-page k None is dirty clean = absurd (cc)
    cleaned-page k (Some r) is dirty clean = elim ((page-so k).left (ap is_dirty is ∙ dirty)) [
      | inl here ↦ absurd (let h : true ≡ false = sym here ∙ clean in cc)
      | inr gone ↦ elim gone [
        | inl has ↦ has r is ∙ reads-dirty (Item.Page k) (page_value r) (ap (option_map page_value) is) (ap is_dirty is ∙ dirty)
        | inr sends ↦ absurd (let h : true ≡ false = sym (sends-dirty k sends.0) ∙ clean in cc)
      ]
    ]

    cleaned-length : (found : Option Known) → known_of u d.known ≡ found → is_changed found ≡ true → is_changed (known_of u m.desk.known) ≡ false → home_value (home_at old u) u Item.Size ≡ store_value s.opening past u Item.Size
    cleaned-length None is dirty clean = absurd (cc)
    cleaned-length (Some row) is dirty clean = elim (known-so.left (ap is_changed is ∙ dirty)) [
      | inl here ↦ absurd (let h : true ≡ false = sym here ∙ clean in cc)
      | inr has ↦ has row is ∙ reads-dirty Item.Size (known_value row) (ap (option_map known_value) is) (ap is_changed is ∙ dirty)
    ]

    pub cleaned-home : (x : Item) → is_dirty_at d u x ≡ true → is_dirty_at m.desk u x ≡ false → home_value (home_at old u) u x ≡ store_value s.opening past u x
    cleaned-home (Item.Page k) dirty clean = cleaned-page k (page_at d.cache.pages u k) refl dirty clean
    cleaned-home Item.Size dirty clean = cleaned-length (known_of u d.known) refl dirty clean

  -- a store ends within the room of its object
  task-fits : (x : Cause) (may_x : MayCome d p x) (task : Task) (bytes : List ℕ) → IsTaskIn d p x task → task.work ≡ Store bytes → task.offset + length bytes ≤ PAGE_BYTES * room_of (known_of task.uid d.known)
  task-fits (Cause.Accesses (DeskOp.Stores spot stored)) may_x task bytes is work =
      let fits = is.2 in
      let low : task.offset + length stored ≤ PAGE_BYTES * room_of (known_of task.uid d.known) = grind (arith, nat_tests, fits) in
      subst (λ b. task.offset + length b ≤ PAGE_BYTES * room_of (known_of task.uid d.known)) (store-bytes stored bytes (sym is.1 ∙ work)) low
    where
      store-bytes : (a b : List ℕ) → Store a ≡ Store b → a ≡ b
      store-bytes a b same = cc
  task-fits (Cause.PageCame a) may_x task bytes is work =
      let there : task_of d p ≡ Some task = answer-task d.cache.pages (task_of d p) (moving_of d p) may_x.answer a may_x.says ∙ ap (λ (t : Task). Some t) (sym (one a task is)) in
      let within : IsTaskWithin d.known task = subst (λ x. IfSome x (IsTaskWithin d.known)) there (runs-within s setup cs old e timely c.node next.is.node p proc) in
      subst (IsWithin (known_of task.uid d.known) task.offset) work within
    where
      one : (a : PageAnswer) (task : Task) → IsTaskIn d p (Cause.PageCame a) task → task ≡ open_task_of a
      one (PageAnswer.Came t stamp bytes) task is = is
      one (PageAnswer.Taken t r stamp) task is = is
      one (PageAnswer.NotTaken t r stamp) task is = is
  task-fits (Cause.Accesses (DeskOp.Loads spot count)) may_x task bytes is work = absurd (let h = sym is.1 ∙ work in cc)
  task-fits (Cause.Accesses (DeskOp.Measures u)) may_x task bytes is work = absurd is
  task-fits (Cause.Accesses (DeskOp.Maps u)) may_x task bytes is work = absurd is
  task-fits (Cause.Accesses (DeskOp.Unmaps u)) may_x task bytes is work = absurd is
  task-fits (Cause.Locks u k) may_x task bytes is work = absurd is
  task-fits (Cause.Releases delete u) may_x task bytes is work = absurd is
  task-fits (Cause.AnswerCame a) may_x task bytes is work = absurd is
  task-fits (Cause.AccessFailed t) may_x task bytes is work = absurd is
  task-fits (Cause.CallFailed call) may_x task bytes is work = absurd is

  within-room : (u : ObjectName) → IsThere old u → (known : Option Known) → IsKnownRight (home_at old u) u known → (end : ℕ) → end ≤ PAGE_BYTES * room_of known → end ≤ PAGE_BYTES * room_in (attr_of (home_at old u) u)
  within-room u there None right end fits = omega (arith, fits)
  within-room u there (Some k) right end fits = let same = right.room there in subst (λ r. end ≤ PAGE_BYTES * r) (sym same) fits

  pub length-within : (u : ObjectName) → IsThere old u → length_of s.opening past u ≤ PAGE_BYTES * room_in (attr_of (home_at old u) u) → length_of s.opening later u ≤ PAGE_BYTES * room_in (attr_of (home_at old u) u)
  length-within u there low = by ending
    where
      by : Ending s.opening past later d p m.desk cause → length_of s.opening later u ≤ PAGE_BYTES * room_in (attr_of (home_at old u) u)
      by (Ending.quiet effects is leaves) = subst (λ i. i ≤ PAGE_BYTES * room_in (attr_of (home_at old u) u)) (sym (ap (λ es. length_of s.opening es u) is ∙ length-is _ _ (left-value s.opening effects past leaves u Item.Size))) low
      by (Ending.stored done P spot is at within) = by_cases (same_uid done.task.uid u) (length_of s.opening later u ≤ PAGE_BYTES * room_in (attr_of (home_at old u) u))
          (λ same.
          let named : done.task.uid ≡ u = same_uid_is done.task.uid u same in
          let fits = subst (λ v. done.task.offset + length done.bytes ≤ PAGE_BYTES * room_of (known_of v d.known)) named (task-fits cause may done.task done.bytes done.is done.work) in
          let end = within-room u there (known_of u d.known) (known-are s setup cs old e timely c.node next.is.node u) (done.task.offset + length done.bytes) fits in
          let so : length_of s.opening later u ≡ max (length_of s.opening past u) (done.task.offset + length done.bytes) =
          ap (λ es. length_of s.opening es u) is ∙ length-put s.opening past P spot done.bytes done.task.uid done.task.offset at within u same in
          omega (arith, so, end, low))
          (λ apart. subst (λ i. i ≤ PAGE_BYTES * room_in (attr_of (home_at old u) u)) (sym (ap (λ es. length_of s.opening es u) is ∙ length-apart s.opening past P spot done.bytes done.task.uid done.task.offset at within u apart)) low)
