-- In every run the lock states that a desk has of a process are those that the process was told.
use Rattle.std.proofs.Common.{◌≡◌, ◌≢◌, ℕ, Bool, true, false, List, [], ◌∷◌, ◌++◌, Option, Some, None, IfSome, inl, inr, refl, sym, ap, subst, ◌∙◌}
use Rattle.std.specs.Prelude.{not, if◌then◌else◌, is_some, filter}
use Rattle.std.proofs.lemmas.Bool.{cases_eq}
use Rattle.std.proofs.lemmas.List.Elements.{filter-append}
use Rattle.uid_names.proofs.ListLemmas.{by_cases}
use Rattle.uid_names.specs.Names.{ProcName, ObjectName, same_uid, same_proc}
use Rattle.dom_history.specs.declared.op.Op.{Op}
use Rattle.dom_history.specs.declared.op.Op.TheVariants as ops
use Rattle.dom_history.specs.declared.op.Reply.{Reply}
use Rattle.dom_history.specs.declared.op.Reply.TheVariants.{Fine, Doubt}
use Rattle.dom_history.specs.declared.deed.Deed.{Deed}
use Rattle.dom_history.specs.declared.deed.LockLine.{LockLine}
use Rattle.dom_history.specs.declared.deed.LockState.{LockState}
use Rattle.dom_history.specs.declared.deed.LockState.TheVariants.{Free, Held, Taking, Releasing, Deleting}
use Rattle.dom_history.specs.Locks.{state, state_in, state_after, not_free, is_free, lines_after, mode_at_home}
use Rattle.dom_history.specs.StoreEffects.{own}
use Rattle.dom_history.specs.Objects.{is_node}
use Rattle.dom_history.proofs.Tables.{state_in-lines_after}
use Rattle.fault_handler.specs.declared.entries.LockEntry.{LockEntry}
use Rattle.fault_handler.specs.Entries.{is_on, entry_of, state_in as entry_state, entries_after, entries_noted, noted_if}
use Rattle.fault_handler.specs.Desks.{DeskState, entries_of, entry_at, state_of}
use Rattle.fault_handler.specs.Outcomes.{Turn, Moved}
use Rattle.fault_handler.specs.Invariant.{IsProc, IsDesk, IsLockEntry, IsLockEntryState}
use Rattle.fault_handler.proofs.Fours.{by_proc, at-put_same}
use Rattle.lock_validate.specs.Causes.{Cause}
use Rattle.lock_validate.specs.DeskMoves.{Change, DeskMoves}
use Rattle.lock_validate.proofs.Beside.{moves-beside}
use Rattle.lock_validate.proofs.DeskStays.{moves-desk}
use Rattle.node_runs.specs.Setups.{Setup, IsSetup, Given, given}
use Rattle.node_runs.specs.NodeStates.{BegunOp, NodeState, first_node, proc_of, name_of}
use Rattle.node_runs.specs.Incomings.{Incoming}
use Rattle.node_runs.specs.Outcomes.{Stage, Stepped}
use Rattle.node_runs.specs.NodesKeep.{IsNodeOf, IsTimely}
use Rattle.node_runs.specs.Runs.{World, Choice, world_after}
use Rattle.node_runs.specs.CallsKeep.{EachOf}
use Rattle.node_runs.proofs.Calls.{put-same, put-other}
use Rattle.node_runs.proofs.Running.{run-keeps}
use Rattle.node_runs.proofs.Nodes.{node-with}
use Rattle.node_runs.proofs.SettingUp.{setup-procs}
use Rattle.run_laws.specs.DecidedReplies.{proc_at}
use Rattle.run_laws.proofs.HearingRuns.{IsKeptNext, every-kept-run, event}
use Rattle.run_laws.specs.DeskSteps.{IsOfHome, OpMove, apart, moves, NodeMove, still, moved}
use Rattle.run_laws.proofs.EventMoves.{desk-moves}
use Rattle.run_laws.specs.NotedDeeds.{note_deeds, noted_deeds}
use Rattle.run_laws.proofs.NotedDeeds.{apart-deeds, other-node, other-number}
use Rattle.run_laws.specs.States.{told_to, AreStatesTold}
use Rattle.run_laws.proofs.Each.{each-push, each-filter}
use Rattle.run_laws.proofs.Named.{has, IsOnce, has-first, once-without, once-with, same-length}
use Rattle.run_laws.proofs.StateMoves.{IsStateAfter, left-so, made-state}
use Rattle.run_laws.proofs.TurnDeeds.{turn_deeds, note-turn, own-turn, other-turn, away-deeds, home-op}

-- what a process was told names each object once, and none that is free
abbrev line_name : LockLine → ObjectName
line_name line = line.uid

abbrev entry_name : LockEntry → ObjectName
entry_name e = e.uid

abbrev IsBusy : LockLine → Type 0
IsBusy line = is_free line.state ≡ false

abbrev IsTable : List LockLine → Type 0
IsTable lines = IsOnce line_name lines × EachOf IsBusy lines

table-with : (u : ObjectName) (s : LockState) (lines : List LockLine) → is_free s ≡ false → IsTable lines → IsTable (filter (λ line. not (same_uid u line.uid)) lines ++ record { uid = u; state = s } ∷ [])
table-with u s lines busy table =
    (once-with line_name lines (record { uid = u; state = s }) table.0, each-push IsBusy (filter (λ line. not (same_uid u line.uid)) lines) (record { uid = u; state = s }) (each-filter IsBusy (λ line. not (same_uid u line.uid)) lines table.1) busy)

table-without : (u : ObjectName) (lines : List LockLine) → IsTable lines → IsTable (filter (λ line. not (same_uid u line.uid)) lines)
table-without u lines table = (once-without line_name u lines table.0, each-filter IsBusy (λ line. not (same_uid u line.uid)) lines table.1)

table-after : (op : Op) (reply : Reply) (lines : List LockLine) → IsTable lines → IsTable (lines_after op reply lines)
table-after (ops.Lock u m) Fine lines table = table-with u (Held m) lines refl table
table-after (ops.Lock u m) Doubt lines table = table-with u (Taking m) lines refl table
table-after (ops.Unlock u) Fine lines table = table-without u lines table
table-after (ops.Unlock u) Doubt lines table = table-with u (Releasing (mode_at_home (state_in u lines))) lines refl table
table-after (ops.Delete u) Fine lines table = table-without u lines table
table-after (ops.Delete u) Doubt lines table = table-with u Deleting lines refl table
table-after op reply lines table = table

told-table : (told : List Deed) → IsTable (not_free told)
told-table [] = (tt, tt)
told-table (d ∷ told) = table-after d.op d.reply (not_free told) (told-table told)

has-line : (u : ObjectName) (lines : List LockLine) → EachOf IsBusy lines → has line_name u lines ≡ not (is_free (state_in u lines))
has-line u [] busy = refl
has-line u (line ∷ lines) busy = by_cases (same_uid u line.uid) (has line_name u (line ∷ lines) ≡ not (is_free (state_in u (line ∷ lines))))
    (λ h. rw h (ap not (sym busy.0)))
    (λ h. rw h (has-line u lines busy.1))

has-entry : (o : Option LockEntry) → IfSome o IsLockEntry → is_some o ≡ not (is_free (entry_state o))
has-entry None is = refl
has-entry (Some e) is = by e.state is
  where
    by : (s : LockState) → IsLockEntryState s e.grant → true ≡ not (is_free s)
    by Free is = absurd is
    by (Held m) is = refl
    by (Taking m) is = refl
    by (Releasing m) is = refl
    by Deleting is = refl

-- a desk has one entry of each object
noted-name : (b : Bool) (e : LockEntry) → (noted_if b e).uid ≡ e.uid
noted-name true e = refl
noted-name false e = refl

has-noted : (u v : ObjectName) (es : List LockEntry) → has entry_name v (entries_noted u es) ≡ has entry_name v es
has-noted u v [] = refl
has-noted u v (e ∷ es) =
    has-first entry_name v (noted_if (is_on u e) e) (entries_noted u es)
    ∙ (ap (λ w. if same_uid v w then true else has entry_name v (entries_noted u es)) (noted-name (is_on u e) e)
    ∙ (ap (λ b. if same_uid v e.uid then true else b) (has-noted u v es) ∙ sym (has-first entry_name v e es)))

once-noted : (u : ObjectName) (es : List LockEntry) → IsOnce entry_name es → IsOnce entry_name (entries_noted u es)
once-noted u [] once = tt
once-noted u (e ∷ es) once = (ap (λ w. has entry_name w (entries_noted u es)) (noted-name (is_on u e) e) ∙ (has-noted u e.uid es ∙ once.0), once-noted u es once.1)

once-after : (u : ObjectName) (s : LockState) (grant : ℕ) (es : List LockEntry) → IsOnce entry_name es → IsOnce entry_name (entries_after u s grant es)
once-after u s grant es once = by (is_free s)
  where
    by : (b : Bool) → IsOnce entry_name (if b then filter (λ e. not (is_on u e)) es else (filter (λ e. not (is_on u e)) es ++ record { uid = u; state = s; grant = grant; released = false } ∷ []))
    by true = once-without entry_name u es once
    by false = once-with entry_name es (record { uid = u; state = s; grant = grant; released = false }) once

module _ (c : Cause) (turn : Turn) (p : ℕ) (proc : IsProc p) where
  change-once : (d e : DeskState) (dropped : List (ObjectName × ℕ)) → IsDesk d → Change c turn p d e dropped → IsOnce entry_name (entries_of d p) → IsOnce entry_name (entries_of e p)
  change-once d e dropped desk (Change.sets call u s grant may) once =
      subst (IsOnce entry_name) (sym (at-put_same d.entries p (entries_after u s grant (entries_of d p)) [] desk.four.entries proc)) (once-after u s grant (entries_of d p) once)
  change-once d e dropped desk (Change.notes delete u given idle held may settled asks) once =
      subst (IsOnce entry_name) (sym (at-put_same d.entries p (entries_noted u (entries_of d p)) [] desk.four.entries proc)) (once-noted u (entries_of d p) once)
  change-once d e dropped desk change once = once

  moves-once : (d e : DeskState) (dropped : List (ObjectName × ℕ)) → IsDesk d → DeskMoves c turn p d e dropped → IsOnce entry_name (entries_of d p) → IsOnce entry_name (entries_of e p)
  moves-once d e dropped desk DeskMoves.none once = once
  moves-once d e dropped desk (DeskMoves.next {e = f} before change) once = change-once f e [] (moves-desk c turn p proc d f dropped desk before) change (moves-once d f dropped desk before once)
  moves-once d e dropped desk (DeskMoves.dropping {e = f} before change) once = change-once f e dropped (moves-desk c turn p proc d f [] desk before) change (moves-once d f [] desk before once)

-- what the desk has of a process, and what the process was told
record IsDeskTold (told : List Deed) (d : DeskState) (p : ℕ) : Type 0 where
  pub states : (v : ObjectName) → state v told ≡ state_of d p v
  pub once : IsOnce entry_name (entries_of d p)

home-after : (v : ObjectName) (s : LockState) (op : Op) → IsOfHome op → (r : Reply) → state_after v op r s ≡ s
home-after v s (ops.New home kind room) is r = refl
home-after v s (ops.List home after) is r = refl
home-after v s op is r = absurd is

told-turn : (name : ProcName) (op : Op) (d e : DeskState) (p : ℕ) (v : ObjectName) (turn : Turn) (told : List Deed) → IsStateAfter d e p v op turn → state v told ≡ state_of d p v → state v (turn_deeds name op turn ++ told) ≡ state_of e p v
told-turn name op d e p v (Turn.Ends reply) told now was = state_in-lines_after v op reply (not_free told) ∙ (ap (state_after v op reply) was ∙ sym now)
told-turn name op d e p v (Turn.Asks home ask) told now was = was ∙ sym now
told-turn name op d e p v (Turn.Waits u k) told now was = was ∙ sym now

-- the processes of a node, at an event
module _ (g : Given) (n : NodeState) (incoming : Incoming) (s : Stepped) (node : IsNodeOf g n) where
  module _ (p : ℕ) (proc : IsProc p) (o : BegunOp) (stage : Stage) (m : Moved) (made : OpMove g.opening incoming (proc_of n p).doing stage n.desk p o.op m) where
    moved-state : (v : ObjectName) → IsStateAfter n.desk m.desk p v o.op m.turn
    moved-state v = elim made [
      | apart desk turn ↦ left-so n.desk m.desk p v o.op m.turn (home-after v (state_of n.desk p v) o.op (home-op g.opening incoming p (proc_of n p).doing stage o.op m.turn turn)) (ap (λ (x : DeskState). state_of x p v) desk)
      | moves c may of at taken is ↦ made-state n.desk p c m node.desk proc may o.op of is v
    ]

    moved-once : IsOnce entry_name (entries_of n.desk p) → IsOnce entry_name (entries_of m.desk p)
    moved-once once = elim made [
      | apart desk turn ↦ subst (λ (x : DeskState). IsOnce entry_name (entries_of x p)) (sym desk) once
      | moves c may of at taken is ↦ moves-once c m.turn p proc n.desk m.desk m.dropped node.desk is.moves once
    ]

    -- another process
    beside-same : (q : ℕ) → IsProc q → q ≢ p → entries_of m.desk q ≡ entries_of n.desk q
    beside-same q other differs = elim made [
      | apart desk turn ↦ ap (λ (x : DeskState). entries_of x q) desk
      | moves c may of at taken is ↦ (moves-beside c m.turn p q proc other differs n.desk m.desk m.dropped is.moves).entries
    ]

  next-told : NodeMove g n incoming s → (q : ℕ) → IsProc q → (told : List Deed) → IsDeskTold told n.desk q → IsDeskTold (own (name_of g q) (note_deeds s.note) ++ told) s.node.desk q
  next-told (still desk same quiet uncalled) q proc told is =
      subst (λ ds. IsDeskTold (ds ++ told) s.node.desk q) (sym (ap (own (name_of g q)) (apart-deeds s.note quiet))) (subst (λ d. IsDeskTold told d q) (sym desk) is)
  next-told (moved p o stage m proc at made desk doing others note call side) q other told is = elim (cases_eq q p) [
    | inl same ↦
        (let deeds : own (name_of g p) (note_deeds s.note) ≡ turn_deeds (name_of g p) o.op m.turn =
        ap (λ k. own (name_of g p) (note_deeds k)) note ∙ (ap (own (name_of g p)) (note-turn stage (name_of g p) (proc_of n p).phase o m.turn) ∙ own-turn (name_of g p) o.op m.turn) in
        let was : IsDeskTold told n.desk p = subst (IsDeskTold told n.desk) same is in
        subst (λ r. IsDeskTold (own (name_of g r) (note_deeds s.note) ++ told) s.node.desk r) (sym same)
        (subst (λ ds. IsDeskTold (ds ++ told) s.node.desk p) (sym deeds) (subst (λ d. IsDeskTold (turn_deeds (name_of g p) o.op m.turn ++ told) d p) (sym desk) (record {
          states = λ v. told-turn (name_of g p) o.op n.desk m.desk p v m.turn told (moved-state p proc o stage m made v) (was.states v);
          once = moved-once p proc o stage m made was.once;
        }))))
    | inr beside ↦
        (let none : own (name_of g q) (note_deeds s.note) ≡ [] =
        ap (λ k. own (name_of g q) (note_deeds k)) note ∙ (ap (own (name_of g q)) (note-turn stage (name_of g p) (proc_of n p).phase o m.turn) ∙ other-turn (name_of g p) (name_of g q) o.op m.turn (other-number g.number p q beside)) in
        let same = beside-same p proc o stage m made q other beside in
        subst (λ ds. IsDeskTold (ds ++ told) s.node.desk q) (sym none) (subst (λ d. IsDeskTold told d q) (sym desk) (record {
          states = λ v. is.states v ∙ ap (λ es. entry_state (entry_of v es)) (sym same);
          once = subst (IsOnce entry_name) (sym same) is.once;
        })))
  ]

-- in every run
abbrev AreDesksTold : Setup → World → Type 0
AreDesksTold s w = (n p : ℕ) → is_node s.opening n ≡ true → IsProc p → IsDeskTold (told_to w n p) (w.nodes n).desk p

module _ (s : Setup) (setup : IsSetup s) (old : World) (c : Choice) (new : World) (next : IsKeptNext s old c new) (told : AreDesksTold s old) where
  open event s old c new next use {g, n, step, after}

  move : NodeMove g n next.is.incoming step
  move = desk-moves s setup old c new next

  node-now : IsNodeOf g n
  node-now = let is = next.kept.nodes c.node next.is.node in node-with g (old.nodes c.node) n is refl refl is.side is.home is.within.side

  split : (r : ProcName) → own r (noted_deeds after.trace) ≡ own r (note_deeds step.note) ++ own r (noted_deeds old.trace)
  split r = filter-append (λ (d : Deed). same_proc d.proc r) (note_deeds step.note) (noted_deeds old.trace)

  told-after : AreDesksTold s after
  told-after a q node proc = elim (cases_eq a c.node) [
    | inl here ↦ subst (λ b. IsDeskTold (told_to after b q) (after.nodes b).desk q) (sym here)
        (subst (λ (x : NodeState). IsDeskTold (told_to after c.node q) x.desk q) (sym (put-same old.nodes c.node c.node step.node refl))
        (subst (λ ds. IsDeskTold ds step.node.desk q) (sym (split (proc_at c.node q))) (next-told g n next.is.incoming step node-now move q proc (told_to old c.node q) (told c.node q next.is.node proc))))
    | inr away ↦ subst (λ (x : NodeState). IsDeskTold (told_to after a q) x.desk q) (sym (put-other old.nodes c.node a step.node away))
        (subst (λ ds. IsDeskTold ds (old.nodes a).desk q) (sym (split (proc_at a q) ∙ ap (λ ds. ds ++ told_to old a q) (away-deeds g n next.is.incoming step (proc_at a q) (λ p. other-node a c.node p q away) move))) (told a q node proc))
  ]

  told-later : AreDesksTold s new
  told-later = subst (AreDesksTold s) (sym next.is.world) told-after

desks-told : (s : Setup) → IsSetup s → (cs : List Choice) (w : World) → world_after s cs ≡ Some w → IsTimely w → AreDesksTold s w
desks-told s setup = every-kept-run s setup (setup-procs s setup) (AreDesksTold s)
    (λ n p node. by_proc (λ p. IsDeskTold [] (first_node (given s n)).desk p) (record { states = λ v. refl; once = tt }) (record { states = λ v. refl; once = tt }) (record { states = λ v. refl; once = tt }) (record { states = λ v. refl; once = tt }) p)
    (λ cs old c new e timely next told. told-later s setup old c new next told)

pub states-told : (s : Setup) → IsSetup s → (cs : List Choice) (w : World) → world_after s cs ≡ Some w → IsTimely w → AreStatesTold s w
states-told s setup cs w e timely =
    let told = desks-told s setup cs w e timely in
    record {
      states = λ n p node proc u. (told n p node proc).states u;
      counts = λ n p node proc.
          let is = told n p node proc in
          let lines = told-table (told_to w n p) in
          let desk = ((run-keeps s setup cs w e).kept timely).nodes n node in
          same-length line_name entry_name (not_free (told_to w n p)) (entries_of (w.nodes n).desk p) lines.0 is.once
          (λ u. has-line u (not_free (told_to w n p)) lines.1 ∙ (ap (λ x. not (is_free x)) (is.states u) ∙ sym (has-entry (entry_at (w.nodes n).desk.entries p u) (desk.desk.entries p proc u))));
    }
