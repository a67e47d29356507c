-- What a load finds in its page, in the event in which it is done: what one store has.
use Rattle.std.proofs.Common.{◌≡◌, ℕ, ◌*◌, true, List, Some, sym, ◌∙◌}
use Rattle.uid_names.specs.Names.{ObjectName}
use Rattle.uid_names.specs.declared.limits.TheConstants.{PAGE_BYTES}
use Rattle.dom_history.specs.declared.op.Op.TheVariants as ops
use Rattle.dom_history.specs.declared.op.Spot.{Spot}
use Rattle.dom_history.specs.Bytes.{bytes_from}
use Rattle.page_cache.specs.Caches.{Resident, page_at}
use Rattle.fault_handler.specs.Desks.{entry_at}
use Rattle.fault_handler.specs.Entries.{keeps}
use Rattle.fault_handler.specs.Outcomes.{Moved}
use Rattle.fault_handler.specs.Invariant.{IsProc}
use Rattle.fault_handler.proofs.Fours.{any-at}
use Rattle.lock_validate.specs.Causes.{Cause, MayCome, IsOf}
use Rattle.lock_validate.specs.Turns.{IsMade}
use Rattle.node_runs.specs.Setups.{Setup, IsSetup}
use Rattle.node_runs.specs.NodeStates.{BegunOp, proc_of}
use Rattle.node_runs.specs.NodesKeep.{IsTimely}
use Rattle.node_runs.specs.Outcomes.{Stage}
use Rattle.node_runs.specs.Doings.{ticked}
use Rattle.node_runs.specs.Runs.{World, Choice, world_after}
use Rattle.run_laws.specs.DecidedReplies.{proc_at}
use Rattle.run_laws.proofs.HearingRuns.{IsKeptNext}
use Rattle.run_laws.specs.DeskSteps.{IsAt, IsStageOf, IsTaken, turn_note}
use Rattle.run_laws.specs.NotedEffects.{note_effects, noted_past}
use Rattle.run_laws.specs.Targets.{AreTargetsTold}
use Rattle.run_laws.specs.Items.{Item}
use Rattle.run_laws.specs.Stamps.{AreStamped}
use Rattle.run_laws.specs.DeskContents.{AreContents}
use Rattle.run_laws.specs.Stores.{AreStores}
use Rattle.run_laws.proofs.Keepers.{keeper}
use Rattle.run_laws.proofs.StoresMoved.{bytes-are}
use Rattle.run_laws.proofs.NotedStores.{LeavesStores, NoteStores, note-stores, left-value}
use Rattle.run_laws.proofs.ReadsRight.{kept-there, kept-home}
use Rattle.run_laws.proofs.Stepping.{store-note, page-now}

-- in an event in which a load goes on, each page of an object that its process keeps has then what one store has of it
pub loaded-page : (s : Setup) (setup : IsSetup s) (cs : List Choice) (old : World) (e : world_after s cs ≡ Some old) (timely : IsTimely old) (c : Choice) (new : World) (next : IsKeptNext s old c new)
    → AreStores s old → AreContents s old → AreStamped s old → AreTargetsTold s old
    → (p : ℕ) → IsProc p → (o : BegunOp) (stage : Stage) (m : Moved) → IsAt (proc_of (ticked (old.nodes c.node) next.is.incoming) p).doing o stage → (cause : Cause) (may : MayCome (old.nodes c.node).desk p cause) → IsOf (old.nodes c.node).desk p cause o.op
    → IsStageOf stage cause → IsTaken next.is.incoming (old.nodes c.node).desk p (proc_of (ticked (old.nodes c.node) next.is.incoming) p).doing cause may → IsMade cause p (old.nodes c.node).desk m
    → (spot : Spot) (count : ℕ) → o.op ≡ ops.Load spot count → (u : ObjectName) → keeps (entry_at (old.nodes c.node).desk.entries p u) ≡ true → (k : ℕ) (r : Resident) → page_at m.desk.cache.pages u k ≡ Some r
    → r.bytes ≡ bytes_from s.opening (noted_past old.trace) u (PAGE_BYTES * k) PAGE_BYTES
loaded-page s setup cs old e timely c new next stores contents stamped targets p proc o stage m is_at cause may of at_stage taken made spot count loads u kept k r found =
    let q = keeper old c.node p proc u kept in
    let there = kept-there s setup cs old e timely next.kept.nodes contents stamped c.node p next.is.node u q.mode q.grant q.keeping in
    let home = kept-home s setup cs old e timely next.kept.nodes contents stamped c.node p next.is.node u q.mode q.grant q.keeping in
    page-now s setup cs old e timely c new next stores contents stamped targets p proc o stage m is_at cause may of at_stage taken made 0 u there home (any-at (λ i. keeps (entry_at (old.nodes c.node).desk.entries i u)) p proc kept) k r found
    ∙ bytes-are _ _ (left-value s.opening (note_effects c.node (turn_note stage (proc_at c.node p) 0 o m.turn)) (noted_past old.trace) (leaves (note-stores c.node (turn_note stage (proc_at c.node p) 0 o m.turn))) u (Item.Page k))
  where
    leaves : NoteStores c.node (turn_note stage (proc_at c.node p) 0 o m.turn) → LeavesStores (note_effects c.node (turn_note stage (proc_at c.node p) 0 o m.turn))
    leaves (NoteStores.leaves is) = is
    leaves (NoteStores.wrote Q other at bytes is) = absurd (let h = sym loads ∙ (store-note stage (proc_at c.node p) Q 0 other o m.turn at bytes is).op in cc)
