-- An entry that a link fault answered has eight notices.
use Rattle.std.proofs.Common.{◌≡◌, ◌≢◌, Bool, List, sym, subst, ◌∙◌}
use Rattle.std.specs.Prelude.{All, AllPairs, IsTrue}
use Rattle.std.proofs.lemmas.List.Elements.{All-filter}
use Rattle.std.proofs.lemmas.List.Kept.{AllPairs-filter}
use Rattle.dom_history.specs.declared.op.Entry.{Entry}
use Rattle.dom_history.specs.declared.plan.FateRow.{FateRow}
use Rattle.dom_history.specs.Events.{Happening}
use Rattle.dom_history.specs.Plans.{fate_of}
use Rattle.call_once.specs.declared.asking.TheConstants.{MOST_NOTICES}
use Rattle.node_runs.specs.Setups.{Setup}
use Rattle.node_runs.specs.Deliveries.{is_gone, noticed_in, IsPlanned}
use Rattle.node_runs.specs.Runs.{World, numbered}
use Rattle.node_runs.specs.RunHistories.{all_told}
use Rattle.node_runs.proofs.EachOf.{EachOf-at}
use Rattle.world_runs.specs.Faults.{CallName, faults_in, notices_of}
use Rattle.world_runs.specs.Gone.{FrameName}
use Rattle.run_laws.specs.EightNotices.{last_call, is_of_call, HasEightNotices}
use Rattle.run_laws.proofs.OpEnds.{each-from}
use Rattle.run_laws.proofs.FaultEntries.{IsEndedByFault, fault-call}
use Rattle.run_laws.proofs.FramesTold.{AreOwnNotices, as-many-frames}

module _ (s : Setup) (plan : List FateRow) (es : List Happening) (w : World) (planned : IsPlanned s plan es) (done : w.done ≡ es) (own : AreOwnNotices w) (eight : All (λ c. notices_of w c ≡ MOST_NOTICES) (faults_in w.trace)) where
  abbrev IsGone : FrameName → Type 0
  IsGone f = IsTrue (is_gone (fate_of plan f.0 f.1 f.2))

  abbrev of_call : CallName → FrameName → Bool
  of_call c f = is_of_call c (numbered f.2 (w.frames f.0 f.1))

  pub eight-notices : (e : Entry) → IsEndedByFault (all_told w.trace) e → HasEightNotices plan w e
  eight-notices e is =
      let c = last_call is.end in
      record {
        end = is.end;
        told = is.among;
        entry = is.entry;
        eight = as-many-frames w c own
            ∙ EachOf-at (λ (d : CallName). notices_of w d ≡ MOST_NOTICES) c (faults_in w.trace) (each-from (λ (d : CallName). notices_of w d ≡ MOST_NOTICES) (faults_in w.trace) eight)
            (fault-call w.trace is.end is.among is.fault);
        own = AllPairs-filter (λ f g. f ≢ g) (of_call c) (noticed_in w.done) (subst (λ xs. AllPairs (λ f g. f ≢ g) (noticed_in xs)) (sym done) planned.once);
        gone = All-filter (of_call c) IsGone (noticed_in w.done) (subst (λ xs. All IsGone (noticed_in xs)) (sym done) planned.gone);
      }
