-- In every run a process is told of the ends of its operations in the order in which they began.
use Rattle.std.proofs.Common.{◌≡◌, ◌<◌, List, [], ◌∷◌, ◌++◌, Some, sym, subst}
use Rattle.node_runs.specs.Setups.{Setup, IsSetup, given}
use Rattle.node_runs.specs.NodeStates.{Await, proc_of, name_of}
use Rattle.node_runs.specs.Notes.{Told, Note}
use Rattle.node_runs.specs.NodesKeep.{IsTimely}
use Rattle.node_runs.specs.Runs.{World, Choice, world_after}
use Rattle.node_runs.specs.RunHistories.{told_by, all_told}
use Rattle.node_runs.specs.CallsKeep.{EachOf}
use Rattle.node_runs.proofs.SettingUp.{setup-procs}
use Rattle.run_laws.specs.Progress.{told_of, Progress, opens, goes_on, again, did, told, pauses, is_done, IsApart, ProcStep, rests, comes}
use Rattle.run_laws.specs.DecidedReplies.{proc_at}
use Rattle.run_laws.specs.Heard.{AreHeard}
use Rattle.run_laws.proofs.Hearing.{open-since}
use Rattle.run_laws.proofs.HearingRuns.{IsKeptNext, n as acting, proc-step, heard-are, every-kept-run}
use Rattle.run_laws.specs.SingleActs.{IsToldLater, AreToldRising}

abbrev RisesWith : List Told → Note → Type 0
RisesWith so_far note = AreToldRising (told_by note ++ so_far)

apart-rises : (so_far : List Told) (note : Note) → IsApart note → AreToldRising so_far → RisesWith so_far note
apart-rises so_far Note.Nothing is rising = rising
apart-rises so_far (Note.Began p op) is rising = absurd is
apart-rises so_far (Note.Did p phase op reply) is rising = absurd is
apart-rises so_far (Note.Ended t) is rising = absurd is
apart-rises so_far (Note.Decided p number ask answer) is rising = rising

-- what is open is later than all that its process was told of
later-than : (t : Told) (so_far : List Told) → EachOf (λ (u : Told). u.proc ≡ t.proc → u.begun.tick < t.begun.tick) so_far → EachOf (λ (u : Told). u.proc ≡ t.proc → u.number < t.number) so_far → EachOf (IsToldLater t) so_far
later-than t [] begun number = tt
later-than t (u ∷ so_far) begun number = ((λ same. (begun.0 same, number.0 same)), later-than t so_far begun.1 number.1)

module _ (s : Setup) (setup : IsSetup s) (old : World) (c : Choice) (new : World) (next : IsKeptNext s old c new) (heard : AreHeard s old) (rising : AreToldRising (all_told old.trace)) where
  step-rises : ProcStep (given s c.node) (acting s setup old c new next heard) next.is.incoming next.is.step → RisesWith (all_told old.trace) next.is.step.note
  step-rises (rests all apart) = apart-rises (all_told old.trace) next.is.step.note apart rising
  step-rises (comes p proc others progress) = by progress
    where
      by : Progress ((given s c.node).asks p) (name_of (given s c.node) p) (acting s setup old c new next heard).tick next.is.incoming (proc_of (acting s setup old c new next heard) p) (proc_of next.is.step.node p) next.is.step.note → RisesWith (all_told old.trace) next.is.step.note
      by (opens op a asks none doing awaits same e) = subst (RisesWith (all_told old.trace)) (sym e) rising
      by (goes_on o a b part was doing awaits same e) = subst (RisesWith (all_told old.trace)) (sym e) rising
      by (again o k was doing last same e) = subst (RisesWith (all_told old.trace)) (sym e) rising
      by (did op reply part asks end e) = subst (RisesWith (all_told old.trace)) (sym e) rising
      by (told o k reply asks was end e tells) =
          let open_was = open-since ((given s c.node).asks p) (proc_at c.node p) _ old.trace _ (proc_of (acting s setup old c new next heard) p) (heard.procs c.node p proc) o (Await.Answer k) was in
          subst (RisesWith (all_told old.trace)) (sym e) (later-than (told_of (proc_at c.node p) (proc_of (acting s setup old c new next heard) p) o k.waiting.number reply) (all_told old.trace) open_was.behind open_was.call.1, rising)
      by (pauses was asks none last h phase e) = subst (RisesWith (all_told old.trace)) (sym e) rising
      by (is_done was asks none last h e) = subst (RisesWith (all_told old.trace)) (sym e) rising

-- in every run
pub told-rises : (s : Setup) → IsSetup s → (cs : List Choice) (w : World) → world_after s cs ≡ Some w → IsTimely w → AreToldRising (all_told w.trace)
told-rises s setup = every-kept-run s setup (setup-procs s setup) (λ w. AreToldRising (all_told w.trace)) tt
    (λ cs old c new e timely next rising. subst (λ (w : World). AreToldRising (all_told w.trace)) (sym next.is.world)
    (step-rises s setup old c new next (heard-are s setup (setup-procs s setup) cs old e timely) rising (proc-step s setup old c new next (heard-are s setup (setup-procs s setup) cs old e timely))))
