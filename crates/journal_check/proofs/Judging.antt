-- What is said of a journal all of whose events happened.
use Rattle.std.proofs.Common.{◌≡◌, ℕ, ◌+◌, ◌<◌, ◌≤◌, Option, Some, None, List, length, map, sym, ap, subst, ◌∙◌, arith}
use Rattle.std.specs.Prelude.{◌^◌, reverse}
use Rattle.dom_history.specs.declared.op.Reply.{Reply}
use Rattle.dom_history.specs.declared.op.Want.{Want}
use Rattle.dom_history.specs.declared.plan.FateRow.{FateRow}
use Rattle.dom_history.specs.Events.{Happening}
use Rattle.dom_history.specs.Plans.{IsPlan}
use Rattle.script_reader.specs.Scripts.{Content}
use Rattle.node_runs.specs.Deliveries.{IsPlanned}
use Rattle.node_runs.specs.NodesKeep.{IsTimely}
use Rattle.node_runs.specs.Runs.{World, HasEnded, IsRun, choice_of, world_of}
use Rattle.node_runs.specs.Setups.{Setup, IsSetup}
use Rattle.world_runs.proofs.Counting.{runs-low}
use Rattle.script_runs.specs.Setups.{setup_of}
use Rattle.run_journals.specs.Accepted.{IsAcceptedOf, IsJournalOfRun}
use Rattle.run_journals.specs.Causes.{IsEndFault}
use Rattle.run_journals.specs.Places.{sent_in, AllKeepPlan}
use Rattle.run_journals.specs.RecentRuns.{IsRecentRun}
use Rattle.journal_check.specs.Judged.{ArePlaces, IsLeastFault}
use Rattle.journal_check.specs.declared.places.Places.{Places}
use Rattle.journal_check.specs.Passes.{Made}
use Rattle.journal_check.specs.declared.pass.Pass.{Pass}
use Rattle.journal_check.specs.Passing.{AreAll}
use Rattle.journal_check.specs.Verdicts.{IsAcceptedIn, IsRefused}
use Rattle.journal_check.specs.declared.verdict.CheckFault.TheVariants.{No}
use Rattle.journal_check.specs.declared.verdict.NoCause.TheVariants as causes
use Rattle.journal_check.proofs.Faults.{plan-fault, end-fault}

-- the laws that it stands on
abbrev pub ArePlannedByPlaces : Type 0
ArePlannedByPlaces =
    (s : Setup) (plan : List FateRow) (es : List Happening) (w : World) → IsSetup s → IsPlan plan → IsRun s es → world_of s es ≡ Some w → IsTimely w → AllKeepPlan plan (sent_in es) es → IsPlanned s plan es

abbrev pub AreAcceptedFew : Type 0
AreAcceptedFew = (s : Content) (bytes : List ℕ) (es : List Happening) (w : World) → length es ≤ 2 ^ 40 → IsJournalOfRun s bytes es w → IsAcceptedOf s bytes es w

module _ {P G : Type 0} (wants : P → Want) (becomes : P → Option Reply → P) (made : Made P) (s : Content) (bytes : List ℕ) (count : ℕ) (pass : Pass P G) (places : Places)
    (all : AreAll wants becomes made s bytes count pass places) where
  abbrev pub es : List Happening
  es = all.events

  abbrev pub w : World
  w = all.happened.world

  run : IsRecentRun (setup_of s) es
  run = subst (IsRecentRun (setup_of s)) all.happened.done all.happened.stands.run

  leads : world_of (setup_of s) es ≡ Some w
  leads = ap (world_of (setup_of s)) (sym all.happened.done) ∙ all.happened.stands.leads

  -- what the places tell is of the script's plan
  pub own-places : ArePlaces places.plan.now places.nodes es places
  own-places =
      let are = all.happened.places_are in
      subst (λ k. ArePlaces places.plan.now k es places) (sym are.nodes_are) (subst (λ (f : List FateRow). ArePlaces f s.opening.nodes es places) (sym are.plan_is) are)

  pub told-fault : (result : Option ℕ) → IsLeastFault places.plan.now es result → IsLeastFault s.plan es result
  told-fault result is = subst (λ (f : List FateRow). IsLeastFault f es result) all.happened.places_are.plan_is is

  -- an event has no place
  pub plan-refused : (line : ℕ) → IsLeastFault s.plan es (Some line) → IsRefused s bytes (No line causes.Plan)
  plan-refused line least = record { events = reverse es; journal = all.journal; fault = plan-fault s es line run least }

  module _ (few : count < 2 ^ 40) (law : ArePlannedByPlaces) (kept : IsLeastFault s.plan es None) where
    timely : IsTimely w
    timely n =
        let most = (runs-low (setup_of s) (map choice_of all.happened.world.done) w all.happened.stands.leads).nodes n in
        let long = ap (λ (xs : List Happening). length xs) all.happened.done in
        let same = all.count_is in
        omega (arith, most, long, few, same)

    planned : IsPlanned (setup_of s) s.plan es
    planned = law (setup_of s) s.plan es w all.happened.stands.setup all.can.content.draft.plan run.run leads timely kept

    -- the lines stop too early
    pub end-refused : (HasEnded (setup_of s) w → ⊥) → IsRefused s bytes (No (count + 1) causes.End)
    end-refused goes_on = record {
      events = reverse es;
      journal = all.journal;
      fault = subst (IsEndFault s (reverse es)) (ap (λ k. k + 1) (sym all.count_is)) (end-fault s es w run planned leads goes_on);
    }

    -- or all is as it is to be
    pub accepted-in : AreAcceptedFew → HasEnded (setup_of s) w → IsAcceptedIn wants becomes made s bytes count pass
    accepted-in accepts ended = record {
      events = es;
      world = w;
      is = accepts s bytes es w (let same = all.count_is in omega (arith, few, same)) (record { journal = all.journal; planned = planned; recent = run.recent; leads = leads; ended = ended });
      count_is = all.count_is;
      stands = all.happened.stands;
    }
