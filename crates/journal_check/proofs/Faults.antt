-- Where a journal is at fault, by its events with the last one first.
use Rattle.std.proofs.Common.{◌≡◌, ℕ, suc, ◌+◌, ◌<◌, Some, List, [], ◌∷◌, ◌++◌, length, take, drop, get_or, drop-cons, add-one, refl, sym, ap, subst, ◌∙◌, arith}
use Rattle.std.specs.Prelude.{reverse, slice_index_or}
use Rattle.std.proofs.lemmas.List.{length-reverse, length-take, reverse-append, reverse-reverse, take-append-drop, take_more}
use Rattle.std.proofs.lemmas.Option.{same_Some}
use Rattle.dom_history.specs.Events.{Happening}
use Rattle.script_reader.specs.Scripts.{Content}
use Rattle.node_runs.specs.Runs.{World, world_of, HasEnded}
use Rattle.node_runs.specs.Deliveries.{IsPlanned}
use Rattle.script_runs.specs.Setups.{setup_of}
use Rattle.run_journals.specs.Causes.{IsEndFault, IsPlanFault, IsStepFault}
use Rattle.run_journals.specs.Places.{sent_in, keeps_plan, AllKeepPlan}
use Rattle.run_journals.specs.RecentRuns.{IsRecentRun}
use Rattle.run_journals.proofs.AtLines.{reverse-at}
use Rattle.journal_check.specs.Judged.{IsLeastFault}
use Rattle.journal_check.specs.Passing.{IsNoNext}
use Rattle.journal_check.specs.Verdicts.{IsStopped}
use Rattle.journal_check.specs.declared.verdict.CheckFault.{CheckFault}
use Rattle.journal_check.specs.declared.verdict.CheckFault.TheVariants.{No, NoMemory}

-- one event more, from the last one on
pub reverse-more : (es : List Happening) (i : ℕ) (e : Happening) → i < length es → e ≡ slice_index_or es i e → reverse (take (i + 1) es) ≡ e ∷ reverse (take i es)
reverse-more es i e low is =
    ap reverse (take_more es i e low)
    ∙ (reverse-append (take i es) (get_or es i e ∷ []) ∙ ap (λ (x : Happening). x ∷ reverse (take i es)) (sym is))

-- the events before one, and behind it
split-at : (es : List Happening) (i : ℕ) (e : Happening) → i < length es → e ≡ slice_index_or es i e → es ≡ take i es ++ e ∷ drop (i + 1) es
split-at es i e low is =
    sym (take-append-drop i es)
    ∙ ap (λ (xs : List Happening). take i es ++ xs) (drop-cons es i e low ∙ (ap (λ (x : Happening). x ∷ drop (suc i) es) (sym is) ∙ ap (λ n. e ∷ drop n es) (sym (add-one i))))

module _ (s : Content) where
  -- the first event that has no place stands at its line
  pub plan-fault : (es : List Happening) (line : ℕ) → IsRecentRun (setup_of s) es → IsLeastFault s.plan es (Some line) → IsPlanFault s (reverse es) line
  plan-fault es line run h =
      let newer = h.0 in
      let e = h.1 in
      let older = h.2 in
      let back = reverse-reverse es in
      let own = reverse-reverse older in
      let many = length-reverse older in
      let line_is = h.4 in
      record {
        at = record {
          before = reverse older;
          event = e;
          behind = reverse newer;
          are = ap reverse h.3 ∙ reverse-at newer e older;
          line_is = omega (arith, line_is, many);
        };
        run = subst (IsRecentRun (setup_of s)) (sym back) run;
        good = subst (λ (xs : List Happening). AllKeepPlan s.plan (sent_in xs) (reverse (reverse older))) (sym back) (subst (AllKeepPlan s.plan (sent_in es)) (sym own) h.5);
        bad = ap (λ (xs : List Happening). keeps_plan s.plan (sent_in xs) (reverse (reverse older)) e) back ∙ (ap (λ (xs : List Happening). keeps_plan s.plan (sent_in es) xs e) own ∙ h.6);
      }

  -- an event that may not happen behind those before it stands at its line
  pub step-fault : (before : List Happening) (e : Happening) (behind : List Happening) (line : ℕ) → line ≡ length before + 1 → IsRecentRun (setup_of s) (reverse before) → (IsRecentRun (setup_of s) (e ∷ reverse before) → ⊥)
      → IsStepFault s (before ++ e ∷ behind) line
  step-fault before e behind line line_is good bad = record {
    at = record { before = before; event = e; behind = behind; are = refl; line_is = line_is };
    good = good;
    bad = bad;
  }

  -- the lines stop before the nodes have ended
  pub end-fault : (es : List Happening) (w : World) → IsRecentRun (setup_of s) es → IsPlanned (setup_of s) s.plan es → world_of (setup_of s) es ≡ Some w → (HasEnded (setup_of s) w → ⊥) → IsEndFault s (reverse es) (length es + 1)
  end-fault es w run planned leads goes_on =
      let back = reverse-reverse es in
      let many = length-reverse es in
      record {
        line_is = omega (arith, many);
        run = subst (IsRecentRun (setup_of s)) (sym back) run;
        planned = subst (IsPlanned (setup_of s) s.plan) (sym back) planned;
        bad = λ v led ended. goes_on (subst (HasEnded (setup_of s)) (same_Some v w (sym led ∙ (ap (world_of (setup_of s)) back ∙ leads))) ended);
      }

  -- an event that may not happen behind those before it stands at its line
  pub stopped-at : (events : List Happening) (i line : ℕ) (e : Happening) → i < length events → e ≡ slice_index_or events i e → line ≡ i + 1 → (fault : CheckFault) → IsNoNext s (reverse (take i events)) e line fault → IsStopped s events fault
  stopped-at events i line e low here line_is (No at cause) is =
      let many = length-take i events in
      let place : line ≡ length (take i events) + 1 = omega (arith, low, line_is, many) in
      let fault : IsStepFault s (take i events ++ e ∷ drop (i + 1) events) line = step-fault (take i events) e (drop (i + 1) events) line place is.2 is.3 in
      (is.0, subst (IsStepFault s events) (sym is.1) (subst (λ (xs : List Happening). IsStepFault s xs line) (sym (split-at events i e low here)) fault))
  stopped-at events i line e low here line_is NoMemory is = tt
