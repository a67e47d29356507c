-- A journal has one verdict.
use Rattle.std.proofs.Common.{◌≡◌, ◌⊎◌, ℕ, true, false, List, [], ◌∷◌, ◌++◌, Some, inl, inr, refl, sym, ap, subst, ◌∙◌}
use Rattle.std.specs.Prelude.{reverse}
use Rattle.std.proofs.lemmas.List.{reverse-reverse}
use Rattle.dom_history.specs.declared.plan.FateRow.{FateRow}
use Rattle.dom_history.specs.Events.{Happening}
use Rattle.script_reader.specs.Scripts.{Content}
use Rattle.journal_text.specs.Written.{IsJournal, IsBadLine}
use Rattle.node_runs.specs.Runs.{World, world_of, HasEnded}
use Rattle.node_runs.specs.Deliveries.{IsPlanned}
use Rattle.run_journals.proofs.Journals.{same-reverse}
use Rattle.script_runs.specs.Reports.{names_of}
use Rattle.script_runs.specs.Setups.{setup_of}
use Rattle.run_journals.specs.RecentRuns.{IsRecentRun}
use Rattle.run_journals.specs.Places.{Counts, sent_in, keeps_plan, AllKeepPlan}
use Rattle.run_journals.specs.Accepted.{IsAcceptedOf}
use Rattle.run_journals.specs.Causes.{Cause, IsStepFault, IsPlanFault, IsEndFault, IsNo}
use Rattle.run_journals.proofs.AtLines.{whole, one-line}

-- an initial part of what keeps the plan does
initial-kept : (plan : List FateRow) (sent : Counts) (newer older : List Happening) → AllKeepPlan plan sent (newer ++ older) → AllKeepPlan plan sent older
initial-kept plan sent [] older kept = kept
initial-kept plan sent (e ∷ newer) older kept = initial-kept plan sent newer older kept.1

module _ (s : Content) where
  abbrev pub IsRunOfIt : List Happening → Type 0
  IsRunOfIt es = IsRecentRun (setup_of s) es

  abbrev pub KeepsBy : Counts → List Happening → Type 0
  KeepsBy sent es = AllKeepPlan s.plan sent es

  abbrev pub AreInitial : Type 0
  AreInitial = (newer older : List Happening) → IsRunOfIt (newer ++ older) → IsRunOfIt older

  -- runs that are planned keep the plan
  abbrev pub AreKept : List Happening → Type 0
  AreKept es = IsPlanned (setup_of s) s.plan es → KeepsBy (sent_in es) es

  -- an event that has no place is none of those that keep the plan
  not-kept : (sent : Counts) (older : List Happening) (e : Happening) → keeps_plan s.plan sent older e ≡ false → KeepsBy sent (e ∷ older) → ⊥
  not-kept sent older e bad kept = let both : true ≡ false = sym kept.0 ∙ bad in absurd (cc)

  -- the causes that are of events
  abbrev pub FaultOf : List Happening → Cause → ℕ → Type 0
  FaultOf events Cause.Form n = ⊥
  FaultOf events Cause.Step n = IsStepFault s events n
  FaultOf events Cause.Plan n = IsPlanFault s events n
  FaultOf events Cause.End n = IsEndFault s events n

  module _ (initial : AreInitial) (events : List Happening) where
    step-whole : (n : ℕ) → IsStepFault s events n → IsRunOfIt (reverse events) → ⊥
    step-whole n f run = f.bad (whole IsRunOfIt initial events n f.at run)

    step-one : (m n : ℕ) → IsStepFault s events m → IsStepFault s events n → m ≡ n
    step-one m n f g = one-line IsRunOfIt initial events m n f.at g.at f.good f.bad g.good g.bad

    plan-one : (m n : ℕ) → IsPlanFault s events m → IsPlanFault s events n → m ≡ n
    plan-one m n f g =
        let sent = sent_in (reverse events) in
        one-line (KeepsBy sent) (initial-kept s.plan sent) events m n f.at g.at f.good (not-kept sent (reverse f.at.before) f.at.event f.bad)
        g.good (not-kept sent (reverse g.at.before) g.at.event g.bad)

    plan-whole : (n : ℕ) → IsPlanFault s events n → KeepsBy (sent_in (reverse events)) (reverse events) → ⊥
    plan-whole n f kept =
        let sent = sent_in (reverse events) in
        not-kept sent (reverse f.at.before) f.at.event f.bad (whole (KeepsBy sent) (initial-kept s.plan sent) events n f.at kept)

    end-one : (m n : ℕ) → IsEndFault s events m → IsEndFault s events n → m ≡ n
    end-one m n f g = f.line_is ∙ sym g.line_is

    pub one-fault : AreKept (reverse events) → (m n : ℕ) (c d : Cause) → FaultOf events c m → FaultOf events d n → (m ≡ n) × (c ≡ d)
    one-fault kept m n Cause.Form d f g = absurd f
    one-fault kept m n c Cause.Form f g = absurd g
    one-fault kept m n Cause.Step Cause.Step f g = (step-one m n f g, refl)
    one-fault kept m n Cause.Step Cause.Plan f g = absurd (step-whole m f g.run)
    one-fault kept m n Cause.Step Cause.End f g = absurd (step-whole m f g.run)
    one-fault kept m n Cause.Plan Cause.Step f g = absurd (step-whole n g f.run)
    one-fault kept m n Cause.Plan Cause.Plan f g = (plan-one m n f g, refl)
    one-fault kept m n Cause.Plan Cause.End f g = absurd (plan-whole m f (kept g.planned))
    one-fault kept m n Cause.End Cause.Step f g = absurd (step-whole n g f.run)
    one-fault kept m n Cause.End Cause.Plan f g = absurd (plan-whole n g (kept f.planned))
    one-fault kept m n Cause.End Cause.End f g = (end-one m n f g, refl)

    -- and none where all is as it is to be
    pub no-fault : IsRunOfIt (reverse events) → KeepsBy (sent_in (reverse events)) (reverse events) → (w : World) → world_of (setup_of s) (reverse events) ≡ Some w → HasEnded (setup_of s) w
        → (n : ℕ) (c : Cause) → FaultOf events c n → ⊥
    no-fault run kept w leads ended n Cause.Form f = f
    no-fault run kept w leads ended n Cause.Step f = step-whole n f run
    no-fault run kept w leads ended n Cause.Plan f = plan-whole n f kept
    no-fault run kept w leads ended n Cause.End f = f.bad w leads ended

  -- journals and bad lines, as bytes have them
  module _ (bytes : List ℕ)
      (same : (es fs : List Happening) → IsJournal (names_of s) bytes es → IsJournal (names_of s) bytes fs → es ≡ fs)
      (never : (es : List Happening) (n : ℕ) → IsJournal (names_of s) bytes es → IsBadLine (names_of s) bytes n → ⊥)
      (bad_once : (m n : ℕ) → IsBadLine (names_of s) bytes m → IsBadLine (names_of s) bytes n → m ≡ n) where
    -- a fault that is none of form is one of events
    pub record HasFault (c : Cause) (n : ℕ) : Type 0 where
      pub events : List Happening
      pub journal : IsJournal (names_of s) bytes events
      pub fault : FaultOf events c n

    of-events : (c : Cause) (n : ℕ) → IsNo s bytes n c → (IsBadLine (names_of s) bytes n × (c ≡ Cause.Form)) ⊎ HasFault c n
    of-events Cause.Form n refused = inl (refused, refl)
    of-events Cause.Step n refused = inr (record { events = refused.events; journal = refused.journal; fault = refused.fault })
    of-events Cause.Plan n refused = inr (record { events = refused.events; journal = refused.journal; fault = refused.fault })
    of-events Cause.End n refused = inr (record { events = refused.events; journal = refused.journal; fault = refused.fault })

    pub one-no : AreInitial → ((es : List Happening) → IsJournal (names_of s) bytes es → AreKept (reverse es)) → (m n : ℕ) (c d : Cause) → IsNo s bytes m c → IsNo s bytes n d → (m ≡ n) × (c ≡ d)
    one-no initial kept m n c d first second = by (of-events c m first) (of-events d n second)
      where
        by : (IsBadLine (names_of s) bytes m × (c ≡ Cause.Form)) ⊎ HasFault c m → (IsBadLine (names_of s) bytes n × (d ≡ Cause.Form)) ⊎ HasFault d n → (m ≡ n) × (c ≡ d)
        by (inl f) (inl g) = (bad_once m n f.0 g.0, f.1 ∙ sym g.1)
        by (inl f) (inr g) = absurd (never g.events m g.journal f.0)
        by (inr f) (inl g) = absurd (never f.events n f.journal g.0)
        by (inr f) (inr g) =
            one-fault initial f.events (kept f.events f.journal) m n c d f.fault (subst (λ (es : List Happening). FaultOf es d n) (same g.events f.events g.journal f.journal) g.fault)

    pub never-no : AreInitial → (es : List Happening) (w : World) → IsAcceptedOf s bytes es w → AreKept es → (n : ℕ) (c : Cause) → IsNo s bytes n c → ⊥
    never-no initial es w is kept n c refused = by (of-events c n refused)
      where
        by : (IsBadLine (names_of s) bytes n × (c ≡ Cause.Form)) ⊎ HasFault c n → ⊥
        by (inl f) = never (reverse es) n is.journal f.0
        by (inr f) =
            let back : reverse f.events ≡ es = ap reverse (same f.events (reverse es) f.journal is.journal) ∙ reverse-reverse es in
            no-fault initial f.events
            (subst IsRunOfIt (sym back) (record { run = is.run.run.planned.run; recent = is.recent }))
            (subst (λ (xs : List Happening). KeepsBy (sent_in xs) xs) (sym back) (kept is.run.run.planned))
            w (ap (world_of (setup_of s)) back ∙ is.run.run.leads) is.run.run.ended n c f.fault

    -- two runs of one journal are one
    pub one-run : (es fs : List Happening) (w v : World) → IsAcceptedOf s bytes es w → IsAcceptedOf s bytes fs v → es ≡ fs
    one-run es fs w v first second = same-reverse es fs (same (reverse es) (reverse fs) first.journal second.journal)
