-- The events of a journal that happened so far, the last one first, in the pass and by their places.
use Rattle.std.specs.Prelude.{◌≡◌, ℕ, ◌+◌, ◌<◌, ◌^◌, Option, Result, Ok, Err, List, [], ◌∷◌, length, reverse}
use Rattle.dom_history.specs.declared.op.Reply.{Reply}
use Rattle.dom_history.specs.declared.op.Want.{Want}
use Rattle.dom_history.specs.Events.{Happening}
use Rattle.script_reader.specs.Scripts.{Content}
use Rattle.journal_text.specs.Written.{IsJournal}
use Rattle.node_runs.specs.Runs.{World}
use Rattle.script_runs.specs.Reports.{names_of}
use Rattle.script_runs.specs.Setups.{setup_of}
use Rattle.run_journals.specs.Begins.{CanRun}
use Rattle.run_journals.specs.RecentRuns.{IsRecentRun}
use Rattle.journal_check.specs.Judged.{ArePlaces}
use Rattle.journal_check.specs.declared.places.Places.{Places}
use Rattle.journal_check.specs.Passes.{Made, StandsFor}
use Rattle.journal_check.specs.declared.pass.Pass.{Pass}
use Rattle.journal_check.specs.Verdicts.{IsAcceptedIn, IsRefused, IsStopped}
use Rattle.journal_check.specs.declared.verdict.CheckFault.{CheckFault}
use Rattle.journal_check.specs.declared.verdict.CheckFault.TheVariants.{No, NoMemory}
use Rattle.journal_check.specs.declared.verdict.NoCause.TheVariants as causes

-- the event of this line may not happen behind these; or there was no memory
abbrev pub IsNoNext : Content → List Happening → Happening → ℕ → CheckFault → Type 0
IsNoNext s es e line (No at cause) = (cause ≡ causes.Step) × (at ≡ line) × IsRecentRun (setup_of s) es × (IsRecentRun (setup_of s) (e ∷ es) → ⊥)
IsNoNext s es e line NoMemory = Unit {0}

module _ {P G : Type 0} (wants : P → Want) (becomes : P → Option Reply → P) (made : Made P) (s : Content) where
  -- the events led to a world for which the pass stands
  pub record HaveHappened (es : List Happening) (pass : Pass P G) (places : Places) : Type 0 where
    pub world : World
    pub done : world.done ≡ es
    pub stands : StandsFor wants becomes made (setup_of s) pass world
    pub places_are : ArePlaces s.plan s.opening.nodes es places

  -- of few events so many happened that the next one has this line
  pub record IsBefore (es : List Happening) (line : ℕ) (pass : Pass P G) (places : Places) : Type 0 where
    pub happened : HaveHappened es pass places
    pub line_is : line ≡ length es + 1
    pub few : length es < 2 ^ 40

  -- an event happened next, by its line; or it may not
  abbrev pub IsAdded : {T : Type 0} → Happening → ℕ → Pass P G → Places → Pass P G → Places → Result T CheckFault → Type 0
  IsAdded e line pass places later behind (Ok x) = (es : List Happening) → IsBefore es line pass places → HaveHappened (e ∷ es) later behind
  IsAdded e line pass places later behind (Err fault) = (es : List Happening) → IsBefore es line pass places → IsNoNext s es e line fault

  -- all events of a journal happened, from the first one on; or one may not
  abbrev pub IsPassed : {T : Type 0} → List Happening → Pass P G → Places → Pass P G → Places → Result T CheckFault → Type 0
  IsPassed events pass places later behind (Ok x) = HaveHappened [] pass places → HaveHappened (reverse events) later behind
  IsPassed events pass places later behind (Err fault) = HaveHappened [] pass places → IsStopped s events fault

  -- all events happened of the journal that these bytes are, so many
  pub record AreAll (bytes : List ℕ) (count : ℕ) (pass : Pass P G) (places : Places) : Type 0 where
    pub events : List Happening
    pub can : CanRun s
    pub journal : IsJournal (names_of s) bytes (reverse events)
    pub count_is : count ≡ length events
    pub happened : HaveHappened events pass places

  -- so they are accepted, or refused
  abbrev pub IsJudged : {T : Type 0} → List ℕ → ℕ → Pass P G → Places → Result T CheckFault → Type 0
  IsJudged bytes count pass places (Ok x) = AreAll bytes count pass places → IsAcceptedIn wants becomes made s bytes count pass
  IsJudged bytes count pass places (Err fault) = AreAll bytes count pass places → IsRefused s bytes fault
