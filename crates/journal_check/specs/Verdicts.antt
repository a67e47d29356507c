-- What a check answers.
use Rattle.std.specs.Prelude.{◌≡◌, ℕ, Option, Result, Ok, Err, List, codes, length}
use Rattle.dom_history.specs.declared.op.Reply.{Reply}
use Rattle.dom_history.specs.declared.op.Want.{Want}
use Rattle.dom_history.specs.declared.plan.FateRow.{FateRow}
use Rattle.dom_history.specs.Events.{Happening}
use Rattle.script_reader.specs.Scripts.{Content}
use Rattle.journal_text.specs.Written.{IsBadLine}
use Rattle.node_runs.specs.Runs.{World, first_world}
use Rattle.node_core.specs.Nodes.{Noted}
use Rattle.script_runs.specs.Reports.{names_of}
use Rattle.script_runs.specs.Setups.{setup_of}
use Rattle.run_journals.specs.Begins.{CanRun}
use Rattle.run_journals.specs.Accepted.{IsAcceptedOf}
use Rattle.run_journals.specs.Causes.{Cause, IsNo, IsStepFault}
use Rattle.journal_check.specs.Passes.{Made, AreNodesOf, StandsFor}
use Rattle.journal_check.specs.declared.pass.Pass.{Pass}
use Rattle.journal_check.specs.declared.verdict.Checked.{Checked}
use Rattle.journal_check.specs.declared.verdict.CheckFault.{CheckFault}
use Rattle.journal_check.specs.declared.verdict.CheckFault.TheVariants.{No, NoMemory}
use Rattle.journal_check.specs.declared.verdict.NoCause.{NoCause}
use Rattle.journal_check.specs.declared.verdict.NoCause.TheVariants as causes

abbrev pub cause_seen : NoCause → Cause
cause_seen causes.Form = Cause.Form
cause_seen causes.Step = Cause.Step
cause_seen causes.Plan = Cause.Plan
cause_seen causes.End = Cause.End

abbrev pub cause_text : Cause → List ℕ
cause_text Cause.Form = codes "form"
cause_text Cause.Step = codes "step"
cause_text Cause.Plan = codes "plan"
cause_text Cause.End = codes "end"

-- the bytes are no journal, and this is the first line that is none; or there was no memory
abbrev pub IsUnread : List (List ℕ) → List ℕ → CheckFault → Type 0
IsUnread names bytes (No line cause) = (cause ≡ causes.Form) × IsBadLine names bytes line
IsUnread names bytes NoMemory = Unit {0}

-- the bytes are at fault at this line, for this cause; or there was no memory
abbrev pub IsRefused : Content → List ℕ → CheckFault → Type 0
IsRefused s bytes (No line cause) = IsNo s bytes line (cause_seen cause)
IsRefused s bytes NoMemory = Unit {0}

-- an event could not happen at this line; or there was no memory
abbrev pub IsStopped : Content → List Happening → CheckFault → Type 0
IsStopped s events (No line cause) = (cause ≡ causes.Step) × IsStepFault s events line
IsStopped s events NoMemory = Unit {0}

abbrev pub IsNoMemory : CheckFault → Type 0
IsNoMemory (No line cause) = ⊥
IsNoMemory NoMemory = Unit {0}

module _ {P : Type 0} (wants : P → Want) (becomes : P → Option Reply → P) (made : Made P) (s : Content) where
  -- the nodes of a script as they were made, with its faults and the names of its nodes
  pub record IsGivenOf (nodes : List (Noted P)) (plan : List FateRow) (names : List (List ℕ)) : Type 0 where
    pub can : CanRun s
    pub nodes_are : AreNodesOf wants becomes made (setup_of s) (first_world (setup_of s)) nodes
    pub plan_is : plan ≡ s.plan
    pub names_are : names ≡ names_of s

  -- the bytes are the journal of an ended and recent run of the script, planned by its faults; so many events are in it, and the pass stands for its end
  pub record IsAcceptedIn {G : Type 0} (bytes : List ℕ) (count : ℕ) (pass : Pass P G) : Type 0 where
    pub events : List Happening
    pub world : World
    pub is : IsAcceptedOf s bytes events world
    pub count_is : count ≡ length events
    pub stands : StandsFor wants becomes made (setup_of s) pass world

  -- so it was checked
  abbrev pub IsChecked : {G : Type 0} → List ℕ → Checked P G → Type 0
  IsChecked bytes c = IsAcceptedIn bytes c.events c.pass

  -- or the bytes are at fault
  abbrev pub IsVerdict : {G : Type 0} → List ℕ → Result (Checked P G) CheckFault → Type 0
  IsVerdict bytes (Ok c) = IsChecked bytes c
  IsVerdict bytes (Err fault) = IsRefused s bytes fault
