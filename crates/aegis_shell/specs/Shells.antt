-- What contracts see of a shell.
use Rattle.std.specs.Prelude.{ℕ, ◌≡◌, ◌≤◌, length, Bool, true, false, Option, List}
use Rattle.uid_names.specs.Names.{ProcName}
use Rattle.dom_history.specs.declared.op.Reply.{Reply}
use Rattle.dom_history.specs.declared.op.Want.{Want}
use Rattle.dom_history.specs.declared.op.Want.TheVariants.{Phase}
use Rattle.script_reader.specs.Scripts.{Content}
use Rattle.aegis_shell.specs.Work.{Part, part_of}
use Rattle.aegis_shell.specs.declared.stage.Stage.TheVariants.{Between}
use Rattle.aegis_shell.specs.States.{State, beginning, want_of, settled, step}

-- its part of the script, whether it was called, where it stands, and whether it found no memory
pub record Shelled : Type 0 where
  pub part : Part
  pub begun : Bool
  pub at : State
  pub spent : Bool

-- the shell of a process of a script before its first call
abbrev pub shell_of : Content → ProcName → Shelled
shell_of s p = record { part = part_of s p; begun = false; at = beginning (part_of s p); spent = false }

-- where it stands after a call; the first one tells it nothing
abbrev pub state_after : Bool → Part → State → Option Reply → State
state_after false part at told = settled part at
state_after true part at told = step part at told

-- the shell once it was told this
abbrev pub shell_after : Shelled → Option Reply → Shelled
shell_after v told = record { part = v.part; begun = true; at = state_after v.begun v.part v.at told; spent = false }

-- what it wants; before its first call it waits for its first phase
abbrev pub want_when : Bool → Part → State → Want
want_when false part at = Phase
want_when true part at = want_of part at

abbrev pub shell_wants : Shelled → Want
shell_wants v = want_when v.begun v.part v.at

-- the answers of its finished commands, in order
abbrev pub shell_answers : Shelled → List (List ℕ)
shell_answers v = v.at.answers

-- what a shell keeps until it finds no memory: it has no more answers than commands, and is within none before its
-- first call
pub record IsKept (part : Part) (begun : Bool) (at : State) : Type 0 where
  pub within : length at.answers ≤ length part.jobs
  pub between : begun ≡ false → at.stage ≡ Between

abbrev pub UnlessSpent : Bool → Type 0 → Type 0
UnlessSpent true P = Unit {0}
UnlessSpent false P = P
