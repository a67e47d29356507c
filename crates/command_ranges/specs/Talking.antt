-- How a command goes without the guards of a shell, and that no guard acts.
use Rattle.std.specs.Prelude.{◌≡◌, ◌≤◌, true, Option, Some, None, [], ◌∷◌, length}
use Rattle.uid_names.specs.Names.{ObjectName, IsName}
use Rattle.uid_names.specs.declared.limits.TheConstants.{MAX_NODES}
use Rattle.dom_history.specs.Ranges.{IsNodeNumber, IsOp}
use Rattle.dom_history.specs.declared.op.Reply.TheVariants.{Fine}
use Rattle.script_reader.specs.declared.command.Command.{Command}
use Rattle.naming_tree.specs.declared.site.Site.{Site}
use Rattle.command_talks.specs.Commands.{dialogue_for, is_sound}
use Rattle.command_talks.specs.Dialogues.{Dialogue, Asks as Asking, Ends as Over}
use Rattle.command_talks.specs.declared.check.Subject.{Subject}
use Rattle.command_talks.specs.declared.outcome.Outcome.TheVariants.{Replied}
use Rattle.aegis_shell.specs.Asking.{Asks, Course, Ends, Told, converse}
use Rattle.command_ranges.specs.Naming.{IsNamedOutcome}
use Rattle.command_ranges.specs.Telling.{MayTell}

-- a process of a node, where no more nodes have names than there can be
pub record IsSite (site : Site) : Type 0 where
  pub own : IsNodeNumber site.own
  pub few : length site.names ≤ MAX_NODES

-- a dialogue, to its outcome, without any test of what it asks and is told. An operation is always told a reply
abbrev pub plainly : Dialogue → Told → Course
plainly (Over outcome) told = Ends outcome told
plainly (Asking op further) [] = Asks op
plainly (Asking op further) (None ∷ told) = Ends (Replied Fine) told
plainly (Asking op further) (Some reply ∷ told) = plainly (further reply) told

-- what is told fits what was asked before it
abbrev pub FitsTold : Dialogue → Told → Type 0
FitsTold (Over outcome) told = Unit {0}
FitsTold (Asking op further) [] = Unit {0}
FitsTold (Asking op further) (None ∷ told) = ⊥
FitsTold (Asking op further) (Some reply ∷ told) = MayTell op reply × FitsTold (further reply) told

-- an operation that is asked is in its ranges, and what is found or made has a name
abbrev pub ComesNamed : Course → Type 0
ComesNamed (Asks op) = IsOp op
ComesNamed (Ends outcome told) = IsNamedOutcome outcome

-- told what fits, a dialogue goes as it does without tests, and comes to what has names
pub record GoesPlainly (d : Dialogue) (told : Told) : Type 0 where
  pub same : converse d told ≡ plainly d told
  pub comes : ComesNamed (plainly d told)

-- no guard of the shell acts at a command: it is sound, and goes plainly from any working directory
pub record IsUnguarded (who : Option Subject) (site : Site) (command : Command) : Type 0 where
  pub sound : is_sound command ≡ true
  pub plain : (dir : ObjectName) → IsName dir → (told : Told) → FitsTold (dialogue_for who site dir command) told → GoesPlainly (dialogue_for who site dir command) told
