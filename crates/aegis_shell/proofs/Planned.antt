-- A command begins as its course does.
use Rattle.std.proofs.Common.{◌≡◌, Bool, true, false, cond, Option, Some, None, List, [], ◌∷◌, refl}
use Rattle.uid_names.specs.Names.{ObjectName}
use Rattle.dom_history.specs.declared.op.Op.{Op}
use Rattle.script_reader.specs.declared.command.Command.{Command}
use Rattle.script_reader.specs.declared.command.Command.TheVariants.{Wd, Llkob}
use Rattle.aegis_shell.specs.AnswerTexts.{path_too_long}
use Rattle.aegis_shell.specs.Asking.{carry}
use Rattle.aegis_shell.specs.Operations.{ops_of}
use Rattle.aegis_shell.specs.Plans.{Plan, Makes, Talks, Lists, Writes, makes, is_long, talk_plan, plan_of}
use Rattle.aegis_shell.specs.Standing.{Standing, site_of}
use Rattle.aegis_shell.specs.States.{begins_by, begins}
use Rattle.aegis_shell.specs.Work.{Part}
use Rattle.aegis_shell.specs.declared.working.Working.{Working}
use Rattle.aegis_shell.proofs.Counts.{IsShort, AreShort, ops_short}
use Rattle.aegis_shell.proofs.Stages.{Leads, stepped}
use Rattle.command_talks.specs.Commands.{talks, is_sound, dialogue_for, talk_for}
use Rattle.command_talks.specs.Talks.{talk_turn}
use Rattle.command_talks.proofs.Talking.{starts_for}

-- a plan is one of a command that has such operations, or such a dialogue
abbrev pub IsPlanned : Option (List Op) → Command → Plan → Type 0
IsPlanned list command (Makes ops) = (list ≡ Some ops) × IsShort ops
IsPlanned list command Talks = (talks command ≡ true) × (is_sound command ≡ true)
IsPlanned list command (Lists home) = Unit {0}
IsPlanned list command (Writes text) = Unit {0}

made_plan : (list : Option (List Op)) (command : Command) → AreShort list → IsPlanned list command (makes list)
made_plan None command short = tt
made_plan (Some ops) command short = (refl, short)

talked_plan : (list : Option (List Op)) (part : Part) (working : Working) (command : Command) → talks command ≡ true → IsPlanned list command (talk_plan part working command)
talked_plan list part working command t = by_tests (is_long part working command) (is_sound command) refl where
  by_tests : (long sound : Bool) → is_sound command ≡ sound → IsPlanned list command (cond long (Writes path_too_long) (cond sound Talks (Writes [])))
  by_tests true sound is = tt
  by_tests false true is = (t, is)
  by_tests false false is = tt

pub planned : (part : Part) (working : Working) (uid : Option ObjectName) (command : Command) → IsPlanned (ops_of part.node command uid) command (plan_of part working uid command)
planned part working uid (Wd None) = tt
planned part working uid (Llkob node) = tt
planned part working uid command = by_talks (talks command) refl where
  by_talks : (t : Bool) → talks command ≡ t → IsPlanned (ops_of part.node command uid) command (cond t (talk_plan part working command) (makes (ops_of part.node command uid)))
  by_talks true is = talked_plan (ops_of part.node command uid) part working command is
  by_talks false is = made_plan (ops_of part.node command uid) command (ops_short part.node command uid)

-- a command of a plan begins as it is carried out
plan_leads : (part : Part) (at : Standing) (list : Option (List Op)) (command : Command) (plan : Plan) → IsPlanned list command plan → Leads part.names list (begins_by part at.working command plan) (carry part at command plan)
plan_leads part at list command (Makes []) h = elim h.1 [ ]
plan_leads part at list command (Makes (op ∷ rest)) h = record { ops = op ∷ rest; are = h.0; short = h.1; course = λ told. refl }
plan_leads part at list command Talks h =
    let site = site_of part in
    let dir = at.working.dir in
    stepped part.names list (carry part at command Talks) (talk_turn (talk_for part.guard site dir command) None) (dialogue_for part.guard site dir command) (starts_for part.guard site dir command h.0 h.1) (λ told. refl)
plan_leads part at list command (Lists home) h = λ told. refl
plan_leads part at list command (Writes text) h = λ told. refl

pub begin_leads : (part : Part) (at : Standing) (uid : Option ObjectName) (command : Command)
    → Leads part.names (ops_of part.node command uid) (begins part at.working uid command) (carry part at command (plan_of part at.working uid command))
begin_leads part at uid command = plan_leads part at (ops_of part.node command uid) command (plan_of part at.working uid command) (planned part at.working uid command)
