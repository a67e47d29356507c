-- What the code knows where a process is told a reply: of the job that it reads, the object and the stage that it takes.
use Rattle.std.proofs.Common.{◌≡◌, ◌<◌, Option, Some, List, ◌∷◌, length, ap, ◌∙◌, sym, subst, slice_index_or}
use Rattle.std.proofs.lemmas.List.Elements.{All-head}
use Rattle.uid_names.specs.Names.{ObjectName}
use Rattle.dom_history.specs.declared.op.Op.{Op}
use Rattle.dom_history.specs.declared.op.Reply.{Reply}
use Rattle.dom_history.specs.declared.op.Want.TheVariants.{Do}
use Rattle.dom_history.specs.Programs.{FitsWant}
use Rattle.dom_history.specs.Ranges.{IsOp}
use Rattle.script_reader.specs.declared.command.Command.{Command}
use Rattle.command_talks.specs.declared.outcome.Outcome.{Outcome}
use Rattle.aegis_shell.specs.declared.stage.Stage.{Stage}
use Rattle.aegis_shell.specs.declared.stage.Turn.{Turn}
use Rattle.aegis_shell.specs.declared.stage.Turn.TheVariants as turns
use Rattle.aegis_shell.specs.Operations.{ops_of}
use Rattle.command_talks.specs.Ranges.{IsRanged}
use Rattle.aegis_shell.specs.Ranges.{IsJob, AreJobs}
use Rattle.aegis_shell.specs.States.{State, behind, left, ops_at, object_at_job, Going, goes_on, want_of, finished, at_stage, hear}
use Rattle.aegis_shell.specs.Turns.{going, AsksIn, FitsStage}
use Rattle.aegis_shell.specs.Work.{Job, Part}
use Rattle.aegis_shell.proofs.Turns.{left-cons, fits_there, goes_there, ends_there, wants_there}
use Rattle.aegis_shell.proofs.Wanting.{left_ranged}

-- the first of the commands that are left, in its ranges
pub left_first : (part : Part) (at : State) (job : Job) → length at.answers < length part.jobs → job ≡ slice_index_or part.jobs (length at.answers) job → left part at ≡ job ∷ behind part at
left_first part at job within is = left-cons part.jobs (length at.answers) job within is

pub first_ranged : (part : Part) (at : State) (job : Job) (rest : List Job) → left part at ≡ job ∷ rest → AreJobs part.jobs → IsRanged job.command
first_ranged part at job rest is ranges = (All-head IsJob job rest (subst AreJobs is (left_ranged part at ranges))).command

-- what was read where it stands: the next command, its object and its stage
pub record IsRead (part : Part) (at inside : State) (job : Job) (command : Command) (object : Option ObjectName) (stood : Stage) : Type 0 where
  view : inside ≡ at
  jobs : left part at ≡ job ∷ behind part at
  command_is : command ≡ job.command
  ops : ops_of part.node command object ≡ ops_at part at job
  stage : stood ≡ at.stage

pub read_is : {part : Part} {at inside : State} {job : Job} {command : Command} {object : Option ObjectName} {stood : Stage}
    → inside ≡ at → left part at ≡ job ∷ behind part at → command ≡ job.command → object ≡ object_at_job inside job → stood ≡ inside.stage → IsRead part at inside job command object stood
read_is {part} {at} {inside} {job} {command} {object} {stood} view jobs command_is object_is stage_is = record {
  view = view;
  jobs = jobs;
  command_is = command_is;
  ops = ap (λ (c : Command). ops_of part.node c object) command_is ∙ (ap (ops_of part.node job.command) object_is ∙ ap (λ (s : State). ops_at part s job) view);
  stage = stage_is ∙ ap (λ (s : State). s.stage) view;
}

-- the reply fits its stage
pub fits_here : {part : Part} {at inside : State} {job : Job} {command : Command} {object : Option ObjectName} {stood : Stage}
    → IsRead part at inside job command object stood → (reply : Reply) → FitsWant (want_of part at) (Some reply) → FitsStage (ops_of part.node command object) stood reply
fits_here {part} {at} {inside} {job} {command} {object} {stood} read reply fits =
    subst (λ (list : Option (List Op)). FitsStage list stood reply) (sym read.ops)
    (subst (λ (s : Stage). FitsStage (ops_at part at job) s reply) (sym read.stage) (fits_there part at job (behind part at) read.jobs reply fits))

turn_here : {part : Part} {at inside : State} {job : Job} {command : Command} {object : Option ObjectName} {stood : Stage}
    → IsRead part at inside job command object stood → (reply : Reply) (there : Going) → there ≡ goes_on part.names (ops_of part.node command object) stood (Some reply)
    → goes_on part.names (ops_at part at job) at.stage (Some reply) ≡ there
turn_here {part} {at} {inside} {job} {command} {object} {stood} read reply there e = sym
    (e
    ∙ (ap (λ (list : Option (List Op)). goes_on part.names list stood (Some reply)) read.ops
    ∙ ap (λ (s : Stage). goes_on part.names (ops_at part at job) s (Some reply)) read.stage))

-- it goes on within its command
pub goes_here : {part : Part} {at inside : State} {job : Job} {command : Command} {object : Option ObjectName} {stood : Stage}
    → IsRead part at inside job command object stood → (reply : Reply) → FitsWant (want_of part at) (Some reply)
    → (turn : Turn) (stage : Stage) (op : Op) → turn ≡ turns.Goes stage op → going turn ≡ goes_on part.names (ops_of part.node command object) stood (Some reply)
    → at_stage inside stage ≡ hear part at (left part at) (Some reply)
goes_here {part} {at} {inside} {job} {command} {object} {stood} read reply fits turn stage op goes e =
    ap (λ (s : State). at_stage s stage) read.view
    ∙ goes_there part at job (behind part at) read.jobs reply stage fits (turn_here read reply (going turn) e ∙ ap going goes)

pub asks_here : {part : Part} {at inside : State} {job : Job} {command : Command} {object : Option ObjectName} {stood : Stage}
    → IsRead part at inside job command object stood
    → (turn : Turn) (stage : Stage) (op : Op) → turn ≡ turns.Goes stage op → AsksIn (ops_of part.node command object) turn → (want_of part (at_stage inside stage) ≡ Do op) × IsOp op
asks_here {part} {at} {inside} {job} {command} {object} read turn stage op goes asks =
    let here = subst (λ (list : Option (List Op)). AsksIn list (turns.Goes stage op)) read.ops (subst (AsksIn (ops_of part.node command object)) goes asks) in
    (ap (λ (s : State). want_of part (at_stage s stage)) read.view ∙ wants_there part at job (behind part at) read.jobs stage op here.0, here.1)

-- or ends it
pub ends_here : {part : Part} {at inside : State} {job : Job} {command : Command} {object : Option ObjectName} {stood : Stage}
    → IsRead part at inside job command object stood → (reply : Reply) → FitsWant (want_of part at) (Some reply)
    → (turn : Turn) (outcome : Outcome) → turn ≡ turns.Comes outcome → going turn ≡ goes_on part.names (ops_of part.node command object) stood (Some reply)
    → finished part inside command outcome ≡ hear part at (left part at) (Some reply)
ends_here {part} {at} {inside} {job} {command} {object} {stood} read reply fits turn outcome comes e =
    ap (λ (s : State). finished part s command outcome) read.view
    ∙ (ap (λ (c : Command). finished part at c outcome) read.command_is
    ∙ ends_there part at job (behind part at) read.jobs reply outcome fits (turn_here read reply (going turn) e ∙ ap going comes))
