-- Where a process stands in its commands, what it wants there, and where it stands once it is told something.
use Rattle.std.specs.Prelude.{ℕ, ◌+◌, nat_lt, Bool, true, false, cond, Option, Some, None, List, [], ◌∷◌, ◌++◌, length, drop, codes}
use Rattle.uid_names.specs.Names.{ObjectName}
use Rattle.dom_history.specs.Fitting.{can_have}
use Rattle.dom_history.specs.declared.op.Op.{Op}
use Rattle.dom_history.specs.declared.op.Op.TheVariants as ops
use Rattle.dom_history.specs.declared.op.Reply.{Reply}
use Rattle.dom_history.specs.declared.op.Reply.TheVariants.{Fine, Locks}
use Rattle.dom_history.specs.declared.op.Want.{Want}
use Rattle.dom_history.specs.declared.op.Want.TheVariants.{Do, Phase, Done}
use Rattle.script_reader.specs.declared.command.Command.{Command}
use Rattle.command_talks.specs.declared.outcome.Outcome.{Outcome}
use Rattle.command_talks.specs.declared.outcome.Outcome.TheVariants.{Replied, Written}
use Rattle.aegis_shell.specs.declared.stage.Stage.{Stage}
use Rattle.aegis_shell.specs.declared.stage.Stage.TheVariants.{Between, First, Second, Talks as Talking, Lists as Listing}
use Rattle.command_talks.specs.declared.talk.Talk.{Talk}
use Rattle.aegis_shell.specs.declared.working.Working.{Working}
use Rattle.aegis_shell.specs.Bindings.{Rows, object_at, rebound}
use Rattle.aegis_shell.specs.Work.{Job, Part, object_of}
use Rattle.aegis_shell.specs.Standing.{Standing, site_of, first_working}
use Rattle.aegis_shell.specs.Operations.{ops_of, first_of, second_of}
use Rattle.aegis_shell.specs.Plans.{Plan, Makes, Talks, Lists, Writes, plan_of}
use Rattle.command_talks.specs.Commands.{talk_for}
use Rattle.command_talks.specs.Talks as turns
use Rattle.command_talks.specs.Talks.{talk_asks, talk_turn}
use Rattle.aegis_shell.specs.RangeTests.{is_op}
use Rattle.aegis_shell.specs.Asking.{is_more, last_row}
use Rattle.aegis_shell.specs.Outcomes.{outcome_text, bound_by, working_after, lock_texts}
use Rattle.aegis_shell.specs.AnswerTexts.{is_done, together, so_far}

-- its phase, what its variables are bound to, its working directory, how far it is in its next command, and the answers
-- of its finished commands
pub record State : Type 0 where
  pub phase : ℕ
  pub bound : Rows
  pub working : Working
  pub stage : Stage
  pub answers : List (List ℕ)

-- it begins in phase 1
abbrev pub beginning : Part → State
beginning part = record { phase = 1; bound = []; working = first_working part; stage = Between; answers = [] }

-- the commands without an answer
abbrev pub left : Part → State → List Job
left part at = drop (length at.answers) part.jobs

-- and those behind the first of them
abbrev pub behind : Part → State → List Job
behind part at = drop (length at.answers + 1) part.jobs

-- what its commands see of where it stands
abbrev pub standing : State → Standing
standing at = record { bound = object_at at.bound; working = at.working }

abbrev pub object_at_job : State → Job → Option ObjectName
object_at_job at job = object_of job (object_at at.bound)

-- what comes of a command: it goes on with an operation, or comes to its end
pub data Going : Type 0 where
  Goes : (stage : Stage) → Going
  Comes : (outcome : Outcome) → Going

-- a machine was told something
abbrev pub on_turn : Option turns.Turn → Going
on_turn (Some (turns.Comes outcome)) = Comes outcome
on_turn (Some (turns.Goes talk op)) = cond (is_op op) (Goes (Talking talk)) (Comes (Replied Fine))
on_turn None = Comes (Replied Fine)

abbrev pub talk_goes : Talk → Option Reply → Going
talk_goes talk last = on_turn (talk_turn talk last)

-- how a command of this plan begins
abbrev pub begins_by : Part → Working → Command → Plan → Going
begins_by part working command (Makes []) = Comes (Replied Fine)
begins_by part working command (Makes (op ∷ list)) = Goes First
begins_by part working command Talks = talk_goes (talk_for part.guard (site_of part) working.dir command) None
begins_by part working command (Lists home) = Goes (Listing home None (codes "ok"))
begins_by part working command (Writes text) = Comes (Written text)

abbrev pub begins : Part → Working → Option ObjectName → Command → Going
begins part working object command = begins_by part working command (plan_of part working object command)

-- the operations of a command that makes one or two
abbrev pub ops_at : Part → State → Job → Option (List Op)
ops_at part at job = ops_of part.node job.command (object_at_job at job)

-- its first operation is told this. An operation is always told a reply; were it told nothing, it would count as done
abbrev pub is_granted : Option Reply → Bool
is_granted None = true
is_granted (Some reply) = is_done reply

abbrev pub on_first : Bool → Option Op → Option Reply → Going
on_first true (Some second) told = Goes (Second (so_far told))
on_first granted second told = Comes (Replied (so_far told))

-- so is its second one
abbrev pub on_second : Reply → Option Reply → Going
on_second first None = Comes (Replied first)
on_second first (Some reply) = Comes (Replied (together first reply))

-- a machine that asks this is told that
abbrev pub may_be : Option Op → Option Reply → Bool
may_be (Some op) (Some reply) = can_have op reply
may_be _ _ = false

abbrev pub on_talk : Bool → Talk → Option Reply → Going
on_talk true talk told = talk_goes talk told
on_talk false talk told = Comes (Replied (so_far told))

-- a list of locks is told this
abbrev pub on_list : List (List ℕ) → ℕ → List ℕ → Option Reply → Going
on_list names home text (Some (Locks rows more)) =
    cond (is_more rows more) (Goes (Listing home (last_row rows) (text ++ lock_texts names rows))) (Comes (Written (text ++ lock_texts names rows)))
on_list names home text told = Comes (Replied (so_far told))

-- a command is told this at a stage; these are its operations, if it makes one or two
abbrev pub goes_on : List (List ℕ) → Option (List Op) → Stage → Option Reply → Going
goes_on names list Between told = Goes Between
goes_on names list First told = on_first (is_granted told) (second_of list) told
goes_on names list (Second first) told = on_second first told
goes_on names list (Talking talk) told = on_talk (may_be (talk_asks talk) told) talk told
goes_on names list (Listing home after text) told = on_list names home text told

-- the operation that is asked for there
abbrev pub op_in : Option (List Op) → Stage → Option Op
op_in list Between = None
op_in list First = first_of list
op_in list (Second first) = second_of list
op_in list (Talking talk) = talk_asks talk
op_in list (Listing home after text) = Some (ops.List home after)

-- what is wanted there: before a command its phase
abbrev pub want_by : Option Op → Want
want_by None = Done
want_by (Some op) = Do op

abbrev pub want_in : Part → State → Job → Stage → Want
want_in part at job Between = cond (nat_lt at.phase job.phase) Phase Done
want_in part at job stage = want_by (op_in (ops_at part at job) stage)

-- what is wanted with these commands left
abbrev pub want_left : Part → State → List Job → Want
want_left part at [] = Done
want_left part at (job ∷ jobs) = want_in part at job at.stage

-- what a process wants where it stands
abbrev pub want_of : Part → State → Want
want_of part at = want_left part at (left part at)

-- a command has come to this
abbrev pub rebind_if : Option (List ℕ × ObjectName) → Rows → Rows
rebind_if None rows = rows
rebind_if (Some (var, u)) rows = rebound var u rows

abbrev pub finished : Part → State → Command → Outcome → State
finished part at command outcome = record {
  phase = at.phase;
  bound = rebind_if (bound_by command outcome) at.bound;
  working = working_after part at.working command outcome;
  stage = Between;
  answers = at.answers ++ outcome_text part at.working command outcome ∷ [];
}

-- it stands at this stage of its next command
abbrev pub at_stage : State → Stage → State
at_stage at stage = record { phase = at.phase; bound = at.bound; working = at.working; stage = stage; answers = at.answers }

abbrev pub on_going : Going → State → (Outcome → State) → State
on_going (Goes stage) at end = at_stage at stage
on_going (Comes outcome) at end = end outcome

-- commands of this phase are begun, up to the first that asks for an operation
abbrev pub settle : Part → State → List Job → State
settle part at [] = at
settle part at (job ∷ jobs) =
    cond (nat_lt at.phase job.phase) at (on_going (begins part at.working (object_at_job at job) job.command) at (λ outcome. settle part (finished part at job.command outcome) jobs))

-- where a process stands that is within no command, or within one
abbrev pub settled_at : Part → State → Stage → State
settled_at part at Between = settle part at (left part at)
settled_at part at stage = at

abbrev pub settled : Part → State → State
settled part at = settled_at part at at.stage

-- the next phase
abbrev pub next_phase : State → State
next_phase at = record { phase = at.phase + 1; bound = at.bound; working = at.working; stage = at.stage; answers = at.answers }

-- a process with these commands left is told this: that its next phase begins, where it waits for one, else a reply
abbrev pub heard_at : Part → State → Job → Stage → Option Reply → State
heard_at part at job Between told = next_phase at
heard_at part at job stage told = on_going (goes_on part.names (ops_at part at job) stage told) at (finished part at job.command)

abbrev pub hear : Part → State → List Job → Option Reply → State
hear part at [] told = at
hear part at (job ∷ jobs) told = heard_at part at job at.stage told

-- a process is told this, and comes to the next command that asks for an operation
abbrev pub step : Part → State → Option Reply → State
step part at told = settled part (hear part at (left part at) told)
