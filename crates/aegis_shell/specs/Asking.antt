-- What a process asks and is answered, as functions of all that it heard.
use Prim.Native.Nat.{zero}
use Rattle.std.specs.Prelude.{ℕ, suc, ◌-◌, max, Bool, true, false, ◌&&◌, cond, is_some, Option, Some, None, List, [], ◌∷◌, ◌++◌, reverse, codes}
use Rattle.uid_names.specs.Names.{ObjectName, ProcName}
use Rattle.uid_names.specs.declared.lock_row.LockRow.{LockRow}
use Rattle.dom_history.specs.Fitting.{can_have}
use Rattle.dom_history.specs.declared.op.Op.{Op}
use Rattle.dom_history.specs.declared.op.Op.TheVariants as ops
use Rattle.dom_history.specs.declared.op.Reply.{Reply}
use Rattle.dom_history.specs.declared.op.Reply.TheVariants.{Fine, Locks}
use Rattle.dom_history.specs.declared.op.Want.{Want}
use Rattle.dom_history.specs.declared.op.Want.TheVariants.{Do, Phase, Done}
use Rattle.dom_history.specs.Follows.{Heard}
use Rattle.script_reader.specs.declared.command.Command.{Command}
use Rattle.script_reader.specs.Scripts.{Content}
use Rattle.command_talks.specs.Commands.{dialogue_for}
use Rattle.command_talks.specs.Dialogues.{Dialogue, Ends as Over, Asks as Asking}
use Rattle.command_talks.specs.declared.outcome.Outcome.{Outcome}
use Rattle.command_talks.specs.declared.outcome.Outcome.TheVariants.{Replied, Written}
use Rattle.aegis_shell.specs.Work.{Job, Part, part_of, object_of}
use Rattle.aegis_shell.specs.Standing.{Standing, site_of, first_standing}
use Rattle.aegis_shell.specs.Plans.{Plan, Makes, Talks, Lists, Writes, plan_of}
use Rattle.aegis_shell.specs.RangeTests.{is_op, is_row}
use Rattle.aegis_shell.specs.Outcomes.{outcome_text, standing_after, lock_texts}
use Rattle.aegis_shell.specs.AnswerTexts.{is_done, together, so_far}

-- what a process is told after its first call, in order: a reply, or nothing after a phase
abbrev pub Told : Type 0
Told = List (Option Reply)

-- how far a process comes: what it wants, and the answers that it has got
pub record Reached : Type 0 where
  pub want : Want
  pub answers : List (List ℕ)

-- it waits
abbrev pub waits : Want → Reached
waits want = record { want = want; answers = [] }

-- it has one answer more, before the others
abbrev pub answered : List ℕ → Reached → Reached
answered text further = record { want = further.want; answers = text ∷ further.answers }

-- what is told behind so many phases; None where the process still has some to pass
abbrev pub behind_phases : ℕ → Told → Option Told
behind_phases zero told = Some told
behind_phases (suc n) [] = None
behind_phases (suc n) (_ ∷ told) = behind_phases n told

-- how far a command comes: it asks for an operation, or it comes to its end
pub data Course : Type 0 where
  Asks : (op : Op) → Course
  Ends : (outcome : Outcome) → (told : Told) → Course

-- behind a reply: on with the operations that are left, or to the end where this one was refused
abbrev pub on_reply : Bool → Reply → Told → Course → Course
on_reply true reply told further = further
on_reply false reply told further = Ends (Replied reply) told

-- operations one after another, up to the first that is refused; the replies of the others count together.
-- An operation is always told a reply; were it told nothing, it would count as done
abbrev pub carry_out : Reply → List Op → Told → Course
carry_out earlier [] told = Ends (Replied earlier) told
carry_out earlier (op ∷ list) [] = Asks op
carry_out earlier (op ∷ list) (None ∷ told) = carry_out earlier list told
carry_out earlier (op ∷ list) (Some reply ∷ told) = on_reply (is_done reply) reply told (carry_out (together earlier reply) list told)

-- a dialogue, to its outcome. What it asks for is always in its ranges, and is told a reply that it can have;
-- were it not so, the command would end there
abbrev pub on_said : Bool → Option Reply → Told → Course → Course
on_said true last told further = further
on_said false last told further = Ends (Replied (so_far last)) told

abbrev pub converse : Dialogue → Told → Course
converse (Over outcome) told = Ends outcome told
converse (Asking op further) [] = cond (is_op op) (Asks op) (Ends (Replied Fine) [])
converse (Asking op further) (None ∷ told) = cond (is_op op) (Ends (Replied Fine) told) (Ends (Replied Fine) (None ∷ told))
converse (Asking op further) (Some reply ∷ told) =
    cond (is_op op) (on_said (can_have op reply) (Some reply) told (converse (further reply) told)) (Ends (Replied Fine) (Some reply ∷ told))

-- the object and the process of the last of these rows
abbrev pub last_row : List LockRow → Option (ObjectName × ProcName)
last_row [] = None
last_row (row ∷ []) = cond (is_row row) (Some (row.uid, row.proc)) None
last_row (_ ∷ rows) = last_row rows

-- a list of locks goes on behind rows where there are more, and some were told
abbrev pub is_more : List LockRow → Bool → Bool
is_more rows more = more && is_some (last_row rows)

-- lists of the locks of a home, from a row on; the text grows by the rows of each
abbrev pub list_locks : List (List ℕ) → ℕ → Option (ObjectName × ProcName) → List ℕ → Told → Course
list_locks names home after text [] = Asks (ops.List home after)
list_locks names home after text (Some (Locks rows more) ∷ told) =
    cond (is_more rows more) (list_locks names home (last_row rows) (text ++ lock_texts names rows) told) (Ends (Written (text ++ lock_texts names rows)) told)
list_locks names home after text (last ∷ told) = Ends (Replied (so_far last)) told

-- how far a command of this plan comes
abbrev pub carry : Part → Standing → Command → Plan → Told → Course
carry part at command (Makes list) told = carry_out Fine list told
carry part at command Talks told = converse (dialogue_for part.guard (site_of part) at.working.dir command) told
carry part at command (Lists home) told = list_locks part.names home None (codes "ok") told
carry part at command (Writes text) told = Ends (Written text) told

-- the plan of a job
abbrev pub plan_at : Part → Standing → Job → Plan
plan_at part at job = plan_of part at.working (object_of job at.bound) job.command

abbrev pub course_of : Part → Standing → Job → Told → Course
course_of part at job told = carry part at job.command (plan_at part at job) told

-- behind what a command came to
abbrev pub on_course : Part → Command → Standing → (Standing → Told → Reached) → Course → Reached
on_course part command at further (Asks op) = waits (Do op)
on_course part command at further (Ends outcome told) = answered (outcome_text part at.working command outcome) (further (standing_after part command outcome at) told)

-- behind the phases before a command
abbrev pub on_phases : (Told → Reached) → Option Told → Reached
on_phases further None = waits Phase
on_phases further (Some told) = further told

-- how far these jobs come that begin in this phase and where the process stands so
abbrev pub reach : Part → ℕ → Standing → List Job → Told → Reached
reach part phase at [] told = waits Done
reach part phase at (job ∷ jobs) told =
    on_phases
    (λ told. on_course part job.command at (λ at told. reach part (max phase job.phase) at jobs told) (course_of part at job told))
    (behind_phases (job.phase - phase) told)

-- how far a process comes with all that it heard, of which the newest stands first
abbrev pub reached : Part → Heard → Reached
reached part heard = reach part 1 (first_standing part) part.jobs (reverse heard)

-- what a process of a script asks
abbrev pub ask : Content → ProcName → Heard → Want
ask s p heard = (reached (part_of s p) heard).want

-- the answers of its finished commands, in order
abbrev pub answers : Content → ProcName → Heard → List (List ℕ)
answers s p heard = (reached (part_of s p) heard).answers
