-- What a script gives one process to do.
use Rattle.std.specs.Prelude.{ℕ, ◌≡◌, Bool, true, false, cond, Option, Some, None, List, [], ◌∷◌, map, filter, codes}
use Rattle.uid_names.specs.Names.{ProcName, ObjectName, same_proc}
use Rattle.script_reader.specs.declared.command.Command.{Command}
use Rattle.script_reader.specs.declared.command.Command.TheVariants.{Wd, Llkob}
use Rattle.script_reader.specs.Arguments.{Given, Var}
use Rattle.script_reader.specs.Commands.{arguments_of}
use Rattle.script_reader.specs.declared.script.CommandRow.{CommandRow}
use Rattle.script_reader.specs.declared.script.SubjectRow.{SubjectRow}
use Rattle.command_talks.specs.declared.check.Subject.{Subject}
use Rattle.script_reader.specs.Scripts.{Content}
use Rattle.script_reader.specs.Variables.{declared_object}
use Rattle.command_talks.specs.Commands.{talks}
use Rattle.aegis_shell.specs.Bound.{Bound}

-- the variable on whose object a command works: the first argument that is one which its process knows
abbrev pub var_of : List Given → Option (List ℕ)
var_of [] = None
var_of (Var name ∷ rest) = Some name
var_of (_ ∷ rest) = var_of rest

abbrev pub variable : Command → Option (List ℕ)
variable command = var_of (arguments_of command)

-- a command is done by names, of files or others, or by lists of locks
abbrev pub is_of_names : Command → Bool
is_of_names (Wd path) = true
is_of_names (Llkob node) = true
is_of_names command = talks command

-- the object of a variable, where there is one
abbrev pub object_in : Bound → Option (List ℕ) → Option ObjectName
object_in bound None = None
object_in bound (Some var) = bound var

-- a command with its phase, and with the declared object on which it works, if it works on one
pub record Job : Type 0 where
  pub phase : ℕ
  pub command : Command
  pub declared : Option ObjectName

abbrev pub job_of : Bound → CommandRow → Job
job_of declared row = record { phase = row.phase; command = row.command; declared = object_in declared (variable row.command) }

-- who a process is: as its line says, or one of no name
abbrev pub nobody : Subject
nobody = record { person = codes "user"; project = codes "none" }

abbrev pub subject_of : SubjectRow → Subject
subject_of row = record { person = row.person; project = row.project }

abbrev pub subject_in : List SubjectRow → ProcName → Subject
subject_in [] p = nobody
subject_in (row ∷ rows) p = cond (same_proc row.proc p) (subject_of row) (subject_in rows p)

-- where access lists are in force
abbrev pub guard_of : Content → ProcName → Option Subject
guard_of s p = cond s.access (Some (subject_in s.subjects p)) None

-- what a process needs of a script: its node, the names of all nodes, who it is where access lists are in force, and its own
-- commands in order
pub record Part : Type 0 where
  pub node : ℕ
  pub names : List (List ℕ)
  pub guard : Option Subject
  pub jobs : List Job

abbrev pub jobs_of : Content → ProcName → List Job
jobs_of s p = map (job_of (declared_object s.objects)) (filter (λ row. same_proc row.proc p) s.commands)

abbrev pub part_of : Content → ProcName → Part
part_of s p = record { node = p.node; names = map (λ n. n.name) s.nodes; guard = guard_of s p; jobs = jobs_of s p }

-- one thing or else another
abbrev pub or_else : Option ObjectName → Option ObjectName → Option ObjectName
or_else (Some u) other = Some u
or_else None other = other

-- the object on which a job works: the declared one, or else the one that its process bound
abbrev pub object_of : Job → Bound → Option ObjectName
object_of job bound = or_else job.declared (object_in bound (variable job.command))

-- a job that is done neither by names nor by lists of locks
abbrev pub IsPlain : Job → Type 0
IsPlain job = is_of_names job.command ≡ false
