-- The answers of a script's processes, as a history has them.
use Rattle.std.specs.Prelude.{ℕ, ◌+◌, ◌≡◌, List, ◌∷◌, ◌++◌, length}
use Rattle.uid_names.specs.Names.{ProcName}
use Rattle.dom_history.specs.declared.op.Entry.{Entry}
use Rattle.dom_history.specs.Follows.{Heard}
use Rattle.dom_history.specs.Histories.{History}
use Rattle.script_reader.specs.Scripts.{Content}
use Rattle.aegis_shell.specs.Asking.{ask, answers}
use Rattle.aegis_shell.specs.Work.{jobs_of}
use Rattle.run_laws.specs.HeardOf.{own_entries, heard_of}

-- what a process heard behind these entries of its own
abbrev pub heard_behind : Content → ProcName → List Entry → Heard
heard_behind s p past = heard_of (ask s p) s.phases past

-- the command for which it asks then, counted from 1: one behind those that have their answers
abbrev pub command_behind : Content → ProcName → List Entry → ℕ
command_behind s p past = length (answers s p (heard_behind s p past)) + 1

-- what each process heard, as a history has it
abbrev pub heard_as : Content → History → ProcName → Heard
heard_as s h p = heard_behind s p (own_entries h p)

-- it holds of each entry of a process, and of those before it
abbrev pub OfEachEntry : History → ProcName → (List Entry → Entry → Type 0) → Type 0
OfEachEntry h proc P = (newer past : List Entry) (e : Entry) → own_entries h proc ≡ newer ++ e ∷ past → P past e

-- each process has exactly one answer for each of its commands
abbrev pub AreAllAnswered : Content → History → Type 0
AreAllAnswered s h = (p : ProcName) → length (answers s p (heard_as s h p)) ≡ length (jobs_of s p)
