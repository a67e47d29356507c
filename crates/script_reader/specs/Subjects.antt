-- The subjects of processes.
use Rattle.std.specs.Prelude.{◌≤◌, ℕ, Bool, List}
use Rattle.std.specs.List.{list_any}
use Rattle.uid_names.specs.Names.{ProcName, same_proc}
use Rattle.uid_names.specs.NameTexts.{IsNameText}
use Rattle.dom_history.specs.Ranges.{IsProcName}
use Rattle.script_reader.specs.declared.script.SubjectRow.{SubjectRow}

-- a process has a row
abbrev pub has_subject : List SubjectRow → ProcName → Bool
has_subject rows proc = list_any (λ row. same_proc row.proc proc) rows

-- a row belongs to a process of a node, and its names are names
pub record IsSubjectRow (nodes : ℕ) (row : SubjectRow) : Type 0 where
  pub proc : IsProcName row.proc
  pub node : row.proc.node ≤ nodes
  pub person : IsNameText row.person
  pub project : IsNameText row.project
