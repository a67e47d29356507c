-- The entries of access lists, and how they are written.
use Rattle.std.specs.Prelude.{◌≡◌, ℕ, true, if◌then◌else◌, Option, Some, None, List, ◌∷◌, ◌++◌, bytes_eq, codes}
use Rattle.dom_text.specs.Cuts.{cut_at}
use Rattle.dom_text.specs.NameWords.{is_name}
use Rattle.acl_rules.specs.RightTexts.{rights_of, rights_text}
use Rattle.acl_rules.specs.declared.entry.Entry.{Entry}
use Rattle.acl_rules.specs.declared.entry.Who.{Who}
use Rattle.acl_rules.specs.declared.entry.Who.TheVariants.{Each, Named}
use Rattle.acl_rules.specs.declared.rights.Rights.{Rights}

-- whom a word stands for: `%` for everybody, a name for the one of that name
abbrev pub who_of : List ℕ → Option Who
who_of word = if bytes_eq word (codes "%") then Some Each else if is_name word then Some (Named word) else None

-- a line is cut at its space, and what stands before that at its dot
abbrev pub entry_with : Option Who → Option Who → Rights → Option Entry
entry_with None project x = None
entry_with (Some person) None x = None
entry_with (Some person) (Some project) x = Some (record { person = person; project = project; rights = x })

abbrev pub with_rights : List ℕ → List ℕ → Option Rights → Option Entry
with_rights person project None = None
with_rights person project (Some x) = entry_with (who_of person) (who_of project) x

abbrev pub with_subject : List ℕ → Option (List ℕ × List ℕ) → Option Entry
with_subject letters None = None
with_subject letters (Some parts) = with_rights parts.0 parts.1 (rights_of letters)

abbrev pub with_letters : Option (List ℕ × List ℕ) → Option Entry
with_letters None = None
with_letters (Some parts) = with_subject parts.1 (cut_at 46 parts.0)

abbrev pub entry_of : List ℕ → Option Entry
entry_of line = with_letters (cut_at 32 line)

-- how an entry is written: its line
abbrev pub who_text : Who → List ℕ
who_text Each = codes "%"
who_text (Named name) = name

abbrev pub line_of : Entry → List ℕ
line_of e = (who_text e.person ++ 46 ∷ who_text e.project) ++ 32 ∷ rights_text e.rights

-- its names are names
abbrev pub IsWho : Who → Type 0
IsWho Each = Unit {0}
IsWho (Named name) = is_name name ≡ true

pub record IsEntry (e : Entry) : Type 0 where
  pub person : IsWho e.person
  pub project : IsWho e.project
