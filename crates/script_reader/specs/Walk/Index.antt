-- Variables that were declared or named, after one more was put there.
use Rattle.std.specs.Prelude.{ℕ, ◌≡◌, ◌+◌, ◌-◌, ◌*◌, ◌%◌, ◌↔◌, ◌⊎◌, Option, Some, List, [], length, slice_index_or, Contains, if◌then◌else◌}
use Rattle.std.specs.Prelude.{bytes_eq}
use Rattle.uid_names.specs.Names.{ObjectName}
use Rattle.script_reader.specs.Variables.{declared_object}
use Rattle.script_reader.specs.declared.script.VarRow.{VarRow}

-- new has what old has, and this
abbrev pub HasAlso : List (List ℕ) → List (List ℕ) → List ℕ → Type 0
HasAlso old new var = (q : List ℕ) → Contains new q ↔ (Contains old q ⊎ (var ≡ q))

-- the list of rows in which a variable stands, if it is declared: by its last two bytes
abbrev pub list_of : List ℕ → ℕ
list_of var = (slice_index_or var (length var - 1) 0 + 10 * slice_index_or var (length var - 2) 0) % 64

-- the object that a variable has in its list
abbrev pub listed_object : List (List VarRow) → List ℕ → Option ObjectName
listed_object lists var = declared_object (slice_index_or lists (list_of var) []) var

-- new has this object at the variable, and elsewhere what old has
abbrev pub DeclaresAlso : List (List VarRow) → List (List VarRow) → List ℕ → ObjectName → Type 0
DeclaresAlso old new var uid = (q : List ℕ) → listed_object new q ≡ (if bytes_eq var q then Some uid else listed_object old q)

-- lists in which each variable has the object that it has in these rows
abbrev pub HoldsDeclared : List (List VarRow) → List VarRow → Type 0
HoldsDeclared lists objects = (var : List ℕ) → listed_object lists var ≡ declared_object objects var
