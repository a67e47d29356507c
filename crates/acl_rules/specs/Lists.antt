-- Access lists, and how they are written.
use Rattle.std.specs.Prelude.{ℕ, ◌≤◌, ◌==◌, nat_le, cond, Option, Some, None, List, [], ◌∷◌, ◌++◌, length}
use Rattle.std.specs.List.{AllByRecursion}
use Rattle.dir_records.specs.Wholes.{before}
use Rattle.acl_rules.specs.Entries.{IsEntry, entry_of, line_of}
use Rattle.acl_rules.specs.declared.entry.Entry.{Entry}
use Rattle.acl_rules.specs.declared.entry.TheConstants.{MOST_ENTRIES}
use Rattle.acl_rules.specs.declared.read.TheConstants.{LIST_BYTES}

-- a byte before the first of some lines; there is none where no line is ended behind it
abbrev pub onto_line : ℕ → Option (List (List ℕ)) → Option (List (List ℕ))
onto_line b None = None
onto_line b (Some []) = None
onto_line b (Some (line ∷ lines)) = Some ((b ∷ line) ∷ lines)

-- the lines of a text, where each of them is ended by LF
unfoldable pub lines_of : List ℕ → Option (List (List ℕ))
lines_of [] = Some []
lines_of (b ∷ rest) = cond (b == 10) (before (Some []) (lines_of rest)) (onto_line b (lines_of rest))

-- the entries of lines, where each line is of one
abbrev pub entries_of : List (List ℕ) → Option (List Entry)
entries_of [] = Some []
entries_of (line ∷ lines) = before (entry_of line) (entries_of lines)

abbrev pub entries_among : Option (List (List ℕ)) → Option (List Entry)
entries_among None = None
entries_among (Some lines) = entries_of lines

abbrev pub entries_in : List ℕ → Option (List Entry)
entries_in text = entries_among (lines_of text)

-- not more than there may be
abbrev pub if_few : Option (List Entry) → Option (List Entry)
if_few None = None
if_few (Some entries) = cond (nat_le (length entries) MOST_ENTRIES) (Some entries) None

-- the list of a text; None where it is bad
abbrev pub list_of : List ℕ → Option (List Entry)
list_of text = cond (nat_le (length text) LIST_BYTES) (if_few (entries_in text)) None

-- how a list is written
abbrev pub list_text : List Entry → List ℕ
list_text [] = []
list_text (e ∷ entries) = line_of e ++ 10 ∷ list_text entries

-- a list that can be written
pub record IsList (entries : List Entry) : Type 0 where
  pub each : AllByRecursion IsEntry entries
  pub few : length entries ≤ MOST_ENTRIES
