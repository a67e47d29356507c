-- Why bytes are refused.
use Rattle.std.specs.Prelude.{ℕ, List}
use Rattle.journal_text.specs.Written.{IsBadLine}
use Rattle.journal_text.specs.declared.reading.JournalFault.{JournalFault}
use Rattle.journal_text.specs.declared.reading.JournalFault.TheVariants.{BadLine, NoMemory}

-- this line is the first bad one, or there was no memory
abbrev pub IsRefusal : List (List ℕ) → List ℕ → JournalFault → Type 0
IsRefusal names bytes (BadLine n) = IsBadLine names bytes n
IsRefusal names bytes NoMemory = Unit {0}
