-- The source of `check`: a script, a line between, and a journal.
use Rattle.std.specs.Prelude.{ℕ, ◌+◌, ◌≡◌, if◌then◌else◌, Option, Some, None, List, [], ◌∷◌, length, take, drop, codes, bytes_eq, option_map}
use Rattle.script_reader.specs.Grammar.{raw_lines}

-- the line between
abbrev pub parting : List ℕ
parting = codes "--- journal"

-- how many bytes stand in front of the first of these lines that is the line between, as it stands; each line in front of it is ended by LF
unfoldable pub bytes_before : List (List ℕ) → Option ℕ
bytes_before [] = None
bytes_before (line ∷ lines) = if bytes_eq line parting then Some 0 else option_map (λ n. length line + 1 + n) (bytes_before lines)

-- the bytes are parted at the first line between: these stand in front of it, and these behind it and its LF, which it may lack as the last line
pub record IsParted (bytes front behind : List ℕ) : Type 0 where
  pub at : ℕ
  pub found : bytes_before (raw_lines bytes) ≡ Some at
  pub front_is : front ≡ take at bytes
  pub behind_is : behind ≡ drop (at + length parting + 1) bytes

-- no line of the bytes is the line between
abbrev pub LacksParting : List ℕ → Type 0
LacksParting bytes = bytes_before (raw_lines bytes) ≡ None
