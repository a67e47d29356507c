-- What each field of a line says.
use Rattle.std.specs.Prelude.{ℕ, ◌+◌, ◌/◌, ◌%◌, ◌^◌, nat_le, nat_lt, Bool, ◌&&◌, if◌then◌else◌, Option, Some, None, Result, Ok, Err, List, [], ◌∷◌}
use Rattle.std.specs.Prelude.{bytes_eq}
use Rattle.uid_names.specs.Texts.{text_of}
use Rattle.std.specs.Int.{w64, from_be_bytes}
use Rattle.hex.specs.Hex.{decode_sized}
use Rattle.hex.specs.declared.error.FromHexError.{FromHexError}
use Rattle.uid_names.specs.Names.{ObjectName}
use Rattle.uid_names.specs.FrameKinds.{kind_of_name}
use Rattle.uid_names.specs.declared.limits.TheConstants.{MAX_NODES, NODE_PROCESSES}
use Rattle.uid_names.specs.declared.frame_kind.FrameKind.{FrameKind}
use Rattle.dom_text.specs.Cuts.{cut_at}
use Rattle.dom_text.specs.Numbers.{number_spelled}
use Rattle.uid_names.specs.Steps.{◌>>=◌}
use Rattle.dom_history.specs.EndWords.{end_of_word}
use Rattle.dom_history.specs.declared.end_word.EndWord.{EndWord}

abbrev pub node_from : ℕ → List (List ℕ) → List ℕ → Option ℕ
node_from n [] word = None
node_from n (name ∷ names) word = if bytes_eq name word then Some n else node_from (n + 1) names word

-- the node that has this name
unfoldable pub node_of : List (List ℕ) → List ℕ → Option ℕ
node_of names word = node_from 1 names word

abbrev pub passing : (ℕ → Bool) → ℕ → Option ℕ
passing test n = if test n then Some n else None

-- a number of 32 bits
unfoldable pub number32_of : List ℕ → Option ℕ
number32_of word = number_spelled word >>= passing (λ n. nat_lt n 4294967296)

-- the number of a process
unfoldable pub proc_of : List ℕ → Option ℕ
proc_of word = number_spelled word >>= passing (λ n. nat_le 1 n && nat_le n NODE_PROCESSES)

abbrev pub is_name : ObjectName → Bool
is_name u = (nat_le 1 u.counter && nat_lt u.counter (2 ^ 44)) && (nat_le 1 u.home && nat_le u.home MAX_NODES)

abbrev pub uid_from : List ℕ → ObjectName → Option ObjectName
uid_from word u = if is_name u && bytes_eq (text_of u) word then Some u else None

abbrev pub uid_in : List ℕ → Result (List ℕ) FromHexError → Option ObjectName
uid_in word (Err e) = None
uid_in word (Ok bytes) = uid_from word (record { counter = from_be_bytes w64 bytes / 2 ^ 20; home = from_be_bytes w64 bytes % 2 ^ 20 })

-- the object that has this text
unfoldable pub uid_of : List ℕ → Option ObjectName
uid_of word = uid_in word (decode_sized word 8)

-- the kind of this name
unfoldable pub kind_of : List ℕ → Option FrameKind
kind_of word = kind_of_name word

-- the word of an end
unfoldable pub end_of : List ℕ → Option EndWord
end_of word = end_of_word word

-- a node, and a number behind it
unfoldable pub numbered_of : List (List ℕ) → List ℕ → Option (ℕ × ℕ)
numbered_of names text = do
  parts ← cut_at 32 text
  node ← node_of names parts.0
  number ← number_spelled parts.1
  Some (node, number)
