-- Marks of names: a name has one, and that of another name is mostly another.
use Rattle.std.specs.Prelude.{ℕ, ◌+◌, ◌*◌, ◌/◌, ◌%◌, ◌^◌, List, take, drop}
use Rattle.std.specs.Int.{w64, from_le_bytes}
use Rattle.dir_records.specs.Components.{filled}

-- eight of these bytes, as a number
abbrev pub word_at : ℕ → List ℕ → ℕ
word_at start bytes = from_le_bytes w64 (take 8 (drop start bytes))

-- a word stirred into what the words before it gave
abbrev pub stirred : ℕ → ℕ → ℕ
stirred before word = ((before + word) % 2 ^ 64 * 11400714819323198485) % 2 ^ 64

-- ten bits of the four words of 32 bytes, stirred
abbrev pub mark_in : List ℕ → ℕ
mark_in bytes = stirred (stirred (stirred (stirred 0 (word_at 0 bytes)) (word_at 8 bytes)) (word_at 16 bytes)) (word_at 24 bytes) / 2 ^ 54

-- a name's mark
abbrev pub mark_of : List ℕ → ℕ
mark_of name = mark_in (filled name)
