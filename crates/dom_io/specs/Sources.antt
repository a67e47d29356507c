-- A source in memory, and what a read of it does.
use Rattle.std.specs.Prelude.{ℕ, Bool, true, false, List, ◌++◌, length, take, drop, min}
use Rattle.dom_io.specs.Calls.{Schedule, next_fails, counted, fresh_schedule}
use Rattle.dom_io.specs.Tooks.{answer_of}
use Rattle.dom_io.specs.declared.outside.Took.{Took}

-- the bytes that are left, and the calls
pub record Supply : Type 0 where
  pub left : List ℕ
  pub calls : Schedule

-- a source that nothing was read of
abbrev pub fresh_supply : List ℕ → List ℕ → Supply
fresh_supply bytes fails = record { left = bytes; calls = fresh_schedule fails }

-- how many bytes a read into a buffer takes where it does not fail: as many as fit and are left
abbrev pub read_count : Supply → List ℕ → ℕ
read_count source buffer = min (length buffer) (length source.left)

-- what is left after a read that failed or took so many bytes
abbrev pub left_by : Bool → ℕ → List ℕ → List ℕ
left_by true count left = left
left_by false count left = drop count left

-- the buffer after such a read: the bytes taken, and then what stood there
abbrev pub filled : Bool → ℕ → List ℕ → List ℕ → List ℕ
filled true count left buffer = buffer
filled false count left buffer = take count left ++ drop count buffer

-- the answer of a read
abbrev pub read_answer : Supply → List ℕ → Took
read_answer source buffer = answer_of (next_fails source.calls) (read_count source buffer)

-- the source after a read
abbrev pub read_from : Supply → List ℕ → Supply
read_from source buffer = record {
  left = left_by (next_fails source.calls) (read_count source buffer) source.left;
  calls = counted (next_fails source.calls) source.calls;
}

-- the buffer after a read
abbrev pub read_into : Supply → List ℕ → List ℕ
read_into source buffer = filled (next_fails source.calls) (read_count source buffer) source.left buffer
