-- A sink in memory, and what a write to it does.
use Rattle.std.specs.Prelude.{ℕ, ◌-◌, ◌==◌, Bool, true, false, ◌&&◌, ◌||◌, not, List, [], ◌++◌, length, take, min}
use Rattle.dom_io.specs.Calls.{Schedule, next_fails, counted, fresh_schedule}
use Rattle.dom_io.specs.Tooks.{answer_of}
use Rattle.dom_io.specs.declared.outside.Took.{Took}

-- how many bytes it can hold, those that it holds, and the calls
pub record Stock : Type 0 where
  pub room : ℕ
  pub bytes : List ℕ
  pub calls : Schedule

-- a sink that holds nothing
abbrev pub fresh_stock : ℕ → List ℕ → Stock
fresh_stock room fails = record { room = room; bytes = []; calls = fresh_schedule fails }

-- how many more bytes it can hold
abbrev pub free : Stock → ℕ
free sink = sink.room - length sink.bytes

-- whether a write fails: at a listed call, and where a piece that is not empty meets a full sink
abbrev pub write_fails : Stock → List ℕ → Bool
write_fails sink piece = next_fails sink.calls || ((free sink == 0) && not (length piece == 0))

-- how many bytes of a piece a write takes where it does not fail: as many as there are and fit
abbrev pub write_count : Stock → List ℕ → ℕ
write_count sink piece = min (length piece) (free sink)

-- what is held after a write that failed or took so many bytes
abbrev pub held_by : Bool → ℕ → List ℕ → List ℕ → List ℕ
held_by true count held piece = held
held_by false count held piece = held ++ take count piece

-- the answer of a write
abbrev pub write_answer : Stock → List ℕ → Took
write_answer sink piece = answer_of (write_fails sink piece) (write_count sink piece)

-- the sink after a write
abbrev pub write_to : Stock → List ℕ → Stock
write_to sink piece = record {
  room = sink.room;
  bytes = held_by (write_fails sink piece) (write_count sink piece) sink.bytes piece;
  calls = counted (write_fails sink piece) sink.calls;
}
