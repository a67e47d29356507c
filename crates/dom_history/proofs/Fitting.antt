-- What the tests of replies say of numbers, and the tests where that holds.
use Rattle.std.proofs.Common.{◌≡◌, ◌≤◌, ◌<◌, ◌*◌, ◌%◌, ℕ, Bool, true, List, length, rules}
use Rattle.std.specs.Prelude.{◌==◌, nat_lt}
use Rattle.std.proofs.lemmas.Bool.{and_from, eq-eqb, lt-ltb}
use Rattle.uid_names.specs.Rooms.{IsLength}
use Rattle.uid_names.specs.declared.lock_row.LockRow.{LockRow}
use Rattle.uid_names.specs.declared.limits.TheConstants.{LISTED_ROWS, MAX_LENGTH}
use Rattle.uid_names.specs.declared.segment.TheConstants.{SEGMENT_SIZE, SEGMENTS}
use Rattle.uid_names.proofs.Passed.{left-true, right-true, equal, le-passes}
use Rattle.dom_history.specs.declared.op.Spot.{Spot}
use Rattle.dom_history.specs.declared.op.Reply.TheVariants.{Bytes, Size, At, Locks}
use Rattle.dom_history.specs.Fitting.{is_load_reply, is_length_reply, is_map_reply, is_list_reply}

-- as many bytes as were asked for
pub fits-bytes : (spot : Spot) (n : ℕ) (bytes : List ℕ) → length bytes ≡ n → is_load_reply spot n (Bytes bytes) ≡ true
fits-bytes spot n bytes h = eq-eqb (length bytes) n h

-- a length that an object can have
pub size-fits : (n : ℕ) → is_length_reply (Size n) ≡ true → IsLength n
size-fits n h = search (rules, h)

pub fits-size : (n : ℕ) → IsLength n → is_length_reply (Size n) ≡ true
fits-size n h = le-passes n MAX_LENGTH h

-- the address of a segment
pub at-fits : (address : ℕ) (fresh : Bool) → is_map_reply (At address fresh) ≡ true → (address % SEGMENT_SIZE ≡ 0) × (address < SEGMENTS * SEGMENT_SIZE)
at-fits address fresh h = (
  equal (address % SEGMENT_SIZE) 0 (left-true (address % SEGMENT_SIZE == 0) (nat_lt address (SEGMENTS * SEGMENT_SIZE)) h),
  search (rules, right-true (address % SEGMENT_SIZE == 0) (nat_lt address (SEGMENTS * SEGMENT_SIZE)) h),
)

pub fits-at : (address : ℕ) (fresh : Bool) → address % SEGMENT_SIZE ≡ 0 → address < SEGMENTS * SEGMENT_SIZE → is_map_reply (At address fresh) ≡ true
fits-at address fresh h k = and_from (address % SEGMENT_SIZE == 0) (nat_lt address (SEGMENTS * SEGMENT_SIZE)) (eq-eqb (address % SEGMENT_SIZE) 0 h) (lt-ltb address (SEGMENTS * SEGMENT_SIZE) k)

-- as many rows as a list has at most
pub fits-locks : (rows : List LockRow) (more : Bool) → length rows ≤ LISTED_ROWS → is_list_reply (Locks rows more) ≡ true
fits-locks rows more h = le-passes (length rows) LISTED_ROWS h
