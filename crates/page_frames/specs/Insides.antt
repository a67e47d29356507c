-- The pool that a slab of flags and a list of pages stand for. It decides nothing that a caller sees: only the
-- bodies and the model of `Frames` speak of it.
use Rattle.std.specs.Prelude.{ℕ, ◌<◌, ◌≤◌, List, [], map, length, slice_index_or}
use Rattle.std.specs.Ordering.{nat_cmp}
use Rattle.std.specs.FinMap.{FinMap, from_entries}
use Rattle.slab.specs.Slab.{Slab, ContainsKey, entries, slab_len}
use Rattle.page_frames.specs.declared.frame.Flags.{Flags}
use Rattle.page_frames.specs.declared.frame.TheConstants.{FEWEST_FRAMES, MOST_FRAMES}
use Rattle.page_frames.specs.Pools.{Frame, Pool}

-- the bytes of the frame of each number, with its flags
abbrev pub frame_of : List (List ℕ) → ℕ → Flags → Frame
frame_of pages number flags = record { bytes = slice_index_or pages number []; flags = flags }

-- the frames that have flags
abbrev pub taken_of : Slab Flags → List (List ℕ) → FinMap nat_cmp Frame
taken_of numbers pages = from_entries (map (λ e. (e.0, frame_of pages e.0 e.1)) (entries numbers))

-- the pool of so many frames
abbrev pub pool_of : ℕ → Slab Flags → List (List ℕ) → Pool
pool_of count numbers pages = record { count = count; taken = taken_of numbers pages }

-- there is room for the flags of all frames, and each taken one has its bytes
pub record IsSound (count : ℕ) (numbers : Slab Flags) (pages : List (List ℕ)) : Type 0 where
  pub few : FEWEST_FRAMES ≤ count
  pub many : count ≤ MOST_FRAMES
  pub within : slab_len numbers ≤ count
  pub room : count ≤ numbers.capacity
  pub paged : numbers.capacity ≤ length pages
  pub keys : (key : ℕ) → ContainsKey numbers key → key < length pages
