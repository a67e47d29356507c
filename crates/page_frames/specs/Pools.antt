-- What contracts see of a pool of frames: its size, and the frames that are taken.
use Rattle.std.specs.Prelude.{ℕ, ◌-◌, ◌≤◌, false, List, [], Option, IsSome, unwrap_or}
use Rattle.std.specs.Ordering.{nat_cmp}
use Rattle.std.specs.FinMap as map
use Rattle.page_frames.specs.declared.frame.Flags.{Flags}
use Rattle.page_frames.specs.declared.frame.TheConstants.{FEWEST_FRAMES, MOST_FRAMES}

-- what a taken frame holds: the bytes of a page, and its flags
pub record Frame : Type 0 where
  pub bytes : List ℕ
  pub flags : Flags

-- how many frames there are, and the taken ones by their numbers
pub record Pool : Type 0 where
  pub count : ℕ
  pub taken : map.FinMap nat_cmp Frame

-- no flag is set
abbrev pub no_flags : Flags
no_flags = record { dirty = false; sent = false; transit = false }

-- what the frame of a number holds, where it is taken
abbrev pub frame_at : Pool → ℕ → Option Frame
frame_at p number = map.get p.taken number

-- the frame is taken
abbrev pub IsTaken : Pool → ℕ → Type 0
IsTaken p number = IsSome (frame_at p number)

-- what a taken frame holds
abbrev pub frame_in : Pool → ℕ → Frame
frame_in p number = unwrap_or (frame_at p number) (record { bytes = []; flags = no_flags })

-- how many frames are free
abbrev pub free_count : Pool → ℕ
free_count p = p.count - map.len p.taken

-- the pool in which this frame is taken and holds this
abbrev pub with_frame : Pool → ℕ → Frame → Pool
with_frame p number f = record p { taken = map.insert p.taken number f }

-- the pool in which this frame is free
abbrev pub without_frame : Pool → ℕ → Pool
without_frame p number = record p { taken = map.remove p.taken number }

-- the pool in which this frame holds other bytes
abbrev pub with_bytes : Pool → ℕ → List ℕ → Pool
with_bytes p number bytes = with_frame p number (record (frame_in p number) { bytes = bytes })

-- the pool in which this frame has other flags
abbrev pub with_flags : Pool → ℕ → Flags → Pool
with_flags p number flags = with_frame p number (record (frame_in p number) { flags = flags })

-- what each pool keeps: no fewer frames than the fewest and no more than the most, and no more of them taken than
-- there are
pub record IsPool (p : Pool) : Type 0 where
  pub few : FEWEST_FRAMES ≤ p.count
  pub many : p.count ≤ MOST_FRAMES
  pub within : map.len p.taken ≤ p.count
