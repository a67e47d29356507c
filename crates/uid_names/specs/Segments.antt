-- Segments of an address space, and runs of free ones.
use Rattle.std.specs.Prelude.{ℕ, ◌+◌, ◌-◌, ◌*◌, ◌/◌, nat_le, nat_lt, Bool, ◌&&◌, ◌||◌, Option, List, find}
use Rattle.std.specs.List.{list_all, range_with_len}
use Rattle.uid_names.specs.declared.segment.TheConstants.{SEGMENTS, SEGMENT_SIZE}

-- how many segments of 32 pages an object of this room takes
abbrev pub segments : ℕ → ℕ
segments room = (room + 31) / 32

-- the addresses that a mapping takes: from its first segment to behind its last one
pub record Stretch : Type 0 where
  pub low : ℕ
  pub high : ℕ

-- the address lies in the stretch
abbrev pub lies_in : ℕ → Stretch → Bool
lies_in a s = nat_le s.low a && nat_lt a s.high

-- the stretch takes none of the count segments from first on
abbrev pub is_apart : ℕ → ℕ → Stretch → Bool
is_apart count first s = nat_le ((first + count) * SEGMENT_SIZE) s.low || nat_le s.high (first * SEGMENT_SIZE)

-- the count segments from first on are there, and no stretch takes one
abbrev pub is_free_run : ℕ → ℕ → List Stretch → Bool
is_free_run count first taken = nat_le (first + count) SEGMENTS && list_all (is_apart count first) taken

-- where a run may begin: a and so on below 256
unfoldable pub starts_from : ℕ → List ℕ
starts_from a = range_with_len a (SEGMENTS - a)

-- the lowest run of so many free segments: the first that is free of those from 0, 1 and so on
abbrev pub lowest_run : ℕ → List Stretch → Option ℕ
lowest_run count taken = find (λ first. is_free_run count first taken) (starts_from 0)
