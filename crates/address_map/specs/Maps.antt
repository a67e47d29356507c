-- The address space of a process.
use Rattle.std.specs.Prelude.{ℕ, ◌+◌, ◌*◌, ◌≤◌, nat_le, Bool, true, false, Option, Some, None, List, [], ◌∷◌, ◌++◌, length, All, AllPairs, IsTrue, ◌≡◌, Result, Ok, Err}
use Rattle.uid_names.specs.Names.{ObjectName}
use Rattle.uid_names.specs.declared.segment.TheConstants.{SEGMENTS, SEGMENT_SIZE}
use Rattle.uid_names.specs.declared.limits.TheConstants.{PROCESS_MAPPINGS}
use Rattle.address_map.specs.declared.mapping.Mapping.{Mapping}
use Rattle.address_map.specs.declared.map.MapRefusal.{MapRefusal}
use Rattle.address_map.specs.declared.map.MapRefusal.TheVariants.{TooManyMaps, NoSegment}
use Rattle.address_map.specs.Mappings.{address_of, is_of, mapping_of}
use Rattle.address_map.specs.Runs.{is_apart, lowest_run}

-- a mapping takes a segment or more, all of the address space
pub record IsMapping (m : Mapping) : Type 0 where
  pub some : 1 ≤ m.segments
  pub within : m.first + m.segments ≤ SEGMENTS

-- what the mappings of a process keep: they are few, no two take one segment, and no object is mapped twice
pub record IsLayout (mappings : List Mapping) : Type 0 where
  pub few : length mappings ≤ PROCESS_MAPPINGS
  pub each : All IsMapping mappings
  pub apart : AllPairs (λ m n. IsTrue (is_apart n.segments n.first m)) mappings
  pub once : AllPairs (λ m n. is_of n.uid m ≡ false) mappings

-- there is no place for one more
abbrev pub is_full : List Mapping → Bool
is_full mappings = nat_le PROCESS_MAPPINGS (length mappings)

-- the answer to a call that maps an object, by its mapping, whether there are too many, and the lowest run
abbrev pub map_answer : Option Mapping → Bool → Option ℕ → Result (ℕ × Bool) MapRefusal
map_answer (Some m) full run = Ok (address_of m, false)
map_answer None true run = Err TooManyMaps
map_answer None false None = Err NoSegment
map_answer None false (Some first) = Ok (first * SEGMENT_SIZE, true)

-- the mappings after it: a fresh one is the last
abbrev pub mappings_after : ObjectName → ℕ → Option Mapping → Bool → Option ℕ → List Mapping → List Mapping
mappings_after u count (Some m) full run mappings = mappings
mappings_after u count None true run mappings = mappings
mappings_after u count None false None mappings = mappings
mappings_after u count None false (Some first) mappings = mappings ++ record { uid = u; first = first; segments = count } ∷ []

-- the mappings after u is mapped
abbrev pub with_mapping : ObjectName → ℕ → List Mapping → List Mapping
with_mapping u count mappings = mappings_after u count (mapping_of u mappings) (is_full mappings) (lowest_run count mappings) mappings
