-- Runs of segments that mappings leave free.
use Rattle.std.specs.Prelude.{ℕ, Bool, Option, List, map}
use Rattle.uid_names.specs.Segments.{is_apart as is_apart_from, is_free_run as is_free_among, lowest_run as lowest_among}
use Rattle.address_map.specs.declared.mapping.Mapping.{Mapping}
use Rattle.address_map.specs.Mappings.{stretch_of}

-- the mapping takes none of the count segments from first on
abbrev pub is_apart : ℕ → ℕ → Mapping → Bool
is_apart count first m = is_apart_from count first (stretch_of m)

-- the count segments from first on are there, and no mapping takes one
abbrev pub is_free_run : ℕ → ℕ → List Mapping → Bool
is_free_run count first mappings = is_free_among count first (map stretch_of mappings)

-- the lowest run of so many segments that no mapping takes
abbrev pub lowest_run : ℕ → List Mapping → Option ℕ
lowest_run count mappings = lowest_among count (map stretch_of mappings)
