-- Mappings: which object stands at which addresses.
use Rattle.std.specs.Prelude.{ℕ, ◌+◌, ◌-◌, ◌*◌, Bool, not, Option, Some, None, List, find, filter}
use Rattle.uid_names.specs.Names.{ObjectName, same_uid}
use Rattle.uid_names.specs.Segments.{Stretch, lies_in as lies_within}
use Rattle.uid_names.specs.declared.segment.TheConstants.{SEGMENT_SIZE}
use Rattle.address_map.specs.declared.mapping.Mapping.{Mapping}

-- the first address of a mapping
abbrev pub address_of : Mapping → ℕ
address_of m = m.first * SEGMENT_SIZE

-- the addresses that a mapping takes
abbrev pub stretch_of : Mapping → Stretch
stretch_of m = record { low = address_of m; high = (m.first + m.segments) * SEGMENT_SIZE }

-- the address lies in the mapping's segments
abbrev pub lies_in : ℕ → Mapping → Bool
lies_in a m = lies_within a (stretch_of m)

-- the mapping is of u
abbrev pub is_of : ObjectName → Mapping → Bool
is_of u m = same_uid u m.uid

-- the mapping of u
abbrev pub mapping_of : ObjectName → List Mapping → Option Mapping
mapping_of u mappings = find (is_of u) mappings

-- the mapping in whose segments the address lies
abbrev pub mapping_at : ℕ → List Mapping → Option Mapping
mapping_at a mappings = find (lies_in a) mappings

-- the object and the offset that the address means in a mapping
abbrev pub target_in : ℕ → Option Mapping → Option (ObjectName × ℕ)
target_in a None = None
target_in a (Some m) = Some (m.uid, a - address_of m)

-- mappings without that of u
abbrev pub without_mapping : ObjectName → List Mapping → List Mapping
without_mapping u mappings = filter (λ m. not (is_of u m)) mappings
