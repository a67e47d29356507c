-- The mappings that the plain store keeps, for its private code alone (see Kept).
use Rattle.std.specs.Prelude.{ℕ, ◌≡◌, ◌+◌, ◌*◌, ◌<◌, not, if◌then◌else◌, Option, Some, None, List, ◌∷◌, ◌++◌, All, filter, find, map, vec_len, vec_capacity}
use Rattle.uid_names.specs.Names.{ProcName, ObjectName, same_proc, same_uid}
use Rattle.uid_names.specs.Openings.{Start}
use Rattle.uid_names.specs.Segments.{Stretch, segments}
use Rattle.uid_names.specs.declared.opening.Object.{Object}
use Rattle.uid_names.specs.declared.segment.TheConstants.{SEGMENT_SIZE}
use Rattle.plain_store.specs.declared.maps.Mapped.{Mapped}
use Rattle.plain_store.specs.declared.maps.MapChange.{MapChange}
use Rattle.plain_store.specs.declared.maps.MapChange.TheVariants.{Mapping as NewMapping, Unmapping, Same}
use Rattle.plain_store.specs.declared.maps.MapTable.{MapTable}
use Rattle.plain_store.specs.declared.objects.ObjectTable.{ObjectTable}
use Rattle.dom_history.specs.declared.deed.Deed.{Deed}
use Rattle.dom_history.specs.StoreEffects.{StoreEffect, store_effect}
use Rattle.dom_history.specs.Objects.{made}
use Rattle.dom_history.specs.Mappings.{Mapping, Target, mappings}
use Rattle.plain_store.specs.KeptObjects.{HoldObjects}

abbrev pub mapping_in : Mapped → Mapping
mapping_in m = record { uid = m.uid; address = m.first * SEGMENT_SIZE }

-- the addresses of a mapping
abbrev pub stretch_in : Mapped → Stretch
stretch_in m = record { low = m.first * SEGMENT_SIZE; high = m.first * SEGMENT_SIZE + m.segments * SEGMENT_SIZE }

-- the mappings of a process
abbrev pub mappings_of : ProcName → List Mapped → List Mapping
mappings_of p maps = map mapping_in (filter (λ m. same_proc p m.proc) maps)

-- and their addresses
abbrev pub stretches_of : ProcName → List Mapped → List Stretch
stretches_of p maps = map stretch_in (filter (λ m. same_proc p m.proc) maps)

-- a mapping of an object that was made takes its segments
pub record IsMapped (opening : Start) (past : List StoreEffect) (m : Mapped) : Type 0 where
  pub object : Object
  pub found : find (λ o. same_uid o.uid m.uid) (made opening past) ≡ Some object
  pub count : m.segments ≡ segments object.room

-- the mappings of all processes, the newest first
pub record HoldMaps (kept : MapTable) (opening : Start) (past : List StoreEffect) : Type 0 where
  pub maps : (p : ProcName) → mappings_of p kept.items.items ≡ mappings p past
  pub mapped : All (IsMapped opening past) kept.items.items

-- an offset of an object, where there is one
abbrev pub target_given : Option (ObjectName × ℕ) → Option Target
target_given None = None
target_given (Some t) = Some (record { uid = t.0; offset = t.1 })

-- the mappings of a process after a change
abbrev pub mappings_after : MapChange → ProcName → List Mapping → List Mapping
mappings_after (NewMapping m) p ms = if same_proc p m.proc then mapping_in m ∷ ms else ms
mappings_after (Unmapping q u) p ms = if same_proc p q then filter (λ m. not (same_uid u m.uid)) ms else ms
mappings_after Same p ms = ms

-- a new mapping is one of an object that was made
abbrev pub IsMappedBy : ObjectTable → MapChange → Type 0
IsMappedBy objects (NewMapping m) = (opening : Start) → (past : List StoreEffect) → HoldObjects objects opening past → IsMapped opening past m
IsMappedBy objects _ = Unit {0}

-- what a deed does to the mappings of each process
pub record ChangesMaps (change : MapChange) (objects : ObjectTable) (d : Deed) : Type 0 where
  pub maps : (p : ProcName) (past : List StoreEffect) → mappings p (store_effect d.proc d.op d.reply ++ past) ≡ mappings_after change p (mappings p past)
  pub mapped : IsMappedBy objects change

-- there is room for one mapping more
abbrev pub HasRoom : MapTable → Type 0
HasRoom kept = vec_len kept.items < vec_capacity kept.items
