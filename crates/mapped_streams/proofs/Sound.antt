-- What a stream stands on in a store: objects are reached by the addresses of their mappings, and lie in their rooms.
use Rattle.std.specs.Prelude.{◌≡◌, ◌+◌, ◌*◌, ◌<◌, ◌≤◌, ℕ, Some, List, find}
use Rattle.uid_names.specs.Names.{ProcName, ObjectName, same_uid}
use Rattle.uid_names.specs.Openings.{Start}
use Rattle.uid_names.specs.declared.limits.TheConstants.{PAGE_BYTES}
use Rattle.dom_history.specs.declared.op.Spot.TheVariants.{Addr}
use Rattle.dom_history.specs.StoreEffects.{StoreEffect}
use Rattle.dom_history.specs.Objects.{room_of}
use Rattle.dom_history.specs.Mappings.{Mapping, mappings, target}
use Rattle.dom_history.specs.Bytes.{length_of}

-- the first n bytes of an object have their addresses from this one on
abbrev pub IsReached : Start → List StoreEffect → ProcName → ObjectName → ℕ → ℕ → Type 0
IsReached opening past p u address n = (o : ℕ) → o < n → target opening past p (Addr (address + o)) ≡ Some (record { uid = u; offset = o })

-- what is mapped is reached by its addresses, and no object is longer than its room
pub record IsSound (opening : Start) (past : List StoreEffect) (p : ProcName) : Type 0 where
  pub reached : (u : ObjectName) (m : Mapping) → find (λ n. same_uid u n.uid) (mappings p past) ≡ Some m → IsReached opening past p u m.address (PAGE_BYTES * room_of opening past u)
  pub lengths : (u : ObjectName) → length_of opening past u ≤ PAGE_BYTES * room_of opening past u
