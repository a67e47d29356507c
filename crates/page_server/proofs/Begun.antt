-- A home that was made is one that no request has reached.
use Rattle.std.proofs.Common.{◌≡◌, ℕ, ◌≤◌, List, [], ◌∷◌, arith}
use Rattle.std.specs.Prelude.{map}
use Rattle.uid_names.specs.Beginnings.{entry_directory}
use Rattle.uid_names.specs.declared.opening.Object.{Object}
use Rattle.uid_names.specs.declared.limits.TheConstants.{VOLUME_ROOM}
use Rattle.object_store.specs.HomeStates.{HomeState}
use Rattle.object_store.specs.Beginnings.{opened, first_home}
use Rattle.page_server.specs.ServerStates.{AreStampedTo, IsBegun}

AreStampedTo-opened : (own : List Object) → AreStampedTo 1 (map opened own)
AreStampedTo-opened [] = tt
AreStampedTo-opened (o ∷ own) = (omega arith, AreStampedTo-opened own)

pub IsBegun-first_home : (home : HomeState) (node : ℕ) (own : List Object) → home ≡ first_home node own → home.greatest ≤ VOLUME_ROOM → IsBegun home
IsBegun-first_home home node own is few = record { counters = few; stamps = rw is (AreStampedTo-opened (entry_directory node ∷ own)) }
