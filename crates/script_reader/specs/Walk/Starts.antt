-- The declared objects of a script.
use Rattle.std.specs.Prelude.{ℕ, ◌≡◌, ◌≤◌, false, List, All, AllPairs}
use Rattle.uid_names.specs.Names.{same_uid}
use Rattle.uid_names.specs.Openings.{IsDeclarable}
use Rattle.uid_names.specs.declared.limits.TheConstants.{VOLUME_ROOM}
use Rattle.uid_names.specs.declared.opening.Object.{Object}
use Rattle.uid_names.specs.Beginnings.{at_home, AreNumbered}
use Rattle.script_reader.specs.Limits.{pages_at}

-- the declared objects: each has a name of its own and a room that is not too great, and they fit the volumes of the nodes
pub record AreStarts (nodes greatest : ℕ) (starts : List Object) : Type 0 where
  pub declarable : All (IsDeclarable nodes greatest) starts
  pub apart : AllPairs (λ a b. same_uid a.uid b.uid ≡ false) starts
  pub counters : (home : ℕ) → AreNumbered 2 (at_home home starts)
  pub volume : (home : ℕ) → pages_at home starts ≤ VOLUME_ROOM
