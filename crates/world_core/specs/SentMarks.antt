-- What comes to the nodes of a world when a mark is sent.
use Rattle.std.specs.Prelude.{◌≡◌, ◌≢◌, ℕ, Some, List, slice_get, length}
use Rattle.world_core.specs.declared.station.Station.{Station}
use Rattle.world_core.specs.declared.world.World.{World}
use Rattle.world_core.specs.Sending.{marked}
use Rattle.world_core.specs.Listed.{IsListed}

module _ {P G : Type 0} where
  -- a node to which the mark came from the node at this place
  pub record IsMarked (at phase tick : ℕ) (old new : Station P G) : Type 0 where
    pub node : new.node ≡ old.node
    pub ins : new.ins.items ≡ marked at phase tick old.ins.items
    pub notices : new.notices ≡ old.notices
    pub listed : IsListed old → IsListed new

  -- each node at another place got the mark; the sender is as it was
  pub record AreMarked (at phase tick : ℕ) (old new : List (Station P G)) : Type 0 where
    pub sender : slice_get new at ≡ slice_get old at
    pub others : (n : ℕ) (x y : Station P G) → n ≢ at → slice_get old n ≡ Some x → slice_get new n ≡ Some y → IsMarked at phase tick x y

-- a world changed its nodes alone, of which it has as many
pub record SameBeside {P G : Type 0} (old new : World P G) : Type 0 where
  pub many : length new.stations.items ≡ length old.stations.items
  pub plan : new.plan ≡ old.plan
  pub spent : new.spent ≡ old.spent
