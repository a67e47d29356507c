-- The event that a turn picks, at its station, and what was done there.
use Rattle.std.proofs.Common.{◌≡◌, ℕ, ◌+◌, ◌<◌, ◌%◌, Option, Some, IfSome, length, sum, sym, ap, subst, ◌∙◌}
use Rattle.std.specs.Prelude.{◌^◌, slice_get, slice_index_or}
use Rattle.std.proofs.lemmas.Option.{slice_get-get_or}
use Rattle.uid_names.proofs.Somes.{take-some}
use Rattle.dom_history.specs.declared.op.Reply.{Reply}
use Rattle.dom_history.specs.declared.op.Want.{Want}
use Rattle.node_runs.specs.Setups.{Setup}
use Rattle.node_runs.specs.Runs as runs
use Rattle.node_core.specs.declared.setup.Emitted.{Emitted}
use Rattle.world_core.specs.declared.station.Station.{Station}
use Rattle.world_core.specs.declared.world.World.{World}
use Rattle.world_core.specs.Places.{enabled_counts, IsPlace}
use Rattle.world_core.specs.Stations.{Candidate}
use Rattle.world_core.specs.Listed.{IsListed, event_at, IsDone}
use Rattle.world_core.specs.Stands.{Stands, IsBelow}
use Rattle.world_core.proofs.Chosen.{IsChosen, place-within, own-within, chosen-is}

-- the station at a place among all, whose event at a place of its own the turn picks
pub record IsPicked {P G : Type 0} (s : Setup) (x : World P G) (w : runs.World) (choice at place : ℕ) (y : Station P G) : Type 0 where
  pub inside : at < length x.stations.items
  pub there : slice_get x.stations.items at ≡ Some y
  pub listed : IsListed y
  pub within : place < length y.enabled.items
  pub chosen : IsChosen s x.plan w choice (at + 1) place y

module _ {P G : Type 0} (wants : P → Want) (becomes : P → Option Reply → P) (made : ℕ → ℕ → Option P) (s : Setup) (x : World P G) (w : runs.World) where
  -- its place is counted on from the first behind the last of so many
  pub picked : Stands wants becomes made s x w → IsBelow (2 ^ 40) x → (choice count at place : ℕ) (y : Station P G) → count ≡ sum (enabled_counts x.stations.items)
      → IsPlace (enabled_counts x.stations.items) (choice % count) at place → y ≡ slice_index_or x.stations.items at y → IsPicked s x w choice at place y
  picked stands below choice count at place y same is reads =
      let counted = subst (λ (k : ℕ). IsPlace (enabled_counts x.stations.items) (choice % k) at place) same is in
      let inside = place-within x.stations.items (choice % count) at place is in
      let there = slice_get-get_or x.stations.items at y inside ∙ ap Some (sym reads) in
      record {
        inside = inside;
        there = there;
        listed = (stands.station at y there).listed;
        within = own-within wants becomes made s x w stands choice at place y there counted;
        chosen = chosen-is wants becomes made s x w stands choice at place y there counted below;
      }

  -- it was done
  pub picked-done : (choice at place : ℕ) (y mid : Station P G) (emitted : Emitted) (it : IsPicked s x w choice at place y)
      → IfSome (event_at y place) (λ c. IsDone wants becomes c emitted y mid) → IsDone wants becomes it.chosen.candidate emitted y mid
  picked-done choice at place y mid emitted it done =
      take-some (λ (c : Candidate). IsDone wants becomes c emitted y mid) (event_at y place) it.chosen.candidate it.chosen.there done
