-- What the lists of enabled events are, in the words of the definitions.
use Rattle.std.specs.Prelude.{◌≡◌, ℕ, ◌+◌, ◌%◌, ◌≤◌, Option, Some, List, map, length, sum, slice_get}
use Rattle.dom_history.specs.declared.op.Reply.{Reply}
use Rattle.dom_history.specs.declared.op.Want.{Want}
use Rattle.dom_history.specs.declared.event.What.{What}
use Rattle.dom_history.specs.declared.plan.FateRow.{FateRow}
use Rattle.node_runs.specs.Setups.{Setup, given}
use Rattle.node_runs.specs.Incomings.{Incoming}
use Rattle.node_runs.specs.Outcomes.{Stepped}
use Rattle.node_runs.specs.Steps.{named_step}
use Rattle.node_runs.specs.Runs as runs
use Rattle.node_runs.specs.Runs.{incoming_of, world_with}
use Rattle.world_runs.specs.Links.{link_of}
use Rattle.world_runs.specs.Waiting.{waiting}
use Rattle.world_runs.specs.Turns.{enabled_at, enabled_events, turn}
use Rattle.world_core.specs.declared.coming.Coming.{Coming}
use Rattle.world_core.specs.declared.station.Station.{Station}
use Rattle.world_core.specs.declared.world.World.{World}
use Rattle.world_core.specs.Listed.{event_at}
use Rattle.world_core.specs.Places.{enabled_counts, IsPlace}
use Rattle.world_core.specs.Stands.{IsStation, Stands, act_of}
use Rattle.world_core.specs.Stations.{Candidate}

-- the links to a node have what waits there
abbrev pub HaveWaiting : List FateRow → runs.World → ℕ → Type 0
HaveWaiting plan w n = (from : ℕ) → (link_of plan from n w.done).queue ≡ waiting plan from n w.done

module _ {P G : Type 0} (wants : P → Want) (becomes : P → Option Reply → P) (made : ℕ → ℕ → Option P) (s : Setup) where
  -- what a node lists is what is enabled there
  abbrev pub ListsEnabled : List FateRow → runs.World → ℕ → Station P G → Type 0
  ListsEnabled plan w n x =
      s.opening.nodes ≤ 8 → HaveWaiting plan w n → IsStation wants becomes made s plan w n x → map (act_of n) x.enabled.items ≡ enabled_at s plan w n

  -- a listed event receives what the world has for it
  abbrev pub ReceivesSent : List FateRow → runs.World → ℕ → Station P G → Type 0
  ReceivesSent plan w n x =
      s.opening.nodes ≤ 8 → HaveWaiting plan w n → IsStation wants becomes made s plan w n x →
      (place : ℕ) (c : Candidate) → event_at x place ≡ Some c → incoming_of w n c.coming.what ≡ Some c.incoming

  -- the nodes list as many events as are enabled
  abbrev pub CountsEnabled : World P G → runs.World → Type 0
  CountsEnabled x w =
      s.opening.nodes ≤ 8 → Stands wants becomes made s x w → sum (enabled_counts x.stations.items) ≡ length (enabled_events s x.plan w)

  -- the event at a place among all that are listed is the enabled one at that place
  abbrev pub PlacesEnabled : World P G → runs.World → Type 0
  PlacesEnabled x w =
      s.opening.nodes ≤ 8 → Stands wants becomes made s x w →
      (place i own : ℕ) (y : Station P G) (c : Coming) → IsPlace (enabled_counts x.stations.items) place i own →
      slice_get x.stations.items i ≡ Some y → slice_get y.enabled.items own ≡ Some c →
      slice_get (enabled_events s x.plan w) place ≡ Some (act_of (i + 1) c)

-- the turn of a choice is the step of the node whose event has its place
abbrev pub TurnsAsNode : Setup → List FateRow → runs.World → ℕ → ℕ → What → Incoming → Stepped → Type 0
TurnsAsNode s plan w choice n what incoming st =
    slice_get (enabled_events s plan w) (choice % length (enabled_events s plan w)) ≡ Some (record { node = n; what = what }) →
    incoming_of w n what ≡ Some incoming → named_step (given s n) (w.nodes n) what incoming ≡ Some st →
    turn s plan w choice ≡ Some (world_with w (record { tick = st.node.tick; node = n }) what st)
