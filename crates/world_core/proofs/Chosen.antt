-- The event that a turn does, and the world that it leads to.
use Rattle.std.proofs.Common.{◌≡◌, ℕ, ◌+◌, ◌<◌, ◌≤◌, ◌%◌, true, List, length, Option, Some, refl, sym, ap, ◌∙◌, arith}
use Rattle.std.specs.Prelude.{◌^◌, slice_get, sum}
use Rattle.std.proofs.lemmas.List.{length-map}
use Rattle.std.proofs.lemmas.Option.{get_or_from_slice_get, slice_get_within}
use Rattle.uid_names.proofs.ListLemmas.{get-within}
use Rattle.dom_history.specs.declared.op.Reply.{Reply}
use Rattle.dom_history.specs.declared.op.Want.{Want}
use Rattle.dom_history.specs.declared.event.What.{What}
use Rattle.dom_history.specs.declared.plan.FateRow.{FateRow}
use Rattle.dom_history.specs.Objects.{is_node}
use Rattle.node_runs.specs.Setups.{Setup, given}
use Rattle.node_runs.specs.NodeStates.{NodeState}
use Rattle.node_runs.specs.Incomings.{Incoming, tick_of, enabled}
use Rattle.node_runs.specs.NodesKeep.{IsTimely}
use Rattle.node_runs.specs.Outcomes.{Stepped}
use Rattle.node_runs.specs.Steps.{named_step, step_of}
use Rattle.node_runs.specs.Runs.{incoming_of, world_with}
use Rattle.node_runs.specs.Runs as runs
use Rattle.node_runs.proofs.Calls.{put-same}
use Rattle.node_runs.proofs.Happening.{enabled-happens}
use Rattle.node_runs.proofs.SettingUp.{setup-gives}
use Rattle.world_runs.specs.Turns.{enabled_events, turn}
use Rattle.world_runs.proofs.Ending.{turn-low}
use Rattle.world_runs.proofs.Happening.{nodes-kept, received-kept}
use Rattle.world_runs.proofs.Merging.{Merged, turns-merge}
use Rattle.world_runs.proofs.Turning.{named-tick}
use Rattle.world_core.specs.declared.coming.Coming.{Coming}
use Rattle.world_core.specs.declared.station.Station.{Station}
use Rattle.world_core.specs.declared.world.World.{World}
use Rattle.world_core.specs.Stations.{Candidate}
use Rattle.world_core.specs.Listed.{event_at}
use Rattle.world_core.specs.Places.{enabled_counts, IsPlace}
use Rattle.world_core.specs.Stands.{act_of, IsStation, Stands, IsBelow}
use Rattle.ended_nodes.proofs.Elements.{map_at}
use Rattle.world_core.proofs.Choosing.{is-one, queue-is, all-places, one-place}
use Rattle.world_core.proofs.Found.{passes-there}
use Rattle.world_core.proofs.Happening.{IsAt, at-place}
use Rattle.world_core.proofs.LowTicks.{nodes-below}
use Rattle.world_core.proofs.Standing.{enabled-stands}
use Rattle.world_core.proofs.Turning.{receives, turn-of}

-- a node that has a place is one of them
pub place-within : {P G : Type 0} (stations : List (Station P G)) (place i own : ℕ) → IsPlace (enabled_counts stations) place i own → i < length stations
place-within {P} {G} stations place i own is =
    let within = slice_get_within (enabled_counts stations) i is.count is.node_is in
    let many = length-map stations (λ (y : Station P G). length y.enabled.items) in
    omega (arith, within, many)

-- the world after an event of a node
abbrev pub world_by : runs.World → ℕ → What → Stepped → runs.World
world_by w n what step = world_with w (record { tick = step.node.tick; node = n }) what step

-- the turn of a choice does the event at a place of a station's list
pub record IsChosen {P G : Type 0} (s : Setup) (plan : List FateRow) (w : runs.World) (choice n own : ℕ) (y : Station P G) : Type 0 where
  pub candidate : Candidate
  pub there : event_at y own ≡ Some candidate
  pub receives : incoming_of w n candidate.coming.what ≡ Some candidate.incoming
  pub may : enabled (given s n) (w.nodes n) candidate.coming.what candidate.incoming ≡ true
  pub step : Stepped
  pub names : named_step (given s n) (w.nodes n) candidate.coming.what candidate.incoming ≡ Some step
  pub steps : step_of (given s n) (w.nodes n) candidate.coming.what candidate.incoming step.effects.dropped ≡ Some step
  pub turns : turn s plan w choice ≡ Some (world_by w n candidate.coming.what step)
  pub early : tick_of candidate.incoming < 2 ^ 40
  pub timely : IsTimely (world_by w n candidate.coming.what step)

module _ {P G : Type 0} (wants : P → Want) (becomes : P → Option Reply → P) (made : ℕ → ℕ → Option P) (s : Setup) (x : World P G) (w : runs.World) (stands : Stands wants becomes made s x w)
    (choice i own : ℕ) (y : Station P G) (there : slice_get x.stations.items i ≡ Some y) (at : IsPlace (enabled_counts x.stations.items) (choice % sum (enabled_counts x.stations.items)) i own) where
  abbrev n : ℕ
  n = i + 1

  few : s.opening.nodes ≤ 8
  few = stands.setup.start.nodes_high

  station : IsStation wants becomes made s x.plan w n y
  station = stands.station i y there

  pub own-within : own < length y.enabled.items
  own-within =
      let found = map_at (λ (z : Station P G). length z.enabled.items) x.stations.items i at.count at.node_is in
      let there-too = found.1 in
      let same : found.0 ≡ y = cc in
      let many = ap (λ (z : Station P G). length z.enabled.items) same in
      let low = at.own_is in
      let count = found.2 in
      omega (arith, many, low, count)

  coming : (c : Coming) × (slice_get y.enabled.items own ≡ Some c)
  coming = get-within y.enabled.items own own-within

  at-own : IsAt y own coming.0
  at-own = at-place y own coming.0 station.listed own-within (sym (get_or_from_slice_get y.enabled.items own coming.0 coming.0 coming.1))

  abbrev what : What
  what = at-own.candidate.coming.what

  abbrev incoming : Incoming
  incoming = at-own.candidate.incoming

  received : incoming_of w n what ≡ Some incoming
  received = receives wants becomes made s x.plan w n y few (queue-is wants becomes made s x w few stands n) station own at-own.candidate at-own.there

  may-happen : enabled (given s n) (w.nodes n) what incoming ≡ true
  may-happen =
      sym (enabled-stands wants becomes (made n) (given s n) y.node (w.nodes n) station.node what incoming)
      ∙ passes-there y.node y.notices.items y.ins.items own at-own.candidate at-own.there

  node : is_node s.opening n ≡ true
  node = let within = slice_get_within x.stations.items i y there in let count = stands.count in is-one s.opening n (omega arith) (omega (arith, within, count))

  merged : Merged s w
  merged = (turns-merge s stands.setup x.plan stands.choices w stands.turns).merged stands.timely

  happens : (st : Stepped) × (named_step (given s n) (w.nodes n) what incoming ≡ Some st) × (step_of (given s n) (w.nodes n) what incoming st.effects.dropped ≡ Some st)
  happens =
      enabled-happens (given s n) (w.nodes n) what incoming (setup-gives s stands.setup n node) (nodes-kept s stands.setup w merged stands.timely n node)
      (received-kept s stands.setup w merged stands.timely n what incoming received) may-happen

  act-there : slice_get (enabled_events s x.plan w) (choice % length (enabled_events s x.plan w)) ≡ Some (record { node = n; what = what })
  act-there =
      ap (λ (k : ℕ). slice_get (enabled_events s x.plan w) (choice % k)) (sym (all-places wants becomes made s x w few stands))
      ∙ one-place wants becomes made s x w few stands (choice % sum (enabled_counts x.stations.items)) i own y coming.0 at there coming.1
      ∙ ap (λ (c : Coming). Some (act_of n c)) (sym at-own.coming_is)

  goes : turn s x.plan w choice ≡ Some (world_by w n what happens.0)
  goes = turn-of s x.plan w choice n what incoming happens.0 act-there received happens.1

  module _ (below : IsBelow (2 ^ 40) x) where
    timely-after : IsTimely (world_by w n what happens.0)
    timely-after =
        turn-low s stands.setup x.plan (2 ^ 40) (omega arith) stands.choices w (world_by w n what happens.0) choice stands.turns
        (nodes-below wants becomes made s x w stands (2 ^ 40) (omega arith) below) goes

    early-one : tick_of incoming < 2 ^ 40
    early-one =
        let now = ap (λ (z : NodeState). z.tick) (put-same w.nodes n n happens.0.node refl) in
        let most = timely-after n in
        let tick = named-tick (given s n) (w.nodes n) what incoming may-happen happens.0 happens.1 in
        omega (arith, now, most, tick)

    pub chosen-is : IsChosen s x.plan w choice n own y
    chosen-is = record {
      candidate = at-own.candidate;
      there = at-own.there;
      receives = received;
      may = may-happen;
      step = happens.0;
      names = happens.1;
      steps = happens.2;
      turns = goes;
      early = early-one;
      timely = timely-after;
    }
