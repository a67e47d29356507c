-- What a turn does.
use Rattle.std.proofs.Common.{◌≡◌, ℕ, ◌+◌, ◌≤◌, ◌%◌, true, List, [], ◌∷◌, length, Option, Some, None, inl, inr, refl, sym, ap, subst, ◌∙◌, arith}
use Rattle.std.specs.Prelude.{max, filter}
use Rattle.std.proofs.lemmas.Bool.{cases_eq}
use Rattle.std.proofs.lemmas.Option.{same_Some}
use Rattle.uid_names.specs.declared.ids.Place.{Place}
use Rattle.uid_names.proofs.Somes.{bind-some, map-some}
use Rattle.dom_history.specs.declared.event.What.{What}
use Rattle.dom_history.specs.declared.plan.FateRow.{FateRow}
use Rattle.dom_history.specs.Objects.{is_node}
use Rattle.node_runs.specs.Setups.{Setup, Given, given}
use Rattle.node_runs.specs.NodeStates.{NodeState}
use Rattle.node_runs.specs.Incomings.{Incoming, tick_of, enabled}
use Rattle.node_runs.specs.Outcomes.{Stepped, moved}
use Rattle.node_runs.specs.Doings.{Doing, event_of, ticked, node_numbers}
use Rattle.node_runs.specs.Rooms.{moved_as_named}
use Rattle.node_runs.specs.Steps.{stepped_as_named, named_step}
use Rattle.node_runs.specs.NodesKeep.{IsTimely}
use Rattle.node_runs.specs.Runs.{World, put, first_world, incoming_of, world_with}
use Rattle.node_runs.proofs.Stepping.{leaves-steps}
use Rattle.node_runs.proofs.Ticks.{step_of-tick, turned-tick}
use Rattle.node_runs.proofs.Calls.{put-same, put-other}
use Rattle.world_runs.specs.Turns.{Act, coming_to, is_enabled_by, is_enabled, enabled_at, enabled_events, happened, does_with, does, chosen, turn, after_turns}
use Rattle.world_runs.proofs.Among.{Among, among-get, among-map, among-flat, among-filter}

abbrev pub act_place : Act → Stepped → Place
act_place a step = record { tick = step.node.tick; node = a.node }

-- a turn did this event of a node
pub record IsTurn (s : Setup) (plan : List FateRow) (old new : World) : Type 0 where
  pub act : Act
  pub node : is_node s.opening act.node ≡ true
  pub comes : Among act.what (coming_to plan old act.node)
  pub incoming : Incoming
  pub receives : incoming_of old act.node act.what ≡ Some incoming
  pub may : enabled (given s act.node) (old.nodes act.node) act.what incoming ≡ true
  pub step : Stepped
  pub steps : named_step (given s act.node) (old.nodes act.node) act.what incoming ≡ Some step
  pub world : new ≡ world_with old (act_place act step) act.what step

-- an event of the list is of a node, may come to it, and is enabled there
pub record IsListed (s : Setup) (plan : List FateRow) (w : World) (a : Act) : Type 0 where
  pub node : is_node s.opening a.node ≡ true
  pub comes : Among a.what (coming_to plan w a.node)
  pub may : is_enabled s w a.node a.what ≡ true

pub listed-is : (s : Setup) (plan : List FateRow) (w : World) (a : Act) → Among a (enabled_events s plan w) → IsListed s plan w a
listed-is s plan w a among =
    let at = among-flat (enabled_at s plan w) a (filter (is_node s.opening) node_numbers) among in
    let node = among-filter (is_node s.opening) at.0 node_numbers at.1 in
    let one = among-map (λ (what : What). let x : Act = record { node = at.0; what = what } in x) a (filter (is_enabled s w at.0) (coming_to plan w at.0)) at.2 in
    let both = among-filter (is_enabled s w at.0) one.0 (coming_to plan w at.0) one.1 in
    subst (IsListed s plan w) (sym one.2) (record { node = node.1; comes = both.0; may = both.1 })

module _ (s : Setup) (plan : List FateRow) (old new : World) (a : Act) (is : IsListed s plan old a) where
  by-step : (incoming : Incoming) (o : Option Stepped) → incoming_of old a.node a.what ≡ Some incoming → enabled (given s a.node) (old.nodes a.node) a.what incoming ≡ true
      → named_step (given s a.node) (old.nodes a.node) a.what incoming ≡ o → happened old a o ≡ Some new → IsTurn s plan old new
  by-step incoming None receives may steps e = absurd (cc)
  by-step incoming (Some step) receives may steps e = record {
    act = a;
    node = is.node;
    comes = is.comes;
    incoming = incoming;
    receives = receives;
    may = may;
    step = step;
    steps = steps;
    world = sym (same_Some (world_with old (act_place a step) a.what step) new e);
  }

  does-is : does s old a ≡ Some new → IsTurn s plan old new
  does-is e =
      let found = bind-some (incoming_of old a.node a.what) (does_with s old a) new e in
      by-step found.0 (named_step (given s a.node) (old.nodes a.node) a.what found.0) found.1
      (ap (is_enabled_by (given s a.node) (old.nodes a.node) a.what) (sym found.1) ∙ is.may) refl found.2

pub turn-is : (s : Setup) (plan : List FateRow) (old : World) (choice : ℕ) (new : World) → turn s plan old choice ≡ Some new → IsTurn s plan old new
turn-is s plan old choice new e =
    let acts = enabled_events s plan old in
    let found = bind-some (chosen acts choice) (does s old) new e in
    does-is s plan old new found.0 (listed-is s plan old found.0 (among-get acts (choice % length acts) found.0 found.1)) found.2

-- what holds at the start, and after each turn where it held before it, holds after all turns
module _ (s : Setup) (plan : List FateRow) (P : World → Type 0) (first : P (first_world s)) (later : (old new : World) → IsTurn s plan old new → P old → P new) where
  pub every-turn : (cs : List ℕ) (w : World) → after_turns s plan cs ≡ Some w → P w
  every-turn [] w e = subst P (same_Some (first_world s) w e) first
  every-turn (c ∷ cs) w e =
      let found = bind-some (after_turns s plan cs) (λ (v : World). turn s plan v c) w e in
      later found.0 w (turn-is s plan found.0 c w found.2) (every-turn cs found.0 found.1)

module _ (g : Given) (n : NodeState) (what : What) (incoming : Incoming) (may : enabled g n what incoming ≡ true) (step : Stepped) where
  by-event : (event : Doing) → event_of g (ticked n incoming) what incoming ≡ Some event → stepped_as_named g (ticked n incoming) event ≡ Some step → step.node.tick ≡ max n.tick (tick_of incoming) + 1
  by-event (Doing.Does done) comes e =
      step_of-tick g n what incoming step.effects.dropped step (leaves-steps g n what incoming (Doing.Does done) step may comes (sym (same_Some done step e)))
  by-event (Doing.Moves p o stage accessed) comes e =
      let found = map-some (moved g (ticked n incoming) p o stage) (moved_as_named p accessed) step e in
      ap (λ (x : Stepped). x.node.tick) found.2 ∙ turned-tick g (record (ticked n incoming) { desk = found.0.desk }) p o stage found.0.turn

  pub named-tick : named_step g n what incoming ≡ Some step → step.node.tick ≡ max n.tick (tick_of incoming) + 1
  named-tick e =
      let found = bind-some (event_of g (ticked n incoming) what incoming) (stepped_as_named g (ticked n incoming)) step e in
      by-event found.0 found.1 found.2

module _ (s : Setup) (plan : List FateRow) (old new : World) (is : IsTurn s plan old new) where
  pub turn-tick : is.step.node.tick ≡ max (old.nodes is.act.node).tick (tick_of is.incoming) + 1
  turn-tick = named-tick (given s is.act.node) (old.nodes is.act.node) is.act.what is.incoming is.may is.step is.steps

  pub node-after : (n : ℕ) → new.nodes n ≡ put old.nodes is.act.node is.step.node n
  node-after n = ap (λ (w : World). w.nodes n) is.world

  -- ticks never fall
  pub ticks-stay : (n : ℕ) → (old.nodes n).tick ≤ (new.nodes n).tick
  ticks-stay n = elim (cases_eq n is.act.node) [
    | inl same ↦
        let e = ap (λ (x : NodeState). x.tick) (node-after n ∙ put-same old.nodes is.act.node n is.step.node same) in
        let h = ap (λ b. (old.nodes b).tick) same in let k = turn-tick in omega (arith, e, h, k)
    | inr differs ↦ let e = ap (λ (x : NodeState). x.tick) (node-after n ∙ put-other old.nodes is.act.node n is.step.node differs) in omega (arith, e)
  ]

  pub timely-before : IsTimely new → IsTimely old
  timely-before timely n = let a = timely n in let b = ticks-stay n in omega (arith, a, b)
