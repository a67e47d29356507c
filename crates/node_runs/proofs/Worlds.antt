-- One event of a run, and what holds of all runs by it.
use Rattle.std.proofs.Common.{◌≡◌, ℕ, Bool, true, false, List, [], ◌∷◌, Option, Some, None, refl, sym, ap, subst, ◌∙◌}
use Rattle.std.specs.Prelude.{unwrap_or, ◌==◌, if◌then◌else◌}
use Rattle.uid_names.proofs.ListLemmas.{by_cases}
use Rattle.uid_names.specs.Names.{ObjectName}
use Rattle.dom_history.specs.declared.event.What.{What}
use Rattle.node_runs.specs.NodeStates.{NodeState, first_node}
use Rattle.node_runs.specs.NodesKeep.{IsCounted}
use Rattle.node_runs.proofs.Counts.{first-counted, step_of-counted}
use Rattle.uid_names.specs.declared.ids.Place.{Place}
use Rattle.uid_names.proofs.Somes.{map-some}
use Rattle.std.specs.Option.{option_map}
use Rattle.dom_history.specs.Events.{Happening}
use Rattle.dom_history.specs.Objects.{is_node}
use Rattle.node_runs.specs.Setups.{Setup, IsSetup, given}
use Rattle.node_runs.specs.Incomings.{Incoming}
use Rattle.node_runs.specs.Outcomes.{Stepped}
use Rattle.node_runs.specs.Steps.{step_of}
use Rattle.node_runs.specs.Runs.{World, first_world, Choice, choice_of, world_of, IsRun, incoming_of, is_above, world_with, world_if, after_step, receiving, next_if, next, then_next, world_after, put, AreRising}

-- where an event of a node stands
abbrev pub place_at : Choice → Stepped → Place
place_at c s = record { tick = s.node.tick; node = c.node }

-- what an event of a run is
pub record IsNext (s : Setup) (old : World) (c : Choice) (new : World) : Type 0 where
  pub node : is_node s.opening c.node ≡ true
  pub incoming : Incoming
  pub comes : incoming_of old c.node c.what ≡ Some incoming
  pub step : Stepped
  pub steps : step_of (given s c.node) (old.nodes c.node) c.what incoming c.dropped ≡ Some step
  pub above : is_above (place_at c step) old.done ≡ true
  pub world : new ≡ world_with old (place_at c step) c.what step

module _ (s : Setup) (old : World) (c : Choice) (new : World) where
  by_place : (b : Bool) (incoming : Incoming) (step : Stepped) → is_node s.opening c.node ≡ true → incoming_of old c.node c.what ≡ Some incoming
      → step_of (given s c.node) (old.nodes c.node) c.what incoming c.dropped ≡ Some step → is_above (place_at c step) old.done ≡ b → world_if b old (place_at c step) c.what step ≡ Some new → IsNext s old c new
  by_place false incoming step node comes steps above e = absurd (cc)
  by_place true incoming step node comes steps above e = record { node = node; incoming = incoming; comes = comes; step = step; steps = steps; above = above; world = ap (λ (o : Option World). unwrap_or o old) (sym e) }

  by_step : (o : Option Stepped) (incoming : Incoming) → is_node s.opening c.node ≡ true → incoming_of old c.node c.what ≡ Some incoming
      → step_of (given s c.node) (old.nodes c.node) c.what incoming c.dropped ≡ o → after_step old c o ≡ Some new → IsNext s old c new
  by_step None incoming node comes steps e = absurd (cc)
  by_step (Some step) incoming node comes steps e = by_place (is_above (place_at c step) old.done) incoming step node comes steps refl e

  by_incoming : (o : Option Incoming) → is_node s.opening c.node ≡ true → incoming_of old c.node c.what ≡ o → receiving s old c o ≡ Some new → IsNext s old c new
  by_incoming None node comes e = absurd (cc)
  by_incoming (Some incoming) node comes e = by_step (step_of (given s c.node) (old.nodes c.node) c.what incoming c.dropped) incoming node comes refl e

  by_node : (b : Bool) → is_node s.opening c.node ≡ b → next_if b s old c ≡ Some new → IsNext s old c new
  by_node false node e = absurd (cc)
  by_node true node e = by_incoming (incoming_of old c.node c.what) node refl e

  pub next-is : next s old c ≡ Some new → IsNext s old c new
  next-is e = by_node (is_node s.opening c.node) refl e

-- the events before one, where that one may happen after them
module _ (s : Setup) (e : Happening) (es : List Happening) where
  older-done : (old w : World) → IsNext s old (choice_of e) w → w.done ≡ e ∷ es → old.done ≡ es
  older-done old w is done = let all = ap (λ (x : World). x.done) (sym is.world) ∙ done in cc

  older-run : (o : Option World) → option_map (λ (w : World). w.done) (then_next s o (choice_of e)) ≡ Some (e ∷ es) → option_map (λ (w : World). w.done) o ≡ Some es
  older-run None is = absurd (cc)
  older-run (Some old) is =
      let found = map-some (λ (w : World). w.done) (next s old (choice_of e)) (e ∷ es) is in
      ap (λ (xs : List Happening). Some xs) (older-done old found.0 (next-is s old (choice_of e) found.0 found.1) (sym found.2))

  pub initial-run : IsRun s (e ∷ es) → IsRun s es
  initial-run = older-run (world_of s es)

-- what holds at the start, and after each event where it held before it, holds of every run
module _ (s : Setup) (P : World → Type 0) (first : P (first_world s)) (later : (old : World) (c : Choice) (new : World) → IsNext s old c new → P old → P new) where
  then-one : (c : Choice) (w : World) (o : Option World) → ((old : World) → o ≡ Some old → P old) → then_next s o c ≡ Some w → P w
  then-one c w None before e = absurd (cc)
  then-one c w (Some old) before e = later old c w (next-is s old c w e) (before old refl)

  pub every-run : (cs : List Choice) (w : World) → world_after s cs ≡ Some w → P w
  every-run [] w e = subst P (ap (λ (o : Option World). unwrap_or o w) e) first
  every-run (c ∷ cs) w e = then-one c w (world_after s cs) (λ old before. every-run cs old before) e

-- the places of a run rise
pub places-rise : (s : Setup) (cs : List Choice) (w : World) → world_after s cs ≡ Some w → AreRising w.done
places-rise s = every-run s (λ w. AreRising w.done) tt (λ old c new is before. subst (λ (w : World). AreRising w.done) (sym is.world) (is.above, before))

-- a node of every run
every-node : (s : Setup) (P : NodeState → Type 0) → ((n : ℕ) → P (first_node (given s n)))
    → ((n : ℕ) (old : NodeState) (what : What) (incoming : Incoming) (dropped : List (ObjectName × ℕ)) (step : Stepped) → step_of (given s n) old what incoming dropped ≡ Some step → P old → P step.node)
    → (cs : List Choice) (w : World) → world_after s cs ≡ Some w → (n : ℕ) → P (w.nodes n)
every-node s P first later = every-run s (λ w. (n : ℕ) → P (w.nodes n)) first after
  where
    after : (old : World) (c : Choice) (new : World) → IsNext s old c new → ((n : ℕ) → P (old.nodes n)) → (n : ℕ) → P (new.nodes n)
    after old c new is before n =
        subst (λ (w : World). P (w.nodes n)) (sym is.world)
        (by_cases (n == c.node) (P (put old.nodes c.node is.step.node n))
        (λ h. subst P (sym (ap (λ b. if b then is.step.node else old.nodes n) h)) (later c.node (old.nodes c.node) c.what is.incoming c.dropped is.step is.steps (before c.node)))
        (λ h. subst P (sym (ap (λ b. if b then is.step.node else old.nodes n) h)) (before n)))

-- no number of a node is above its tick, in every run
pub nodes-counted : (s : Setup) → IsSetup s → (cs : List Choice) (w : World) → world_after s cs ≡ Some w → (n : ℕ) → IsCounted (w.nodes n)
nodes-counted s setup = every-node s IsCounted (λ n. first-counted s setup n) (λ n old what incoming dropped step e is. step_of-counted (given s n) old what incoming dropped step is e)
