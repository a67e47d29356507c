-- The turns of a seed, as far as a world went through them.
use Rattle.std.proofs.Common.{◌≡◌, ℕ, zero, suc, ◌+◌, ◌*◌, ◌<◌, ◌≤◌, Option, Some, List, [], length, inl, inr, refl, sym, ap, subst, ◌∙◌, arith}
use Rattle.std.specs.Prelude.{slice_get, IfSome, ◌^◌}
use Rattle.std.proofs.lemmas.Bool.{cases_eq}
use Rattle.uid_names.specs.Steps.{◌>>=◌}
use Rattle.uid_names.proofs.ListLemmas.{get-within}
use Rattle.uid_names.proofs.Somes.{take-some}
use Rattle.dom_history.specs.declared.op.Reply.{Reply}
use Rattle.dom_history.specs.declared.op.Want.{Want}
use Rattle.dom_history.specs.declared.plan.FateRow.{FateRow}
use Rattle.node_runs.specs.Setups.{Setup}
use Rattle.node_runs.specs.NodeStates.{NodeState}
use Rattle.node_runs.specs.Runs as runs
use Rattle.world_runs.specs.Turns.{turn, enabled_events}
use Rattle.drawn_numbers.specs.Draws.{drawn, state_after}
use Rattle.world_runs.specs.Draws.{draws, turns, EndsIn, ComesToLast}
use Rattle.world_runs.specs.Draws as seeds
use Rattle.world_runs.proofs.Ending.{turn-low, turns-few, all-below}
use Rattle.node_core.specs.Nodes.{state_of}
use Rattle.node_core.specs.declared.fault.RunFault.TheVariants as faults
use Rattle.world_core.specs.declared.station.Station.{Station}
use Rattle.world_core.specs.declared.world.World.{World}
use Rattle.world_core.specs.Stands.{Stands, IsTurnOf, IsBelow}
use Rattle.ended_nodes.proofs.Elements.{all_at}

-- the world stands for so many turns of the seed, and no tick came to the last one
pub record IsRunning {P G : Type 0} (wants : P → Want) (becomes : P → Option Reply → P) (made : ℕ → ℕ → Option P) (s : Setup) (seed last k : ℕ) (x : World P G) : Type 0 where
  pub world : runs.World
  pub comes : turns s x.plan seed k ≡ Some world
  pub stands : Stands wants becomes made s x world
  pub below : seeds.IsBelow last world

draws-many : (seed k : ℕ) → length (draws seed k) ≡ k
draws-many seed zero = refl
draws-many seed (suc k) = ap suc (draws-many seed k)

module _ {P G : Type 0} (wants : P → Want) (becomes : P → Option Reply → P) (made : ℕ → ℕ → Option P) (s : Setup) where
  pub tick-at : (x : World P G) (w : runs.World) → Stands wants becomes made s x w → (k : ℕ) (y : Station P G) → slice_get x.stations.items k ≡ Some y
      → (state_of y.node).tick ≡ (w.nodes (k + 1)).tick
  tick-at x w stands k y e = (stands.station k y e).node.alike.tick

  module _ (seed last : ℕ) (most : last ≤ 2 ^ 40) where
    abbrev Running : ℕ → World P G → Type 0
    Running k x = IsRunning wants becomes made s seed last k x

    pub starts : (x : World P G) → 1 ≤ last → Stands wants becomes made s x (runs.first_world s) → Running 0 x
    starts x least stands = record { world = runs.first_world s; comes = refl; stands = stands; below = λ n. omega (arith, least) }

    pub stations-below : (k : ℕ) (x : World P G) → Running k x → IsBelow (2 ^ 40) x
    stations-below k x is = all_at (λ (y : Station P G). (state_of y.node).tick < 2 ^ 40) x.stations.items
        (λ n y e. let same = tick-at x is.world is.stands n y e in let low = is.below (n + 1) in omega (arith, same, low, most))

    pub few-turns : (k : ℕ) (x : World P G) → Running k x → k < 8 * last
    few-turns k x is =
        let few = turns-few s is.stands.setup x.plan (draws seed k) is.world is.comes in
        let many = draws-many seed k in
        let low = all-below last (λ n. (is.world.nodes n).tick) is.below in
        omega (arith, few, many, low)

    module _ (k : ℕ) (old new : World P G) (is : Running k old) (plan : new.plan ≡ old.plan) (choice i : ℕ) (drew : choice ≡ drawn (state_after seed (suc k)))
        (turned : IsTurnOf wants becomes made s old new is.world choice i) where
      next : turns s old.plan seed (suc k) ≡ Some turned.world
      next =
          ap (λ (o : Option runs.World). o >>= λ (w : runs.World). turn s old.plan w (drawn (state_after seed (suc k)))) is.comes
          ∙ subst (λ (c : ℕ). turn s old.plan is.world c ≡ Some turned.world) drew turned.turns

      still-below : IfSome (slice_get new.stations.items i) (λ y. (state_of y.node).tick < last) → seeds.IsBelow last turned.world
      still-below low n = elim (cases_eq n (i + 1)) [
        | inl same ↦
            (let y = get-within new.stations.items i turned.within in
            let own = take-some (λ (z : Station P G). (state_of z.node).tick < last) (slice_get new.stations.items i) y.0 y.1 low in
            let tick = tick-at new turned.world turned.stands i y.0 y.1 in
            let at = ap (λ (m : ℕ). (turned.world.nodes m).tick) same in
            omega (arith, own, tick, at))
        | inr differs ↦
            (let at = ap (λ (x : NodeState). x.tick) (turned.only n differs) in
            let before = is.below n in
            omega (arith, at, before))
      ]

      pub goes-on : IfSome (slice_get new.stations.items i) (λ y. (state_of y.node).tick < last) → Running (suc k) new
      goes-on low = record {
        world = turned.world;
        comes = subst (λ (p : List FateRow). turns s p seed (suc k) ≡ Some turned.world) (sym plan) next;
        stands = turned.stands;
        below = still-below low;
      }

      pub comes-to-last : (n : ℕ) → IfSome (slice_get new.stations.items i) (λ y. (faults.TickLimit n ≡ faults.TickLimit y.node.log.node) × (last ≤ (state_of y.node).tick))
          → ComesToLast s old.plan seed last n
      comes-to-last n limit =
          let y = get-within new.stations.items i turned.within in
          let own = take-some (λ (z : Station P G). (faults.TickLimit n ≡ faults.TickLimit z.node.log.node) × (last ≤ (state_of z.node).tick)) (slice_get new.stations.items i) y.0 y.1 limit in
          let name : n ≡ y.0.node.log.node = (let e = own.0 in cc) in
          let node = name ∙ ap (λ l. l.node) (turned.stands.station i y.0 y.1).log in
          let high = own.1 in
          let tick = tick-at new turned.world turned.stands i y.0 y.1 in
          let low = turn-low s is.stands.setup old.plan last most (draws seed k) is.world turned.world choice is.comes is.below turned.turns (i + 1) in
          let at = ap (λ (m : ℕ). (turned.world.nodes m).tick) node in
          record {
            count = k;
            before = is.world;
            after = turned.world;
            comes = is.comes;
            below = is.below;
            next = next;
            tick = omega (arith, high, tick, low, at);
          }

    pub ends-in : (k : ℕ) (old : World P G) (is : Running k old) → enabled_events s old.plan is.world ≡ [] → EndsIn s old.plan seed last is.world
    ends-in k old is none = record { count = k; comes = is.comes; nothing = none; below = is.below }
