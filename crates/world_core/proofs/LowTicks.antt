-- Where no station's node came to a tick, no node of the world did.
use Rattle.std.proofs.Common.{◌≡◌, ℕ, ◌+◌, ◌-◌, ◌<◌, ◌≤◌, true, false, List, Option, Some, inl, inr, refl, ap, ◌∙◌, arith}
use Rattle.std.specs.Prelude.{◌&&◌, nat_le}
use Rattle.std.proofs.lemmas.Bool.{cases_eq}
use Rattle.std.proofs.lemmas.Bool.Decides.{nat_tests}
use Rattle.uid_names.proofs.ListLemmas.{by_cases, get-within}
use Rattle.dom_history.specs.declared.op.Reply.{Reply}
use Rattle.dom_history.specs.declared.op.Want.{Want}
use Rattle.dom_history.specs.declared.plan.FateRow.{FateRow}
use Rattle.dom_history.specs.Objects.{is_node}
use Rattle.node_runs.specs.Setups.{Setup}
use Rattle.node_runs.specs.NodeStates.{NodeState}
use Rattle.node_runs.specs.Runs as runs
use Rattle.node_runs.proofs.Calls.{put-other}
use Rattle.world_runs.specs.Draws as seeds
use Rattle.world_runs.specs.Turns.{after_turns}
use Rattle.world_runs.proofs.Turning.{IsTurn, every-turn, node-after}
use Rattle.node_core.specs.Nodes.{state_of}
use Rattle.world_core.specs.declared.station.Station.{Station}
use Rattle.world_core.specs.declared.world.World.{World}
use Rattle.world_core.specs.Stands.{Stands, IsBelow}
use Rattle.ended_nodes.proofs.Elements.{at_all}
use Rattle.world_core.proofs.Running.{tick-at}

module _ (s : Setup) (plan : List FateRow) where
  -- what is no node does nothing
  abbrev AreStill : runs.World → Type 0
  AreStill w = (n : ℕ) → is_node s.opening n ≡ false → (w.nodes n).tick ≡ 0

  still-later : (old new : runs.World) → IsTurn s plan old new → AreStill old → AreStill new
  still-later old new is still n none = elim (cases_eq n is.act.node) [
    | inl same ↦ absurd (let one = is.node in let other = ap (is_node s.opening) same in cc)
    | inr differs ↦ ap (λ (x : NodeState). x.tick) (node-after s plan old new is n ∙ put-other old.nodes is.act.node n is.step.node differs) ∙ still n none
  ]

  turns-still : (cs : List ℕ) (w : runs.World) → after_turns s plan cs ≡ Some w → AreStill w
  turns-still = every-turn s plan AreStill (λ n none. refl) still-later

module _ {P G : Type 0} (wants : P → Want) (becomes : P → Option Reply → P) (made : ℕ → ℕ → Option P) (s : Setup) (x : World P G) (w : runs.World) (stands : Stands wants becomes made s x w) where
  node-below : (last : ℕ) → IsBelow last x → (n : ℕ) → is_node s.opening n ≡ true → (w.nodes n).tick < last
  node-below last below n node =
      let test : (nat_le 1 n && nat_le n s.opening.nodes) ≡ true = node in
      let low : 1 ≤ n = grind (arith, nat_tests, test) in
      let high : n ≤ s.opening.nodes = grind (arith, nat_tests, test) in
      let count = stands.count in
      let y = get-within x.stations.items (n - 1) (omega (arith, low, high, count)) in
      let own = at_all (λ (z : Station P G). (state_of z.node).tick < last) x.stations.items (n - 1) y.0 below y.1 in
      let same = tick-at wants becomes made s x w stands (n - 1) y.0 y.1 in
      let here : n - 1 + 1 ≡ n = omega (arith, low) in
      let at = ap (λ (m : ℕ). (w.nodes m).tick) here in
      omega (arith, own, same, at)

  pub nodes-below : (last : ℕ) → 1 ≤ last → IsBelow last x → seeds.IsBelow last w
  nodes-below last least below n =
      by_cases (is_node s.opening n) ((w.nodes n).tick < last) (node-below last below n)
      (λ none. (let still = turns-still s x.plan stands.choices w stands.turns n none in omega (arith, least, still)))
