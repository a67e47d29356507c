-- The programs of a world's nodes are those that heard what the run says.
use Rattle.std.proofs.Common.{◌≡◌, ◌≢◌, ℕ, ◌+◌, ◌-◌, ◌<◌, true, Option, Some, None, List, map, length, inl, inr, sym, ap, subst, ◌∙◌, arith}
use Rattle.std.specs.Prelude.{slice_get, All, IsSome}
use Rattle.std.specs.Option.{option_map}
use Rattle.std.proofs.lemmas.Bool.{cases_lt, false≢true}
use Rattle.std.proofs.lemmas.List.{length-map}
use Rattle.std.proofs.lemmas.Option.{slice_get_within}
use Rattle.uid_names.specs.Names.{ProcName}
use Rattle.uid_names.proofs.ListLemmas.{get-within}
use Rattle.dom_history.specs.declared.op.Reply.{Reply}
use Rattle.dom_history.specs.declared.op.Want.{Want}
use Rattle.dom_history.specs.Programs.{program_after}
use Rattle.fault_handler.specs.Desks.{IsNode}
use Rattle.node_runs.specs.Setups.{Setup}
use Rattle.node_runs.specs.NodeStates.{proc_of}
use Rattle.node_runs.specs.Runs as runs
use Rattle.node_runs.proofs.SettingUp.{setup-procs}
use Rattle.node_core.specs.Nodes.{Noted, program_of}
use Rattle.world_core.specs.declared.station.Station.{Station}
use Rattle.world_core.specs.declared.world.World.{World}
use Rattle.ended_nodes.specs.Ended.{named, program_at, AreNumbered}
use Rattle.world_core.specs.Stands.{Stands, AreEnded}
use Rattle.ended_nodes.proofs.Elements.{map_at, all_at}
use Rattle.ended_nodes.proofs.Naming.{none-at, at-node, made-is}

module _ {P G : Type 0} (wants : P → Want) (becomes : P → Option Reply → P) (made : ℕ → ℕ → Option P) (s : Setup) (x : World P G) (w : runs.World) (stands : Stands wants becomes made s x w) where
  abbrev noted : List (Noted P)
  noted = map (λ (y : Station P G). y.node) x.stations.items

  pub are-numbered : All (λ (y : Station P G). AreNumbered y.node) x.stations.items
  are-numbered = all_at (λ (y : Station P G). AreNumbered y.node) x.stations.items (λ k y e p some.
      (let node = (stands.station k y e).node in
      setup-procs s stands.setup (k + 1) p (node.programs p ∙ made-is (λ (z : P). program_after becomes z (proc_of (w.nodes (k + 1)) p).heard) (made (k + 1) p) (program_of y.node p) (node.told p) some)))

  numbers : (k : ℕ) (z : Noted P) → slice_get noted k ≡ Some z → z.log.node ≡ 1 + k
  numbers k z e =
      let found = map_at (λ (y : Station P G). y.node) x.stations.items k z e in
      let own = ap (λ (n : Noted P). n.log.node) found.2 in
      let name = ap (λ l. l.node) (stands.station k found.0 found.1).log in
      omega (arith, own, name)

  many : length noted ≡ s.opening.nodes
  many = length-map x.stations.items (λ (y : Station P G). y.node) ∙ stands.count

  heard-by : (p : ProcName) (k : ℕ) → p.node ≡ k + 1 → k < length noted
      → program_at noted p ≡ option_map (λ y. program_after becomes y (proc_of (w.nodes p.node) p.number).heard) (made p.node p.number)
  heard-by p k is within =
      let z = get-within noted k within in
      let found = map_at (λ (y : Station P G). y.node) x.stations.items k z.0 z.1 in
      at-node noted 1 numbers k z.0 p z.1 (omega (arith, is))
      ∙ (ap (λ (n : Noted P). program_of n p.number) found.2
      ∙ ((stands.station k found.0 found.1).node.told p.number
      ∙ ap (λ (n : ℕ). option_map (λ y. program_after becomes y (proc_of (w.nodes n) p.number).heard) (made n p.number)) (sym is)))

  outside : (p : ProcName) → (IsNode s.opening.nodes p.node → ⊥) → program_at noted p ≡ None
  outside p not = none-at noted p (λ k z e same.
      not (let is = numbers k z e in let within = slice_get_within noted k z e in let count = many in (omega (arith, is, same), omega (arith, is, same, within, count))))

  pub are-ended : (programs : List (ProcName × P)) → ((p : ProcName) → named programs p ≡ program_at noted p) → AreEnded wants becomes made s w programs
  are-ended programs are = record {
    ended = λ p is. are p ∙ heard-by p (p.node - 1) (let low = is.0 in omega (arith, low)) (let low = is.0 in let high = is.1 in let count = many in omega (arith, low, high, count));
    only = λ p some. elim (cases_lt 0 p.node) [
      | inl low ↦ elim (cases_lt s.opening.nodes p.node) [
        | inl above ↦ absurd (false≢true (subst IsSome (are p ∙ outside p (λ is. (let high = is.1 in absurd (omega (arith, above, high))))) some))
        | inr high ↦ (omega (arith, low), high)
      ]
      | inr none ↦ absurd (false≢true (subst IsSome (are p ∙ outside p (λ is. (let low = is.0 in absurd (omega (arith, none, low))))) some))
    ];
  }
