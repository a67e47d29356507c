-- The programs of posts that have ended are those that heard what their nodes' runs say.
use Rattle.std.proofs.Common.{◌≡◌, ℕ, zero, suc, ◌+◌, ◌-◌, ◌<◌, Option, Some, None, List, [], ◌∷◌, map, length, inl, inr, sym, ap, subst, ◌∙◌, arith}
use Rattle.std.specs.Prelude.{slice_get, All, IsSome}
use Rattle.std.specs.Option.{option_map}
use Rattle.std.proofs.lemmas.Bool.{cases_lt, false≢true}
use Rattle.std.proofs.lemmas.List.{length-map}
use Rattle.std.proofs.lemmas.Option.{slice_get_within}
use Rattle.uid_names.specs.Names.{ProcName}
use Rattle.uid_names.proofs.ListLemmas.{get-within}
use Rattle.dom_history.specs.declared.op.Reply.{Reply}
use Rattle.dom_history.specs.declared.op.Want.{Want}
use Rattle.dom_history.specs.declared.event.NodeLog.{NodeLog}
use Rattle.dom_history.specs.declared.plan.FateRow.{FateRow}
use Rattle.dom_history.specs.Programs.{program_after}
use Rattle.fault_handler.specs.Desks.{IsNode}
use Rattle.node_runs.specs.Setups.{Setup}
use Rattle.node_runs.specs.NodeStates.{proc_of}
use Rattle.node_runs.specs.Runs.{World}
use Rattle.node_runs.proofs.SettingUp.{setup-procs}
use Rattle.node_core.specs.Nodes.{Noted, program_of}
use Rattle.local_runs.specs.Posts.{Serving, world_at}
use Rattle.node_posts.specs.declared.post.Post.{Post}
use Rattle.node_posts.specs.Posts.{IsPost}
use Rattle.ended_nodes.specs.Ended.{named, program_at, AreNumbered}
use Rattle.ended_nodes.proofs.Elements.{map_at, all_at}
use Rattle.ended_nodes.proofs.Naming.{none-at, at-node, made-is}
use Rattle.node_threads.specs.Ran.{AreEndedPrograms}
use Rattle.node_threads.proofs.Chosen.{numbered_posts, post-at}

module _ {P G : Type 0} (wants : P → Want) (becomes : P → Option Reply → P) (made : ℕ → ℕ → Option P) (s : Setup) (plan : List FateRow) (posts : List (Post P G)) (count : length posts ≡ s.opening.nodes)
    (Q : ℕ → Serving) (whole : (k : ℕ) (x : Post P G) → slice_get posts k ≡ Some x → IsPost wants becomes (made (k + 1)) s plan (k + 1) (Q k) x) where
  abbrev nodes : List (Noted P)
  nodes = map (λ (x : Post P G). x.node) posts

  numbers : (k : ℕ) (y : Noted P) → slice_get nodes k ≡ Some y → y.log.node ≡ 1 + k
  numbers k y e =
      let found = map_at (λ (x : Post P G). x.node) posts k y e in
      let own = ap (λ (n : Noted P). n.log.node) found.2 in
      let name = ap (λ (l : NodeLog). l.node) (whole k found.0 found.1).node.log in
      omega (arith, own, name)

  -- each program is that of a process
  pub are-numbered : All AreNumbered nodes
  are-numbered = all_at AreNumbered nodes (λ k y e p some.
      (let found = map_at (λ (x : Post P G). x.node) posts k y e in
      let is = (whole k found.0 found.1).node in
      let here : IsSome (program_of found.0.node p) = subst (λ (n : Noted P). IsSome (program_of n p)) found.2 some in
      setup-procs s is.setup (k + 1) p (is.stands.programs p ∙ made-is (λ (z : P). program_after becomes z (proc_of ((Q k).world.nodes (k + 1)) p).heard) (made (k + 1) p) (program_of found.0.node p) (is.stands.told p) here)))

  many : length nodes ≡ s.opening.nodes
  many = length-map posts (λ (x : Post P G). x.node) ∙ count

  abbrev worlds : ℕ → World
  worlds n = world_at s (numbered_posts s Q s.opening.nodes) n

  heard-by : (p : ProcName) (k : ℕ) → p.node ≡ k + 1 → k < s.opening.nodes
      → program_at nodes p ≡ option_map (λ y. program_after becomes y (proc_of ((worlds p.node).nodes p.node) p.number).heard) (made p.node p.number)
  heard-by p k is within =
      let x = get-within posts k (omega (arith, within, count)) in
      let at : slice_get nodes k ≡ Some x.0.node = get-map posts k x.0 x.1 in
      let world : worlds (k + 1) ≡ (Q k).world = ap (λ (q : Serving). q.world) (post-at s Q s.opening.nodes k within) in
      at-node nodes 1 numbers k x.0.node p at (omega (arith, is))
      ∙ ((whole k x.0 x.1).node.stands.told p.number
      ∙ (ap (λ (w : World). option_map (λ y. program_after becomes y (proc_of (w.nodes (k + 1)) p.number).heard) (made (k + 1) p.number)) (sym world)
      ∙ ap (λ (n : ℕ). option_map (λ y. program_after becomes y (proc_of ((worlds n).nodes n) p.number).heard) (made n p.number)) (sym is)))
    where
      get-map : (xs : List (Post P G)) (i : ℕ) (y : Post P G) → slice_get xs i ≡ Some y → slice_get (map (λ (z : Post P G). z.node) xs) i ≡ Some y.node
      get-map [] i y e = absurd (cc)
      get-map (z ∷ xs) zero y e = let same : z ≡ y = cc in ap (λ (v : Post P G). Some v.node) same
      get-map (z ∷ xs) (suc i) y e = get-map xs i y e

  outside : (p : ProcName) → (IsNode s.opening.nodes p.node → ⊥) → program_at nodes p ≡ None
  outside p not = none-at nodes p (λ k y e same.
      not (let is = numbers k y e in let within = slice_get_within nodes k y e in let size = many in (omega (arith, is, same), omega (arith, is, same, within, size))))

  pub are-ended : (programs : List (ProcName × P)) → ((p : ProcName) → named programs p ≡ program_at nodes p) → AreEndedPrograms wants becomes made s worlds programs
  are-ended programs are = record {
    ended = λ p is. are p ∙ heard-by p (p.node - 1) (let low = is.0 in omega (arith, low)) (let low = is.0 in let high = is.1 in omega (arith, low, high));
    only = λ p some. elim (cases_lt 0 p.node) [
      | inl low ↦ elim (cases_lt s.opening.nodes p.node) [
        | inl above ↦ absurd (false≢true (subst IsSome (are p ∙ outside p (λ is. (let high = is.1 in absurd (omega (arith, above, high))))) some))
        | inr high ↦ (omega (arith, low), high)
      ]
      | inr none ↦ absurd (false≢true (subst IsSome (are p ∙ outside p (λ is. (let low = is.0 in absurd (omega (arith, none, low))))) some))
    ];
  }
