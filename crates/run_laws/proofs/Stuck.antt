-- Where no event is enabled, nothing waits for a node that has not ended.
use Rattle.std.proofs.Common.{◌≡◌, ℕ, ◌≤◌, Bool, true, false, cond, List, [], ◌∷◌, ◌++◌, Some, inl, inr, refl, sym, ap, subst, ◌∙◌}
use Rattle.std.specs.Prelude.{filter, flat_map}
use Rattle.dom_history.specs.declared.event.What.{What}
use Rattle.dom_history.specs.declared.event.What.TheVariants.{Take, Ready, Mark}
use Rattle.dom_history.specs.declared.plan.FateRow.{FateRow}
use Rattle.dom_history.specs.Objects.{is_node}
use Rattle.fault_handler.specs.Desks.{procs}
use Rattle.fault_handler.specs.Invariant.{IsProc}
use Rattle.fault_handler.proofs.Fours.{by_proc}
use Rattle.node_runs.specs.Setups.{Setup, IsSetup, given}
use Rattle.node_runs.specs.NodeStates.{NodeState, is_ended}
use Rattle.node_runs.specs.Doings.{node_numbers}
use Rattle.node_runs.specs.NodesKeep.{IsTimely}
use Rattle.node_runs.specs.Runs.{World}
use Rattle.node_runs.specs.CallsKeep.{EachOf}
use Rattle.world_runs.specs.Gone.{notices_at}
use Rattle.world_runs.specs.OpenNotices.{open_notices}
use Rattle.world_runs.specs.Waiting.{Entry, waiting}
use Rattle.world_runs.specs.Turns.{starts_of, oldest, takes_at, coming_to, is_enabled, enabled_events, after_turns}
use Rattle.world_runs.proofs.Among.{Among, among-left, among-right}
use Rattle.run_laws.proofs.NotEnabled.{flat-among, not-enabled}
use Rattle.run_laws.proofs.FirstWaiting.{first-enabled}

pub true-false : (b : Bool) → b ≡ true → b ≡ false → ⊥
true-false true h g = absurd (cc)
true-false false h g = absurd (cc)

proc-among : (p : ℕ) → IsProc p → Among p procs
proc-among = by_proc (λ p. Among p procs) (inl refl) (inr (inl refl)) (inr (inr (inl refl))) (inr (inr (inr (inl refl))))

pub filter-none : {A : Type 0} (p : A → Bool) (xs : List A) → ((x : A) → Among x xs → p x ≡ false) → filter p xs ≡ []
filter-none p [] each = refl
filter-none p (x ∷ xs) each = ap (λ b. cond b (x ∷ filter p xs) (filter p xs)) (each x (inl refl)) ∙ filter-none p xs (λ y is. each y (inr is))

module _ (s : Setup) (setup : IsSetup s) (plan : List FateRow) (w : World) (none : enabled_events s plan w ≡ []) where
  few : s.opening.nodes ≤ 8
  few = setup.start.nodes_high

  module _ (n : ℕ) (node : is_node s.opening n ≡ true) where
    abbrev x : NodeState
    x = w.nodes n

    pub notice-comes : (what : What) → Among what (notices_at plan w n) → Among what (coming_to plan w n)
    notice-comes what is =
        among-right what (flat_map starts_of procs) (notices_at plan w n ++ (takes_at plan w n ++ Ready x.phase ∷ []))
        (among-left what (notices_at plan w n) (takes_at plan w n ++ Ready x.phase ∷ []) is)

    pub no-notice : open_notices s plan w n ≡ []
    no-notice = filter-none (is_enabled s w n) (notices_at plan w n)
        (λ what is. not-enabled s few plan w none n node what (notice-comes what is))

    module _ (alive : is_ended (given s n) (w.nodes n) ≡ false) where
      -- nothing that may come is enabled
      pub never : (what : What) → Among what (coming_to plan w n) → is_enabled s w n what ≡ true → ⊥
      never what comes is = true-false (is_enabled s w n what) is (not-enabled s few plan w none n node what comes)

      pub start-comes : (p : ℕ) → IsProc p → (what : What) → Among what (starts_of p) → Among what (coming_to plan w n)
      start-comes p proc what is = among-left what (flat_map starts_of procs) (notices_at plan w n ++ (takes_at plan w n ++ Ready x.phase ∷ [])) (flat-among starts_of p what procs (proc-among p proc) is)

      pub ready-comes : Among (Ready x.phase) (coming_to plan w n)
      ready-comes =
          among-right (Ready x.phase) (flat_map starts_of procs) (notices_at plan w n ++ (takes_at plan w n ++ Ready x.phase ∷ []))
          (among-right (Ready x.phase) (notices_at plan w n) (takes_at plan w n ++ Ready x.phase ∷ [])
          (among-right (Ready x.phase) (takes_at plan w n) (Ready x.phase ∷ []) (inl refl)))

      take-comes : (from : ℕ) → Among from node_numbers → (what : What) → Among what (oldest from (waiting plan from n w.done)) → Among what (coming_to plan w n)
      take-comes from number what is =
          among-right what (flat_map starts_of procs) (notices_at plan w n ++ (takes_at plan w n ++ Ready x.phase ∷ []))
          (among-right what (notices_at plan w n) (takes_at plan w n ++ Ready x.phase ∷ [])
          (among-left what (takes_at plan w n) (Ready x.phase ∷ []) (flat-among (λ a. oldest a (waiting plan a n w.done)) from what node_numbers number is)))

      module _ (cs : List ℕ) (e : after_turns s plan cs ≡ Some w) (timely : IsTimely w) where
        -- nothing waits on a link to the node
        pub nothing-waits : (from : ℕ) → Among from node_numbers → waiting plan from n w.done ≡ []
        nothing-waits from number = by (waiting plan from n w.done) refl
          where
            stuck : (what : What) (ws : List Entry) → waiting plan from n w.done ≡ ws → oldest from ws ≡ what ∷ [] → ⊥
            stuck what ws is one =
                let each = subst (EachOf (λ (y : What). is_enabled s w n y ≡ true)) one (first-enabled s setup plan cs w e timely n alive from ws is) in
                never what (take-comes from number what (subst (λ (xs : List Entry). Among what (oldest from xs)) (sym is) (subst (Among what) (sym one) (inl refl)))) each.0

            by : (ws : List Entry) → waiting plan from n w.done ≡ ws → waiting plan from n w.done ≡ []
            by [] is = is
            by (Entry.Copy index ∷ more) is = absurd (stuck (Take from index) (Entry.Copy index ∷ more) is refl)
            by (Entry.Mark phase ∷ more) is = absurd (stuck (Mark from phase) (Entry.Mark phase ∷ more) is refl)
