-- One event of a run: which of its processes has what open then.
use Rattle.std.proofs.Common.{◌≡◌, ◌≢◌, ℕ, true, false, List, ◌∷◌, ◌++◌, inl, inr, refl, sym, ap, subst, ◌∙◌, arith}
use Rattle.std.proofs.lemmas.Bool.{cases_eq}
use Rattle.std.proofs.lemmas.Bool.Decides.{nat_tests}
use Rattle.uid_names.specs.Names.{ProcName, same_proc}
use Rattle.uid_names.specs.Openings.{Start}
use Rattle.dom_history.specs.Histories.{Item, Pending}
use Rattle.history_moves.specs.HistoryMoves.{history}
use Rattle.fault_handler.specs.Invariant.{IsProc}
use Rattle.node_runs.specs.NodeStates.{ProcState, NodeState, proc_of}
use Rattle.node_runs.specs.Outcomes.{Stepped}
use Rattle.node_runs.specs.Notes.{Told}
use Rattle.node_runs.specs.Runs.{World, Noted, Choice, world_with}
use Rattle.node_runs.specs.RunHistories.{doing_of, items_of, items_from}
use Rattle.node_runs.proofs.Worlds.{place_at}
use Rattle.node_runs.proofs.Calls.{put-same, put-other}
use Rattle.run_laws.specs.DecidedReplies.{proc_at}
use Rattle.run_laws.specs.MovedHistories.{IsMovedOrSame}
use Rattle.run_laws.proofs.SameItems.{items-append}

module _ (old : World) (c : Choice) (step : Stepped) where
  abbrev pub after : World
  after = world_with old (place_at c step) c.what step

  pub doing-here : (q : ℕ) → doing_of after (proc_at c.node q) ≡ (proc_of step.node q).doing
  doing-here q = ap (λ (y : NodeState). (proc_of y q).doing) (put-same old.nodes c.node c.node step.node refl)

  pub doing-away : (n q : ℕ) → n ≢ c.node → doing_of after (proc_at n q) ≡ doing_of old (proc_at n q)
  doing-away n q away = ap (λ (y : NodeState). (proc_of y q).doing) (put-other old.nodes c.node n step.node away)

  -- where one process of the node comes on the others have the same open
  pub doing-other : (p : ℕ) → ((q : ℕ) → IsProc q → q ≢ p → proc_of step.node q ≡ proc_of (old.nodes c.node) q) → (n q : ℕ) → IsProc q → (n ≡ c.node → q ≡ p → ⊥) → doing_of after (proc_at n q) ≡ doing_of old (proc_at n q)
  doing-other p others n q proc differs = elim (cases_eq n c.node) [
    | inr away ↦ doing-away n q away
    | inl same ↦ subst (λ a. doing_of after (proc_at a q) ≡ doing_of old (proc_at a q)) (sym same) (doing-here q ∙ ap (λ (y : ProcState). y.doing) (others q proc (λ f. differs same f)))
  ]

  pub name-apart : (p : ℕ) (q : ProcName) → same_proc (proc_at c.node p) q ≡ false → q.node ≡ c.node → q.number ≡ p → ⊥
  name-apart p q apart e f = absurd (let g : true ≡ false = grind (arith, nat_tests, apart, e, f) in cc)

-- the items of notes that are cut at one of them
pub items-cut : (w : World) (ts : List Told) (notes newer : List Noted) (it : Noted) (older : List Noted) → notes ≡ newer ++ it ∷ older → (here : List Item) → items_of w ts it.place it.note ≡ here
    → items_from w ts notes ≡ items_from w ts newer ++ (here ++ items_from w ts older)
items-cut w ts notes newer it older parts here is =
    ap (items_from w ts) parts ∙ (items-append w ts newer (it ∷ older) ∙ ap (λ is. items_from w ts newer ++ (is ++ items_from w ts older)) is)

-- histories by their items and what is open
pub moved-history : (opening : Start) (is js was now : List Item) (ps qs open_was open_now : List Pending) → was ≡ is → open_was ≡ ps → now ≡ js → open_now ≡ qs → IsMovedOrSame opening (history is ps) (history js qs)
    → IsMovedOrSame opening (history was open_was) (history now open_now)
moved-history opening is js was now ps qs open_was open_now a b c d moved =
    subst (λ x. IsMovedOrSame opening (history x open_was) (history now open_now)) (sym a)
    (subst (λ x. IsMovedOrSame opening (history is x) (history now open_now)) (sym b)
    (subst (λ x. IsMovedOrSame opening (history is ps) (history x open_now)) (sym c)
    (subst (λ x. IsMovedOrSame opening (history is ps) (history js x)) (sym d) moved)))
