-- In every run the resident pages of each node stand by their last uses.
use Rattle.std.proofs.Common.{◌≡◌, ℕ, true, List, [], ◌∷◌, Option, Some, None, refl, sym, ap, subst, ◌∙◌, arith}
use Rattle.std.specs.Prelude.{◌==◌, map}
use Rattle.std.proofs.lemmas.Bool.Decides.{nat_tests}
use Rattle.std.proofs.lemmas.Option.{same_Some}
use Rattle.run_laws.proofs.HearingRuns.{timely-before}
use Rattle.uid_names.proofs.ListLemmas.{by_cases}
use Rattle.uid_names.proofs.Passed.{equal}
use Rattle.dom_history.specs.Events.{Happening}
use Rattle.dom_history.specs.Objects.{is_node}
use Rattle.fault_handler.specs.Desks.{DeskState}
use Rattle.node_runs.specs.Setups.{Setup, IsSetup, given}
use Rattle.node_runs.specs.NodeStates.{NodeState}
use Rattle.node_runs.specs.NodesKeep.{IsNodeOf, IsTimely}
use Rattle.node_runs.specs.SentFrames.{IsIncoming, IsFrame}
use Rattle.node_runs.specs.Runs.{World, choice_of, first_world, then_next, world_of}
use Rattle.node_runs.proofs.Calls.{put-same, put-other}
use Rattle.node_runs.proofs.Worlds.{IsNext, next-is}
use Rattle.node_runs.proofs.Running.{run-keeps}
use Rattle.node_runs.proofs.Receiving.{incoming-is}
use Rattle.node_runs.proofs.SettingUp.{setup-gives}
use Rattle.run_laws.specs.OpenTasks.{AreTasksPlaced}
use Rattle.run_laws.proofs.TaskPlaces.{runs-placed}
use Rattle.recent_runs.specs.Uses.{used_in, used_between, used_here, with_use, uses}
use Rattle.recent_runs.specs.CacheOrders.{StandByUse}
use Rattle.recent_runs.proofs.Stepping.{StepKept, step-kept}

-- the event before which a world stood
pub record Before (s : Setup) (x : Happening) (older : List Happening) (w : World) : Type 0 where
  pub old : World
  pub run : world_of s older ≡ Some old
  pub is : IsNext s old (choice_of x) w
  pub timely : IsTimely old
  pub node : IsNodeOf (given s x.place.node) (old.nodes x.place.node)
  pub frame : IsIncoming is.incoming
  pub placed : AreTasksPlaced (old.nodes x.place.node)

module _ (s : Setup) (setup : IsSetup s) where
  by-old : (x : Happening) (older : List Happening) (w : World) (o : Option World) → world_of s older ≡ o → then_next s o (choice_of x) ≡ Some w → IsTimely w → Before s x older w
  by-old x older w None run e timely = absurd (cc)
  by-old x older w (Some old) run e timely =
      let is = next-is s old (choice_of x) w e in
      let was = timely-before s old (choice_of x) w is timely in
      let kept = (run-keeps s setup (map choice_of older) old run).kept was in
      record {
        old = old;
        run = run;
        is = is;
        timely = was;
        node = kept.nodes x.place.node is.node;
        frame = incoming-is IsIncoming tt (λ number tick. tt) (λ tick. tt) IsFrame (λ m is. is) old x.place.node (λ from. kept.frames from x.place.node) x.what is.incoming is.comes;
        placed = runs-placed s setup (map choice_of older) old run was x.place.node is.node;
      }

  pub before : (x : Happening) (older : List Happening) (w : World) → world_of s (x ∷ older) ≡ Some w → IsTimely w → Before s x older w
  before x older w e timely = by-old x older w (world_of s older) refl e timely

  module _ (x : Happening) (older : List Happening) (w : World) (run : world_of s (x ∷ older) ≡ Some w) (b : Before s x older w) where
    -- what the event used
    pub used-is : used_between x.place.node (world_of s older) (world_of s (x ∷ older)) ≡ used_in (b.old.nodes x.place.node).desk b.is.step.note
    used-is =
        ap (λ o. used_between x.place.node o (world_of s (x ∷ older))) b.run ∙ ap (λ o. used_between x.place.node (Some b.old) o) run
        ∙ ap (λ (v : World). used_between x.place.node (Some b.old) (Some v)) b.is.world

    pub node-kept : StepKept (b.old.nodes x.place.node) b.is.step
    node-kept = step-kept (given s x.place.node) (b.old.nodes x.place.node) x.what b.is.incoming x.effects.dropped b.is.step (setup-gives s setup x.place.node b.is.node) b.node b.frame b.placed b.is.steps

    later : ((n : ℕ) → is_node s.opening n ≡ true → StandByUse (uses s n older) (b.old.nodes n).desk) → (n : ℕ) → is_node s.opening n ≡ true → StandByUse (uses s n (x ∷ older)) (w.nodes n).desk
    later was n node = by_cases (x.place.node == n) (StandByUse (uses s n (x ∷ older)) (w.nodes n).desk)
        (λ h.
        let same : x.place.node ≡ n = equal x.place.node n h in
        subst (λ a. StandByUse (uses s a (x ∷ older)) (w.nodes a).desk) same
        (subst (λ (d : DeskState). StandByUse (uses s x.place.node (x ∷ older)) d) (sym (ap (λ (v : World). (v.nodes x.place.node).desk) b.is.world ∙ ap (λ (y : NodeState). y.desk) (put-same b.old.nodes x.place.node x.place.node b.is.step.node refl)))
        (subst (λ us. StandByUse us b.is.step.node.desk) (sym (here ∙ ap (λ page. with_use page (uses s x.place.node older)) used-is))
        (node-kept (uses s x.place.node older) (was x.place.node b.is.node)))))
        (λ h.
        subst (λ (d : DeskState). StandByUse (uses s n (x ∷ older)) d) (sym (ap (λ (v : World). (v.nodes n).desk) b.is.world ∙ ap (λ (y : NodeState). y.desk) (put-other b.old.nodes x.place.node n b.is.step.node (λ e. absurd (let f = h in let k : (x.place.node == x.place.node) ≡ true = grind (arith, nat_tests) in let m = ap (λ a. x.place.node == a) e in cc)))))
        (subst (λ us. StandByUse us (b.old.nodes n).desk) (sym (ap (λ c. with_use (used_here c (used_between n (world_of s older) (world_of s (x ∷ older)))) (uses s n older)) h)) (was n node)))
      where
        here : uses s x.place.node (x ∷ older) ≡ with_use (used_between x.place.node (world_of s older) (world_of s (x ∷ older))) (uses s x.place.node older)
        here = ap (λ c. with_use (used_here c (used_between x.place.node (world_of s older) (world_of s (x ∷ older)))) (uses s x.place.node older)) (let k : (x.place.node == x.place.node) ≡ true = grind (arith, nat_tests) in k)

  pub stands : (es : List Happening) (w : World) → world_of s es ≡ Some w → IsTimely w → (n : ℕ) → is_node s.opening n ≡ true → StandByUse (uses s n es) (w.nodes n).desk
  stands [] w run timely n node = subst (λ (v : World). StandByUse [] (v.nodes n).desk) (same_Some (first_world s) w run) tt
  stands (x ∷ older) w run timely n node =
      let b = before x older w run timely in
      later x older w run b (λ a is. stands older b.old b.run b.timely a is) n node
