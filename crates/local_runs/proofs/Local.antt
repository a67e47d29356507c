-- Named runs of nodes alone are together a recent run.
use Rattle.std.proofs.Common.{◌≡◌, ℕ, List, [], ◌∷◌, Some, IfSome, sym, ap, subst, ◌∙◌}
use Rattle.std.specs.List.{AllByRecursion}
use Rattle.std.proofs.lemmas.Option.{same_Some}
use Rattle.dom_history.specs.Events.{Happening}
use Rattle.node_runs.specs.Setups.{Setup, IsSetup, given}
use Rattle.node_runs.specs.NodeStates.{NodeState}
use Rattle.node_runs.specs.NodesKeep.{IsTimely}
use Rattle.node_runs.specs.Steps.{step_of}
use Rattle.node_runs.specs.Runs.{World, first_world, incoming_of, world_of}
use Rattle.node_runs.proofs.Calls.{put-same}
use Rattle.local_runs.specs.LocalRuns.{Own, IsLocalRun, events_in, IsMatched, AreLocalRuns, IsMergeOf, IsTogether}
use Rattle.local_runs.proofs.Alone.{last-of}
use Rattle.local_runs.proofs.Merging.{IsLed, merged-led, from-sender}
use Rattle.recent_runs.specs.Recent.{IsRecent}
use Rattle.recent_runs.specs.OwnSteps.{own_state, AreOwnNamed}
use Rattle.recent_runs.proofs.Running.{named-are}
use Rattle.recent_runs.proofs.Owning.{own-one, named-one, own-named}
use Rattle.local_runs.specs.NamedRuns.{IsNamedAlone, AreNamedAlone}

module _ (s : Setup) (ws : ℕ → World) (w : World) (together : IsTogether ws w) (n : ℕ) where
  local-own : (own : List Own) (v : World) → IsLocalRun s n own v → AllByRecursion (IsMatched ws n) own → AreNamedAlone s n own → (own_state s w n (events_in own) ≡ Some (v.nodes n)) × AreOwnNamed s w n (events_in own)
  local-own [] v is matched named = (ap (λ (u : World). Some (u.nodes n)) (same_Some (first_world s) v is.run), tt)
  local-own (x ∷ older) v is matched named =
      let after = last-of s n x older v is in
      let was = local-own older after.before after.run matched.1 named.1 in
      let node : x.event.place.node ≡ n = is.node.0 in
      let comes : incoming_of w n x.event.what ≡ Some x.received = from-sender ws w together n x.event.what ∙ matched.0 in
      let steps : step_of (given s n) (after.before.nodes n) x.event.what x.received x.event.effects.dropped ≡ Some after.next.step =
      subst (λ a. step_of (given s a) (after.before.nodes a) x.event.what x.received x.event.effects.dropped ≡ Some after.next.step) node after.next.steps in
      let here : IsNamedAlone s n x after.before = subst (λ o. IfSome o (IsNamedAlone s n x)) after.run.run named.0 in (
        own-one s w n x.event (events_in older) (after.before.nodes n) x.received after.next.step was.0 comes steps
            ∙ ap (λ (y : NodeState). Some y) (sym (ap (λ (u : World). u.nodes n) after.next.world ∙ put-same after.before.nodes x.event.place.node n after.next.step.node (sym node))),
        named-one s w n x.event (events_in older) (after.before.nodes n) x.received was.0 comes here was.1,
      )

pub local-recent : (s : Setup) → IsSetup s → (owns : ℕ → List Own) (ws : ℕ → World) (es : List Happening) → AreLocalRuns s owns ws → IsMergeOf owns es → ((n : ℕ) → AreNamedAlone s n (owns n))
    → (w : World) → world_of s es ≡ Some w → IsTimely w → IsRecent s es
local-recent s setup owns ws es are merge named w run timely =
    let led : IsLed s ws es = merged-led s es owns ws are merge in
    let same : led.world ≡ w = same_Some led.world w (sym led.run ∙ run) in
    named-are s setup es w run (ap (λ (v : World). v.done) (sym same) ∙ led.done) timely
    (own-named s w es w run (λ n what i h. h)
    (λ n. subst (AreOwnNamed s w n) (sym (merge.own n)) (local-own s ws w (subst (IsTogether ws) same led.together) n (owns n) (ws n) (are.run n) (are.matched n) (named n)).1))

pub goes-on : (s : Setup) (n : ℕ) (own : List Own) (w : World) → IsLocalRun s n own w → AreNamedAlone s n own → (x : Own) → IsNamedAlone s n x w → AreNamedAlone s n (x ∷ own)
goes-on s n own w is named x here = (subst (λ o. IfSome o (IsNamedAlone s n x)) (sym is.run) here, named)
