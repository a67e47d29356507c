-- In every run a node counts what it sent on each link, and each frame says the next number there.
use Rattle.std.proofs.Common.{◌≡◌, ℕ, ◌+◌, ◌-◌, List, ◌∷◌, length, Some, IfSome, inl, inr, refl, sym, ap, subst, ◌∙◌}
use Rattle.std.specs.Prelude.{All}
use Rattle.std.proofs.lemmas.Bool.{cases_eq}
use Rattle.std.proofs.lemmas.List.Elements.{All-head, All-tail}
use Rattle.uid_names.proofs.ListLemmas.{zeros-at}
use Rattle.dom_history.specs.Events.{Happening}
use Rattle.fault_handler.specs.Desks.{IsNode}
use Rattle.node_runs.specs.Setups.{Setup, IsSetup, given}
use Rattle.node_runs.specs.NodeStates.{NodeState, emitted_to}
use Rattle.node_runs.specs.Doings.{ticked}
use Rattle.node_runs.specs.NodesKeep.{IsTimely}
use Rattle.node_runs.specs.Runs.{World, first_world, Choice, world_after}
use Rattle.node_runs.proofs.Calls.{put-same, put-other}
use Rattle.node_runs.proofs.Worlds.{place_at}
use Rattle.world_runs.specs.NamedNodes.{NamesNodes}
use Rattle.world_runs.specs.Sendings.{frame_to, frames_in, frames_on}
use Rattle.world_runs.proofs.NamedNodes.{world-names}
use Rattle.world_runs.proofs.Numbering.{EmitsAt, own-frames, other-frames, did-emits, many-after, counted-after, next-index}
use Rattle.world_runs.proofs.TimelyRuns.{IsTimelyNext, next-did, next-node, every-timely-run}
use Rattle.run_laws.specs.NextNumbers.{SayNextNumbers}

-- what was sent is counted by the nodes, and says its number
pub record AreNumbered (s : Setup) (w : World) : Type 0 where
  pub many : (n : ℕ) → length (w.nodes n).emitted ≡ 8
  pub counts : (n to : ℕ) → IsNode s.opening.nodes to → emitted_to (w.nodes n) to ≡ frames_on n to w.done
  pub says : SayNextNumbers w.done

module _ (s : Setup) (setup : IsSetup s) where
  abbrev nodes : ℕ
  nodes = s.opening.nodes

  first-numbered : AreNumbered s (first_world s)
  first-numbered = record { many = λ n. refl; counts = λ n to node. zeros-at 8 (to - 1); says = tt }

  module _ (old : World) (c : Choice) (new : World) (turn : IsTimelyNext s old c new) (before : AreNumbered s old) (reaches : IfSome turn.is.step.effects.sent (λ x. IsNode s.opening.nodes x.to)) where
    abbrev it : Happening
    it = record { place = place_at c turn.is.step; what = c.what; effects = turn.is.step.effects }

    abbrev ticked_node : NodeState
    ticked_node = ticked (old.nodes c.node) turn.is.incoming

    emits : EmitsAt ticked_node turn.is.step.node turn.is.step.effects.sent
    emits = did-emits (given s c.node) ticked_node c.what turn.is.incoming turn.is.step (next-did s old c new turn.is)

    done-after : new.done ≡ it ∷ old.done
    done-after = ap (λ (w : World). w.done) turn.is.world

    counts-after : (k to : ℕ) → IsNode nodes to → emitted_to (new.nodes k) to ≡ frames_on k to (it ∷ old.done)
    counts-after k to node = elim (cases_eq k c.node) [
      | inl same ↦
          ap (λ (x : NodeState). emitted_to x to) (next-node s old c new turn.is k ∙ put-same old.nodes c.node k turn.is.step.node same)
          ∙ counted-after nodes setup.start.nodes_high ticked_node turn.is.step.node turn.is.step.effects.sent to (before.many c.node) node emits reaches
          ∙ ap (λ (i : ℕ). frames_in (frame_to to turn.is.step.effects.sent) + i) (before.counts c.node to node)
          ∙ sym (own-frames c.node to it old.done refl)
          ∙ ap (λ (i : ℕ). frames_on i to (it ∷ old.done)) (sym same)
      | inr differs ↦
          ap (λ (x : NodeState). emitted_to x to) (next-node s old c new turn.is k ∙ put-other old.nodes c.node k turn.is.step.node differs)
          ∙ before.counts k to node
          ∙ sym (other-frames k to it old.done (λ e. differs (sym e)))
    ]

    many-all : (k : ℕ) → length (new.nodes k).emitted ≡ 8
    many-all k = elim (cases_eq k c.node) [
      | inl same ↦
          ap (λ (x : NodeState). length x.emitted) (next-node s old c new turn.is k ∙ put-same old.nodes c.node k turn.is.step.node same)
          ∙ many-after ticked_node turn.is.step.node turn.is.step.effects.sent (before.many c.node) emits
      | inr differs ↦ ap (λ (x : NodeState). length x.emitted) (next-node s old c new turn.is k ∙ put-other old.nodes c.node k turn.is.step.node differs) ∙ before.many k
    ]

    later-numbered : AreNumbered s new
    later-numbered = record {
      many = many-all;
      counts = λ k to node. counts-after k to node ∙ sym (ap (λ (es : List Happening). frames_on k to es) done-after);
      says = subst SayNextNumbers (sym done-after)
          (next-index nodes ticked_node turn.is.step.node c.node old.done turn.is.step.effects.sent emits reaches (before.counts c.node), before.says);
    }

  -- where its events name nodes alone
  named-numbered : (old : World) (c : Choice) (new : World) → IsTimelyNext s old c new → (All (NamesNodes nodes) old.done → AreNumbered s old) → All (NamesNodes nodes) new.done → AreNumbered s new
  named-numbered old c new turn before named =
      let it : Happening = record { place = place_at c turn.is.step; what = c.what; effects = turn.is.step.effects } in
      let all : All (NamesNodes nodes) (it ∷ old.done) = subst (λ (es : List Happening). All (NamesNodes nodes) es) (ap (λ (w : World). w.done) turn.is.world) named in
      later-numbered old c new turn (before (All-tail (NamesNodes nodes) it old.done all)) (All-head (NamesNodes nodes) it old.done all).sent

  pub runs-number : (cs : List Choice) (w : World) → world_after s cs ≡ Some w → IsTimely w → AreNumbered s w
  runs-number cs w is timely =
      every-timely-run s setup (λ (v : World). All (NamesNodes nodes) v.done → AreNumbered s v) (λ named. first-numbered) named-numbered cs w is timely (world-names s setup cs w is timely)
