-- Runs while no tick is above the greatest one: what each event did, and what holds of all such runs by it.
use Rattle.std.proofs.Common.{◌≡◌, ℕ, ◌+◌, List, [], ◌∷◌, Option, Some, None, inl, inr, refl, ap, subst, ◌∙◌, arith}
use Rattle.std.specs.Prelude.{max}
use Rattle.std.proofs.lemmas.Bool.{cases_eq}
use Rattle.std.proofs.lemmas.Option.{same_Some}
use Rattle.node_runs.specs.Setups.{Setup, IsSetup, given}
use Rattle.node_runs.specs.NodeStates.{NodeState}
use Rattle.node_runs.specs.Incomings.{tick_of}
use Rattle.node_runs.specs.Doings.{ticked}
use Rattle.node_runs.specs.Dones.{Did}
use Rattle.node_runs.specs.SentFrames.{IsFrame, IsIncoming}
use Rattle.node_runs.specs.NodesKeep.{IsTimely}
use Rattle.node_runs.specs.Runs.{World, first_world, Choice, put, then_next, world_after}
use Rattle.node_runs.proofs.Doing.{step_of-did}
use Rattle.node_runs.proofs.Ticks.{step_of-tick}
use Rattle.node_runs.proofs.Calls.{put-same, put-other}
use Rattle.node_runs.proofs.Receiving.{incoming-is}
use Rattle.node_runs.proofs.Running.{AreKept, run-keeps}
use Rattle.node_runs.proofs.Worlds.{IsNext, next-is}

-- an event of a run
pub record IsTimelyNext (s : Setup) (old : World) (c : Choice) (new : World) : Type 0 where
  pub is : IsNext s old c new
  pub timely : IsTimely old
  pub kept : AreKept s old

module _ (s : Setup) (old : World) (c : Choice) (new : World) (is : IsNext s old c new) where
  pub next-node : (n : ℕ) → new.nodes n ≡ put old.nodes c.node is.step.node n
  next-node n = ap (λ (w : World). w.nodes n) is.world

  pub next-tick : is.step.node.tick ≡ max (old.nodes c.node).tick (tick_of is.incoming) + 1
  next-tick = step_of-tick (given s c.node) (old.nodes c.node) c.what is.incoming c.dropped is.step is.steps

  timely-before : IsTimely new → IsTimely old
  timely-before timely n = elim (cases_eq n c.node) [
    | inl same ↦
        (let e = ap (λ (x : NodeState). x.tick) (next-node n ∙ put-same old.nodes c.node n is.step.node same) in
        let f = timely n in let h = ap (λ b. (old.nodes b).tick) same in let k = next-tick in omega (arith, e, f, h, k))
    | inr differs ↦ (let e = ap (λ (x : NodeState). x.tick) (next-node n ∙ put-other old.nodes c.node n is.step.node differs) in let f = timely n in omega (arith, e, f))
  ]

  pub next-did : Did (given s c.node) (ticked (old.nodes c.node) is.incoming) c.what is.incoming is.step
  next-did = step_of-did (given s c.node) (old.nodes c.node) c.what is.incoming c.dropped is.step is.steps

module _ (s : Setup) (setup : IsSetup s) where
  timely-next : (cs : List Choice) (old : World) (c : Choice) (new : World) → world_after s cs ≡ Some old → IsNext s old c new → IsTimely old → IsTimelyNext s old c new
  timely-next cs old c new before is timely = record { is = is; timely = timely; kept = (run-keeps s setup cs old before).kept timely }

  module _ (P : World → Type 0) (first : P (first_world s)) (later : (old : World) (c : Choice) (new : World) → IsTimelyNext s old c new → P old → P new) where
    then-one : (cs : List Choice) (c : Choice) (w : World) (o : Option World) → world_after s cs ≡ o → ((old : World) → o ≡ Some old → IsTimely old → P old) → then_next s o c ≡ Some w → IsTimely w → P w
    then-one cs c w None has before e timely = absurd (cc)
    then-one cs c w (Some old) has before e timely =
        let is = next-is s old c w e in
        let was = timely-before s old c w is timely in
        later old c w (timely-next cs old c w has is was) (before old refl was)

    pub every-timely-run : (cs : List Choice) (w : World) → world_after s cs ≡ Some w → IsTimely w → P w
    every-timely-run [] w e timely = subst P (same_Some (first_world s) w e) first
    every-timely-run (c ∷ cs) w e timely = then-one cs c w (world_after s cs) refl (λ old before was. every-timely-run cs old before was) e timely

-- what is received in such a run is as nodes send it
pub next-received : (s : Setup) (old : World) (c : Choice) (new : World) (turn : IsTimelyNext s old c new) → IsIncoming turn.is.incoming
next-received s old c new turn =
    incoming-is IsIncoming tt (λ number tick. tt) (λ tick. tt) IsFrame (λ m frame. frame) old c.node (λ from. turn.kept.frames from c.node) c.what turn.is.incoming turn.is.comes
