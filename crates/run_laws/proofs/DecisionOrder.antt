-- In every run a home decides the calls of a process by rising numbers.
use Rattle.std.proofs.Common.{◌≡◌, ℕ, ◌<◌, ◌≤◌, List, [], ◌∷◌, Option, Some, None, refl, sym, subst, arith}
use Rattle.std.proofs.lemmas.Option.{same_Some}
use Rattle.uid_names.specs.Names.{ProcName}
use Rattle.uid_names.specs.declared.ids.Place.{Place}
use Rattle.call_once.specs.Calls.{last_of}
use Rattle.ring_messages.specs.Frames.{caller_of}
use Rattle.node_runs.specs.Setups.{Setup, given}
use Rattle.node_runs.specs.Notes.{Note}
use Rattle.node_runs.specs.Doings.{ticked}
use Rattle.node_runs.specs.Runs.{World, Noted, Choice, first_world, then_next, world_after}
use Rattle.node_runs.specs.CallsKeep.{HasProcs}
use Rattle.node_runs.specs.DecidedCalls.{IsDecided, AreDecisions}
use Rattle.node_runs.proofs.Doing.{step_of-did}
use Rattle.node_runs.proofs.Receiving.{EachOf-more}
use Rattle.node_runs.proofs.Worlds.{IsNext, place_at, next-is}
use Rattle.node_runs.proofs.Decisions.{IsNoDecision, HomeStep, apart, decides, did-home, decisions-are}
use Rattle.run_laws.specs.DecisionOrder.{IsDecidedBelow, IsDecidedAbove, AreDecisionsRising}

-- what a home decided before is no higher than the last number that it served
below-last : (w : World) (n : ℕ) (p : ProcName) (number : ℕ) → last_of p (w.nodes n).side.served < number → (x : Place) (note : Note) → IsDecided w x note → x.node ≡ n → IsDecidedBelow p number note
below-last w n p number above x Note.Nothing is at = tt
below-last w n p number above x (Note.Began q op) is at = tt
below-last w n p number above x (Note.Did q phase op reply) is at = tt
below-last w n p number above x (Note.Ended t) is at = tt
below-last w n p number above x (Note.Decided q k ask answer) is at = λ same.
    let most : k ≤ last_of p (w.nodes n).side.served = subst (λ a. k ≤ last_of p (w.nodes a).side.served) at (subst (λ r. k ≤ last_of r (w.nodes x.node).side.served) same is.0) in
    omega (arith, above, most)

none-above : (x : Place) (note : Note) (older : List Noted) → IsNoDecision note → IsDecidedAbove x note older
none-above x Note.Nothing older is = tt
none-above x (Note.Began q op) older is = tt
none-above x (Note.Did q phase op reply) older is = tt
none-above x (Note.Ended t) older is = tt
none-above x (Note.Decided q k ask answer) older is = absurd is

step-rising : (s : Setup) (old : World) (c : Choice) (new : World) → IsNext s old c new → AreDecisions old → AreDecisionsRising old.trace → AreDecisionsRising new.trace
step-rising s old c new is decisions rising = subst (λ (w : World). AreDecisionsRising w.trace) (sym is.world)
    (by (did-home (given s c.node) (ticked (old.nodes c.node) is.incoming) c.what is.incoming is.step (step_of-did (given s c.node) (old.nodes c.node) c.what is.incoming c.dropped is.step is.steps)), rising)
  where
    by : HomeStep (given s c.node) (ticked (old.nodes c.node) is.incoming) c.what is.incoming is.step → IsDecidedAbove (place_at c is.step) is.step.note old.trace
    by (apart more same none) = none-above (place_at c is.step) is.step.note old.trace none
    by (decides from index m ask answer takes frame asks more above now note decision) = subst (λ k. IsDecidedAbove (place_at c is.step) k old.trace) (sym note)
        (EachOf-more (λ (j : Noted). IsDecided old j.place j.note) (λ (j : Noted). j.place.node ≡ c.node → IsDecidedBelow (caller_of m) m.number j.note) old.trace
        (λ j decided at. below-last old c.node (caller_of m) m.number above j.place j.note decided at) decisions.each)

module _ (s : Setup) (procs : HasProcs s) where
  then-one : (cs : List Choice) (c : Choice) (w : World) (o : Option World) → world_after s cs ≡ o → ((old : World) → world_after s cs ≡ Some old → AreDecisionsRising old.trace) → then_next s o c ≡ Some w → AreDecisionsRising w.trace
  then-one cs c w None has before e = absurd (cc)
  then-one cs c w (Some old) has before e = step-rising s old c w (next-is s old c w e) (decisions-are s procs cs old has) (before old has)

  -- in every run
  pub decisions-rise : (cs : List Choice) (w : World) → world_after s cs ≡ Some w → AreDecisionsRising w.trace
  decisions-rise [] w e = subst (λ (x : World). AreDecisionsRising x.trace) (same_Some (first_world s) w e) tt
  decisions-rise (c ∷ cs) w e = then-one cs c w (world_after s cs) refl (λ old has. decisions-rise cs old has) e
