-- One event of a node alone.
use Rattle.std.proofs.Common.{◌≡◌, ℕ, ◌+◌, ◌<◌, ◌≤◌, Bool, true, false, cond, List, [], ◌∷◌, Option, Some, None, refl, sym, ap, ◌∙◌, arith}
use Rattle.std.specs.Prelude.{unwrap_or, ◌==◌, max}
use Rattle.std.specs.List.{AllByRecursion}
use Rattle.dom_history.specs.Events.{Happening}
use Rattle.dom_history.proofs.Places.{place_lt-tick}
use Rattle.node_runs.specs.Setups.{Setup, given}
use Rattle.node_runs.specs.Incomings.{tick_of}
use Rattle.node_runs.specs.Outcomes.{Stepped}
use Rattle.node_runs.specs.Steps.{step_of}
use Rattle.node_runs.specs.Runs.{World, choice_of, is_above, world_with, world_if, after_step, receiving, AreRising}
use Rattle.node_runs.proofs.Worlds.{place_at}
use Rattle.node_runs.proofs.Ticks.{step_of-tick}
use Rattle.world_runs.specs.ByPlace.{events_of}
use Rattle.local_runs.specs.LocalRuns.{Own, events_in, then_alone, alone, IsLocalRun}

-- what an event of a node alone is
pub record IsOwnNext (s : Setup) (old : World) (x : Own) (new : World) : Type 0 where
  pub step : Stepped
  pub steps : step_of (given s x.event.place.node) (old.nodes x.event.place.node) x.event.what x.received x.event.effects.dropped ≡ Some step
  pub above : is_above (place_at (choice_of x.event) step) old.done ≡ true
  pub world : new ≡ world_with old (place_at (choice_of x.event) step) x.event.what step

module _ (s : Setup) (old : World) (x : Own) (new : World) where
  by_place : (b : Bool) (step : Stepped) → step_of (given s x.event.place.node) (old.nodes x.event.place.node) x.event.what x.received x.event.effects.dropped ≡ Some step
      → is_above (place_at (choice_of x.event) step) old.done ≡ b → world_if b old (place_at (choice_of x.event) step) x.event.what step ≡ Some new → IsOwnNext s old x new
  by_place false step steps above e = absurd (cc)
  by_place true step steps above e = record { step = step; steps = steps; above = above; world = ap (λ (o : Option World). unwrap_or o old) (sym e) }

  by_step : (o : Option Stepped) → step_of (given s x.event.place.node) (old.nodes x.event.place.node) x.event.what x.received x.event.effects.dropped ≡ o
      → after_step old (choice_of x.event) o ≡ Some new → IsOwnNext s old x new
  by_step None steps e = absurd (cc)
  by_step (Some step) steps e = by_place (is_above (place_at (choice_of x.event) step) old.done) step steps refl e

  pub own-next : receiving s old (choice_of x.event) (Some x.received) ≡ Some new → IsOwnNext s old x new
  own-next e = by_step (step_of (given s x.event.place.node) (old.nodes x.event.place.node) x.event.what x.received x.event.effects.dropped) refl e

-- the run before the last event
pub record IsAfter (s : Setup) (n : ℕ) (x : Own) (older : List Own) (w : World) : Type 0 where
  pub before : World
  pub run : IsLocalRun s n older before
  pub next : IsOwnNext s before x w
  pub event : record { place = place_at (choice_of x.event) next.step; what = x.event.what; effects = next.step.effects } ≡ x.event

module _ (s : Setup) (n : ℕ) (x : Own) (older : List Own) (w : World) (is : IsLocalRun s n (x ∷ older) w) where
  by_before : (o : Option World) → alone s older ≡ o → then_alone s o x ≡ Some w → IsAfter s n x older w
  by_before None run e = absurd (cc)
  by_before (Some old) run e =
      let next = own-next s old x w e in
      let all : (record { place = place_at (choice_of x.event) next.step; what = x.event.what; effects = next.step.effects }) ∷ old.done ≡ x.event ∷ events_in older =
      ap (λ (v : World). v.done) (sym next.world) ∙ is.done in
      record {
        before = old;
        run = record { node = is.node.1; run = run; done = cc };
        next = next;
        event = cc;
      }

  pub last-of : IsAfter s n x older w
  last-of = by_before (alone s older) refl is.run

-- an event's tick is above that of what it receives
pub own-tick : (s : Setup) (n : ℕ) (x : Own) (older : List Own) (w : World) → IsLocalRun s n (x ∷ older) w → tick_of x.received < x.event.place.tick
own-tick s n x older w is =
    let after = last-of s n x older w is in
    let old = after.before in
    let m = x.event.place.node in
    let tick : after.next.step.node.tick ≡ max (old.nodes m).tick (tick_of x.received) + 1 = step_of-tick (given s m) (old.nodes m) x.event.what x.received x.event.effects.dropped after.next.step after.next.steps in
    let same : after.next.step.node.tick ≡ x.event.place.tick = ap (λ (e : Happening). e.place.tick) after.event in
    omega (arith, tick, same)

pub own-ticks : (s : Setup) (n : ℕ) (own : List Own) (w : World) → IsLocalRun s n own w → AllByRecursion (λ x. tick_of x.received < x.event.place.tick) own
own-ticks s n [] w is = tt
own-ticks s n (x ∷ older) w is = (own-tick s n x older w is, own-ticks s n older (last-of s n x older w is).before (last-of s n x older w is).run)

pub below-all : (t : ℕ) (e : Happening) (older : List Happening) → e.place.tick ≤ t → AreRising (e ∷ older) → AllByRecursion (λ f. f.place.tick ≤ t) older
below-all t e [] low rising = tt
below-all t e (f ∷ older) low rising =
    let lower : f.place.tick ≤ e.place.tick = place_lt-tick f.place e.place rising.0 in
    let least : f.place.tick ≤ t = omega (arith, lower, low) in
    (least, below-all t f older least rising.1)

pub all-events : (P : Happening → Type 0) (n : ℕ) (es : List Happening) → AllByRecursion P es → AllByRecursion P (events_of n es)
all-events P n [] all = tt
all-events P n (e ∷ es) all = either (e.place.node == n) (all-events P n es all.1)
  where
    either : (b : Bool) → AllByRecursion P (events_of n es) → AllByRecursion P (cond b (e ∷ events_of n es) (events_of n es))
    either true rest = (all.0, rest)
    either false rest = rest

pub all-own : (P : Happening → Type 0) (own : List Own) → AllByRecursion P (events_in own) → AllByRecursion (λ x. P x.event) own
all-own P [] all = tt
all-own P (x ∷ own) all = (all.0, all-own P own all.1)

-- what each item has of two things gives a third
pub all-both : {A : Type 0} (P Q R : A → Type 0) (xs : List A) → ((x : A) → P x → Q x → R x) → AllByRecursion P xs → AllByRecursion Q xs → AllByRecursion R xs
all-both P Q R [] gives ps qs = tt
all-both P Q R (x ∷ xs) gives ps qs = (gives x ps.0 qs.0, all-both P Q R xs gives ps.1 qs.1)

pub no-events : (own : List Own) → events_in own ≡ [] → own ≡ []
no-events [] is = refl
no-events (x ∷ own) is = absurd (cc)
