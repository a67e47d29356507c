-- The events of local runs, by place, are a run by the plan.
use Rattle.std.proofs.Common.{◌≡◌, ◌≢◌, ℕ, zero, suc, ◌+◌, ◌<◌, ◌≤◌, Bool, true, false, cond, List, [], ◌∷◌, ◌++◌, length, drop, Option, Some, None, inl, inr, refl, sym, ap, subst, ◌∙◌, append-nil, arith}
use Rattle.std.specs.Prelude.{◌==◌, ◌&&◌, IsTrue, AllPairs, slice_index_or}
use Rattle.std.specs.List.{AllByRecursion}
use Rattle.std.proofs.lemmas.Bool.{cases_eq, eq-eqb, ne_eqb}
use Rattle.std.proofs.lemmas.List.Elements.{All-from_recursion}
use Rattle.std.proofs.Math.Seq.{drop-append_seam}
use Rattle.uid_names.proofs.ListLemmas.{by_cases}
use Rattle.uid_names.specs.Names.{ProcName, same_proc}
use Rattle.uid_names.proofs.Passed.{left-true, equal}
use Rattle.dom_history.specs.declared.event.What.{What}
use Rattle.dom_history.specs.declared.event.What.TheVariants.{Begin, Go, Take, Notice, Ready, Mark}
use Rattle.dom_history.specs.declared.plan.FateRow.{FateRow}
use Rattle.dom_history.specs.Events.{Happening}
use Rattle.dom_history.specs.Plans.{fate_of, IsPlan}
use Rattle.ring_messages.specs.Frames.{Message, caller_of}
use Rattle.node_runs.specs.Setups.{Setup, given}
use Rattle.node_runs.specs.Incomings.{Incoming}
use Rattle.node_runs.specs.Runs.{World, numbered, told_if, told_of, incoming_of, world_of}
use Rattle.node_runs.specs.Deliveries.{deliveries, takes_on, noticed_by, noticed_in, is_gone, is_prefix, sent_on, IsPlanned}
use Rattle.world_runs.specs.ByPlace.{events_of}
use Rattle.world_runs.specs.Gone.{FrameName, same_frame}
use Rattle.world_runs.specs.Sendings.{Sending, sent_if, sent_by, sendings, frames_in, frames_on}
use Rattle.world_runs.specs.Waiting.{Entry, entry_by, entries, entries_taken, entries_put, waiting}
use Rattle.world_runs.proofs.Sent.{step-sent}
use Rattle.world_runs.proofs.Alike.{frames-added}
use Rattle.world_runs.proofs.Taking.{AreInOrder, frames-counted, taken-prefix}
use Rattle.world_runs.proofs.Telling.{one_if, times, times-append, frame-is, AreOnce, once-pairs}
use Rattle.world_runs.proofs.Alone.{no-entry}
use Rattle.world_runs.proofs.Telling.{all-left, all-right, all-append}
use Rattle.local_runs.specs.LocalRuns.{Own, events_in, sender_of, IsLocalRun, IsMatched, AreLocalRuns, AreDelivered, IsMergeOf}
use Rattle.local_runs.proofs.Alone.{last-of}
use Rattle.local_runs.proofs.Merging.{IsLed, merged-led, led-run}

-- what was sent on a link is told by the events of its first node, what was taken by those of the other one
sendings-own : (from to : ℕ) (es : List Happening) → sendings from to es ≡ sendings from to (events_of from es)
sendings-own from to [] = refl
sendings-own from to (e ∷ older) = either (e.place.node == from) refl (sendings-own from to older)
  where
    either : (b : Bool) → (e.place.node == from) ≡ b → sendings from to older ≡ sendings from to (events_of from older)
        → sendings from to (e ∷ older) ≡ sendings from to (cond b (e ∷ events_of from older) (events_of from older))
    either true here before = ap (λ (xs : List Sending). sent_by from to e ++ xs) before
    either false away before = ap (λ b. sent_if b from to e ++ sendings from to older) away ∙ before

none-taken : (from to n : ℕ) (what : What) → (n == to) ≡ false → entry_by from to n what ≡ []
none-taken from to n (Begin p) h = refl
none-taken from to n (Go p) h = refl
none-taken from to n (Take sender index) h = no-entry (sender == from) (n == to) (Entry.Copy index) h
none-taken from to n (Notice p a b k) h = refl
none-taken from to n (Ready phase) h = refl
none-taken from to n (Mark sender phase) h = no-entry (sender == from) (n == to) (Entry.Mark phase) h

taken-own : (from to : ℕ) (es : List Happening) → entries_taken from to es ≡ entries_taken from to (events_of to es)
taken-own from to [] = refl
taken-own from to (e ∷ older) = either (e.place.node == to) refl (taken-own from to older)
  where
    either : (b : Bool) → (e.place.node == to) ≡ b → entries_taken from to older ≡ entries_taken from to (events_of to older)
        → entries_taken from to (e ∷ older) ≡ entries_taken from to (cond b (e ∷ events_of to older) (events_of to older))
    either true here before = ap (λ (xs : List Entry). xs ++ entry_by from to e.place.node e.what) before
    either false away before =
        ap (λ (xs : List Entry). entries_taken from to older ++ xs) (none-taken from to e.place.node e.what away)
        ∙ append-nil (entries_taken from to older) ∙ before

-- a node alone counts what it sent
pub local-frames : (s : Setup) (n : ℕ) (own : List Own) (w : World) → IsLocalRun s n own w → (from to : ℕ) → length (w.frames from to) ≡ frames_on from to (events_in own)
local-frames s n [] w is from to = ap (λ (o : Option World). sent_on o from to) (sym is.run)
local-frames s n (x ∷ older) w is from to =
    let after = last-of s n x older w is in
    let m = x.event.place.node in
    let it : Happening = record { place = record { tick = after.next.step.node.tick; node = m }; what = x.event.what; effects = after.next.step.effects } in
    ap (λ (v : World). length (v.frames from to)) after.next.world
    ∙ ap (λ (xs : List Message). length xs) (frames-added after.before m after.next.step.frame from to)
    ∙ frames-counted after.next.step.node.tick m from to after.next.step.frame it (events_in older) (after.before.frames from to) refl
    (step-sent (given s m) (after.before.nodes m) x.event.what x.received x.event.effects.dropped after.next.step after.next.steps)
    (local-frames s n older after.before after.run from to)
    ∙ ap (λ (e : Happening). frames_on from to (e ∷ events_in older)) after.event

-- all events of a node are its own
own-all : (n : ℕ) (own : List Own) → AllByRecursion (λ x. x.event.place.node ≡ n) own → events_of n (events_in own) ≡ events_in own
own-all n [] all = refl
own-all n (x ∷ own) all =
    ap (λ b. cond b (x.event ∷ events_of n (events_in own)) (events_of n (events_in own))) (eq-eqb x.event.place.node n all.0)
    ∙ ap (λ (es : List Happening). x.event ∷ es) (own-all n own all.1)

noticed-all : (P : FrameName → Type 0) (es : List Happening) → ((n : ℕ) → AllByRecursion P (noticed_in (events_of n es))) → AllByRecursion P (noticed_in es)
noticed-all P [] each = tt
noticed-all P (e ∷ older) each =
    all-append P (noticed_by e.what) (noticed_in older)
    (all-left P (noticed_by e.what) (noticed_in (events_of e.place.node older))
    (subst (λ b. AllByRecursion P (noticed_in (cond b (e ∷ events_of e.place.node older) (events_of e.place.node older)))) (eq-eqb e.place.node e.place.node refl) (each e.place.node)))
    (noticed-all P older (λ n. either n (e.place.node == n) (each n)))
  where
    either : (n : ℕ) (b : Bool) → AllByRecursion P (noticed_in (cond b (e ∷ events_of n older) (events_of n older))) → AllByRecursion P (noticed_in (events_of n older))
    either n true all = all-right P (noticed_by e.what) (noticed_in (events_of n older)) all
    either n false all = all

-- a frame is told at the node of its process alone
abbrev caller-node : Option Message → ℕ
caller-node None = 0
caller-node (Some m) = (caller_of m).node

told-node : (p : ProcName) (o : Option Message) (i : Incoming) → told_of p o ≡ Some i → caller-node o ≡ p.node
told-node p None i e = absurd (cc)
told-node p (Some m) i e = by_cases (same_proc (caller_of m) p) (caller-node (Some m) ≡ p.node)
    (λ h. equal (caller_of m).node p.node (left-true _ _ h))
    (λ h. absurd (let none = ap (λ b. told_if b m) h in cc))

module _ (ws : ℕ → World) (f : FrameName) where
  abbrev home : ℕ
  home = caller-node (numbered f.2 ((ws f.0).frames f.0 f.1))

  told-at : (n : ℕ) (x : Own) → IsMatched ws n x → n ≢ home → times f (noticed_by x.event.what) ≡ 0
  told-at n x is away = by-what x.event.what is
    where
      by-what : (what : What) → incoming_of (ws (sender_of n what)) n what ≡ Some x.received → times f (noticed_by what) ≡ 0
      by-what (Begin p) e = refl
      by-what (Go p) e = refl
      by-what (Take from k) e = refl
      by-what (Notice p from to k) e = by_cases (same_frame f (from, to, k)) (times f ((from, to, k) ∷ []) ≡ 0)
          (λ h. absurd (away (
          let same = frame-is f (from, to, k) h in
          sym (told-node (record { node = n; number = p }) (numbered k ((ws from).frames from to)) x.received e)
          ∙ ap (λ (g : FrameName). caller-node (numbered g.2 ((ws g.0).frames g.0 g.1))) (sym same))))
          (λ h. let z = ap one_if h in omega (arith, z))
      by-what (Ready phase) e = refl
      by-what (Mark from phase) e = refl

  none-away : (n : ℕ) (own : List Own) → AllByRecursion (IsMatched ws n) own → n ≢ home → times f (noticed_in (events_in own)) ≡ 0
  none-away n [] all away = refl
  none-away n (x ∷ own) all away =
      let a = times-append f (noticed_by x.event.what) (noticed_in (events_in own)) in
      let here = told-at n x all.0 away in
      let rest = none-away n own all.1 away in
      omega (arith, a, here, rest)

  -- so all that tell of it are of that node
  times-home : (es : List Happening) → ((n : ℕ) → n ≢ home → times f (noticed_in (events_of n es)) ≡ 0) → times f (noticed_in es) ≡ times f (noticed_in (events_of home es))
  times-home [] none = refl
  times-home (e ∷ older) none = elim (cases_eq e.place.node home) as (λ d. times f (noticed_in (e ∷ older)) ≡ times f (noticed_in (events_of home (e ∷ older)))) [
    | inl same ↦
        (let a = times-append f (noticed_by e.what) (noticed_in older) in
        let b = times-append f (noticed_by e.what) (noticed_in (events_of home older)) in
        let c = times-home older older-none in
        let d : times f (noticed_in (events_of home (e ∷ older))) ≡ times f (noticed_by e.what ++ noticed_in (events_of home older)) =
        ap (λ b. times f (noticed_in (cond b (e ∷ events_of home older) (events_of home older)))) (eq-eqb e.place.node home same) in
        omega (arith, a, b, c, d))
    | inr differs ↦
        (let a = times-append f (noticed_by e.what) (noticed_in older) in
        let b = times-append f (noticed_by e.what) (noticed_in (events_of e.place.node older)) in
        let c = times-home older older-none in
        let d : times f (noticed_in (events_of home (e ∷ older))) ≡ times f (noticed_in (events_of home older)) =
        ap (λ b. times f (noticed_in (cond b (e ∷ events_of home older) (events_of home older)))) (ne_eqb e.place.node home differs) in
        let z : times f (noticed_by e.what ++ noticed_in (events_of e.place.node older)) ≡ 0 =
        ap (λ b. times f (noticed_in (cond b (e ∷ events_of e.place.node older) (events_of e.place.node older)))) (sym (eq-eqb e.place.node e.place.node refl)) ∙ none e.place.node differs in
        omega (arith, a, b, c, d, z))
  ]
    where
      either : (n : ℕ) (b : Bool) → times f (noticed_in (cond b (e ∷ events_of n older) (events_of n older))) ≡ 0 → times f (noticed_in (events_of n older)) ≡ 0
      either n true z = let a = times-append f (noticed_by e.what) (noticed_in (events_of n older)) in omega (arith, a, z)
      either n false z = z

      older-none : (n : ℕ) → n ≢ home → times f (noticed_in (events_of n older)) ≡ 0
      older-none n away = either n (e.place.node == n) (none n away)

-- each frame of a list without two alike is named once
pairs-head : (g : FrameName) (xs : List FrameName) → AllPairs (λ f h. f ≢ h) (g ∷ xs) → (f : FrameName) → same_frame f g ≡ true → times f xs ≡ 0
pairs-head g [] pairs f same = refl
pairs-head g (h ∷ xs) pairs f same =
    let rest = pairs-head g xs (λ i j d low high. skip i j d low high) f same in
    by_cases (same_frame f h) (times f (h ∷ xs) ≡ 0)
    (λ e. absurd (pairs zero (suc zero) f (omega arith) (omega arith) (sym (frame-is f g same) ∙ frame-is f h e)))
    (λ e. let z = ap one_if e in omega (arith, z, rest))
  where
    skip : (i j : ℕ) (d : FrameName) → i < j → j < length (g ∷ xs) → slice_index_or (g ∷ xs) i d ≢ slice_index_or (g ∷ xs) j d
    skip zero zero d low high = absurd (omega (arith, low))
    skip zero (suc j) d low high = pairs zero (suc (suc j)) d (omega arith) (omega (arith, high))
    skip (suc i) zero d low high = absurd (omega (arith, low))
    skip (suc i) (suc j) d low high = pairs (suc (suc i)) (suc (suc j)) d (omega (arith, low)) (omega (arith, high))

pairs-once : (xs : List FrameName) → AllPairs (λ f h. f ≢ h) xs → AreOnce xs
pairs-once [] pairs f = omega arith
pairs-once (g ∷ xs) pairs f =
    let rest = pairs-once xs (λ i j d low high. pairs (suc i) (suc j) d (omega (arith, low)) (omega (arith, high))) f in
    by_cases (same_frame f g) (times f (g ∷ xs) ≤ 1)
    (λ h. let none = pairs-head g xs pairs f h in let one = ap one_if h in omega (arith, none, one))
    (λ h. let one = ap one_if h in omega (arith, rest, one))

module _ (s : Setup) (plan : List FateRow) (owns : ℕ → List Own) (ws : ℕ → World) (es : List Happening)
    (are : AreLocalRuns s owns ws) (kept : IsPlan plan) (delivered : AreDelivered plan owns) (is : IsMergeOf owns es) where
  led : IsLed s ws es
  led = merged-led s es owns ws are is

  in-order : (from to : ℕ) → AreInOrder plan from to es
  in-order from to =
      let put : entries_put plan from to es ≡ entries_put plan from to (events_in (owns from)) =
      ap (entries (fate_of plan from to)) (sendings-own from to es ∙ ap (sendings from to) (is.own from)) in
      let took : entries_taken from to (events_in (owns to)) ≡ entries_taken from to es = sym (taken-own from to es ∙ ap (entries_taken from to) (is.own to)) in
      let e : entries_put plan from to es ≡ entries_taken from to es ++ delivered.rest from to = put ∙ delivered.order from to ∙ ap (λ (xs : List Entry). xs ++ delivered.rest from to) took in
      let left : waiting plan from to es ≡ delivered.rest from to = ap (drop (length (entries_taken from to es))) e ∙ drop-append_seam (entries_taken from to es) (delivered.rest from to) in
      record { parts = e ∙ ap (λ (xs : List Entry). entries_taken from to es ++ xs) (sym left) }

  sent-is : (from to : ℕ) → sent_on (world_of s es) from to ≡ frames_on from to es
  sent-is from to =
      ap (λ (o : Option World). sent_on o from to) led.run
      ∙ ap (λ (xs : List Message). length xs) (led.together.frames from to)
      ∙ local-frames s from (owns from) (ws from) (are.run from) from to
      ∙ ap frames_in (ap (sendings from to) (sym (is.own from)) ∙ sym (sendings-own from to es))

  once : AreOnce (noticed_in es)
  once f =
      let at = home ws f in
      let none : (n : ℕ) → n ≢ at → times f (noticed_in (events_of n es)) ≡ 0 = λ n away.
      ap (λ (xs : List Happening). times f (noticed_in xs)) (is.own n) ∙ none-away ws f n (owns n) (are.matched n) away in
      let all = times-home ws f es none in
      let own = pairs-once (noticed_in (events_in (owns at))) (delivered.once at) f in
      let same = ap (λ (xs : List Happening). times f (noticed_in xs)) (is.own at) in
      omega (arith, all, own, same)

  pub merged-planned : IsPlanned s plan es
  merged-planned = record {
    run = led-run s ws es led;
    plan_kept = kept;
    delivered = λ from to.
        ap (λ k. is_prefix (takes_on from to es) (deliveries (fate_of plan from to) k)) (sent-is from to)
        ∙ taken-prefix plan from to es (in-order from to);
    gone =
        All-from_recursion (λ (f : FrameName). IsTrue (is_gone (fate_of plan f.0 f.1 f.2))) (noticed_in es)
        (noticed-all (λ f. IsTrue (is_gone (fate_of plan f.0 f.1 f.2))) es
        (λ n. subst (λ (xs : List Happening). AllByRecursion (λ f. IsTrue (is_gone (fate_of plan f.0 f.1 f.2))) (noticed_in xs)) (sym (is.own n)) (delivered.gone n)));
    once = once-pairs (noticed_in es) once;
  }
