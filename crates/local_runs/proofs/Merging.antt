-- The events of local runs, by place, are a run.
use Rattle.std.proofs.Common.{◌≡◌, ◌≢◌, ℕ, ◌+◌, ◌<◌, ◌≤◌, true, cond, List, [], ◌∷◌, Option, Some, None, IfSome, inl, inr, refl, sym, ap, subst, ◌∙◌, arith}
use Rattle.std.specs.Prelude.{◌==◌, ◌&&◌, unwrap_or, ◌⊎◌}
use Rattle.std.specs.List.{AllByRecursion}
use Rattle.std.specs.Option.{option_map}
use Rattle.std.proofs.lemmas.Bool.{cases_eq, eq-eqb, ne_eqb}
use Rattle.uid_names.proofs.ListLemmas.{by_cases}
use Rattle.uid_names.specs.declared.ids.Place.{Place}
use Rattle.dom_history.specs.declared.event.What.{What}
use Rattle.dom_history.specs.declared.event.What.TheVariants.{Begin, Go, Take, Notice, Ready, Mark}
use Rattle.dom_history.specs.Events.{Happening}
use Rattle.dom_history.specs.Objects.{is_node}
use Rattle.ring_messages.specs.Frames.{Message}
use Rattle.node_runs.specs.Setups.{Setup, given}
use Rattle.node_runs.specs.NodeStates.{Asked, NodeState}
use Rattle.node_runs.specs.Incomings.{Incoming, tick_of}
use Rattle.node_runs.specs.Outcomes.{Stepped}
use Rattle.node_runs.specs.Steps.{step_of}
use Rattle.node_runs.specs.Runs.{World, SentMark, choice_of, put, numbered, taken, told_of, marked, mark_of, incoming_of, first_world, world_with, is_above, next, then_next, world_of, IsRun}
use Rattle.node_runs.proofs.Calls.{put-same, put-other}
use Rattle.node_runs.proofs.Worlds.{place_at}
use Rattle.world_runs.specs.ByPlace.{events_of}
use Rattle.world_runs.proofs.Sent.{step-sent}
use Rattle.world_runs.proofs.Alike.{added, frames-added, called, calls-called, marked_by, marks-marked}
use Rattle.world_runs.proofs.Receiving.{incoming-as, frame-back, mark-back}
use Rattle.world_runs.proofs.Inserting.{next-from, sent-tick}
use Rattle.local_runs.specs.LocalRuns.{Own, events_in, alone, sender_of, IsLocalRun, IsMatched, AreLocalRuns, IsMergeOf, IsTogether}
use Rattle.local_runs.proofs.Alone.{IsAfter, last-of, own-tick, own-ticks, below-all, all-events, all-own, all-both, no-events}

-- the run to which the events lead
pub record IsLed (s : Setup) (ws : ℕ → World) (es : List Happening) : Type 0 where
  pub world : World
  pub run : world_of s es ≡ Some world
  pub done : world.done ≡ es
  pub together : IsTogether ws world

-- nothing is done
nothing-led : (s : Setup) (owns : ℕ → List Own) (ws : ℕ → World) → AreLocalRuns s owns ws → IsMergeOf owns [] → IsLed s ws []
nothing-led s owns ws are is =
    let first : (n : ℕ) → first_world s ≡ ws n = λ n.
    ap (λ (o : Option World). unwrap_or o (first_world s))
    (sym (ap (alone s) (no-events (owns n) (sym (is.own n)))) ∙ (are.run n).run) in
    record {
      world = first_world s;
      run = refl;
      done = refl;
      together = record {
        nodes = λ n. ap (λ (w : World). w.nodes n) (first n);
        frames = λ from to. ap (λ (w : World). w.frames from to) (first from);
        marks = λ from phase. ap (λ (w : World). mark_of w from phase) (first from);
        calls = λ n p. ap (λ (w : World). w.calls n p) (first n);
      };
    }

-- what a node sent is in the world of all
pub from-sender : (ws : ℕ → World) (w : World) → IsTogether ws w → (n : ℕ) (what : What) → incoming_of w n what ≡ incoming_of (ws (sender_of n what)) n what
from-sender ws w is n (Begin p) = refl
from-sender ws w is n (Go p) = refl
from-sender ws w is n (Take from k) = ap (λ (xs : List Message). taken (numbered k xs)) (is.frames from n)
from-sender ws w is n (Notice p from to k) = ap (λ (xs : List Message). told_of (record { node = n; number = p }) (numbered k xs)) (is.frames from to)
from-sender ws w is n (Ready phase) = refl
from-sender ws w is n (Mark from phase) = ap marked (is.marks from phase)

-- a node alone before its last event, and the others as they are
module _ (s : Setup) (owns : ℕ → List Own) (ws : ℕ → World) (are : AreLocalRuns s owns ws) (x : Own) (rest : List Own) (older : List Happening)
    (here : owns x.event.place.node ≡ x ∷ rest) (merged : IsMergeOf owns (x.event ∷ older)) where
  abbrev n : ℕ
  n = x.event.place.node

  run-here : IsLocalRun s n (x ∷ rest) (ws n)
  run-here = subst (λ (own : List Own). IsLocalRun s n own (ws n)) here (are.run n)

  after : IsAfter s n x rest (ws n)
  after = last-of s n x rest (ws n) run-here

  abbrev before : World
  before = after.before

  abbrev step : Stepped
  step = after.next.step

  abbrev at : Place
  at = place_at (choice_of x.event) step

  abbrev owns-before : ℕ → List Own
  owns-before = put owns n rest

  abbrev ws-before : ℕ → World
  ws-before = put ws n before

  at-is : at ≡ x.event.place
  at-is = ap (λ (e : Happening). e.place) after.event

  tick-is : step.node.tick ≡ x.event.place.tick
  tick-is = ap (λ (p : Place). p.tick) at-is

  frame-late : IfSome step.frame (λ m. m.tick ≡ step.node.tick)
  frame-late = sent-tick step.node.tick step.frame step.effects.sent (step-sent (given s n) (before.nodes n) x.event.what x.received x.event.effects.dropped step after.next.steps)

  -- what was sent before the last event, was sent
  sent-before : (m : ℕ) (what : What) (i : Incoming) → incoming_of (ws n) m what ≡ Some i → tick_of i < step.node.tick → incoming_of before m what ≡ Some i
  sent-before m what i comes early =
      incoming-as (λ t. t < step.node.tick) (ws n) before
      (λ from to k f found fine.
      frame-back step.node.tick k f fine n step.frame from to (before.frames from to) frame-late
      (ap (numbered k) (sym (frames-added before n step.frame from to)) ∙ ap (λ (v : World). numbered k (v.frames from to)) (sym after.next.world) ∙ found))
      (λ from phase f found fine.
      mark-back n step.node.tick from phase f x.event.what (mark_of before from phase) fine
      (sym (marks-marked before at x.event.what step from phase) ∙ ap (λ (v : World). mark_of v from phase) (sym after.next.world) ∙ found))
      m what i comes early

  still-matched : (m : ℕ) (y : Own) → IsMatched ws m y → tick_of y.received < x.event.place.tick → IsMatched ws-before m y
  still-matched m y is early = elim (cases_eq (sender_of m y.event.what) n) [
    | inl same ↦
        subst (λ (w : World). incoming_of w m y.event.what ≡ Some y.received) (sym (put-same ws n (sender_of m y.event.what) before same))
        (sent-before m y.event.what y.received (subst (λ k. incoming_of (ws k) m y.event.what ≡ Some y.received) same is) (subst (λ t. tick_of y.received < t) (sym tick-is) early))
    | inr differs ↦
        subst (λ (w : World). incoming_of w m y.event.what ≡ Some y.received) (sym (put-other ws n (sender_of m y.event.what) before differs)) is
  ]

  -- the other part of the merged events
  own-here : x.event ∷ events_of n older ≡ x.event ∷ events_in rest
  own-here =
      sym (ap (λ b. cond b (x.event ∷ events_of n older) (events_of n older)) (eq-eqb n n refl))
      ∙ merged.own n ∙ ap events_in here

  merged-before : IsMergeOf owns-before older
  merged-before = record {
    rising = merged.rising.1;
    own = λ m. elim (cases_eq m n) [
      | inl same ↦
          ap (λ k. events_of k older) same ∙ (let all = own-here in let e : events_of n older ≡ events_in rest = cc in e)
          ∙ sym (ap events_in (put-same owns n m rest same))
      | inr differs ↦
          sym (ap (λ b. cond b (x.event ∷ events_of m older) (events_of m older)) (ne_eqb n m (λ e. differs (sym e))))
          ∙ merged.own m ∙ sym (ap events_in (put-other owns n m rest differs))
    ];
  }

  run-before : (m : ℕ) → IsLocalRun s m (owns-before m) (ws-before m)
  run-before m = elim (cases_eq m n) [
    | inl same ↦
        subst (λ (own : List Own). IsLocalRun s m own (ws-before m)) (sym (put-same owns n m rest same))
        (subst (λ (w : World). IsLocalRun s m rest w) (sym (put-same ws n m before same))
        (subst (λ k. IsLocalRun s k rest before) (sym same) after.run))
    | inr differs ↦
        subst (λ (own : List Own). IsLocalRun s m own (ws-before m)) (sym (put-other owns n m rest differs))
        (subst (λ (w : World). IsLocalRun s m (owns m) w) (sym (put-other ws n m before differs)) (are.run m))
  ]

  early-before : (m : ℕ) → AllByRecursion (λ y. tick_of y.received < x.event.place.tick) (owns-before m)
  early-before m =
      all-both (λ (y : Own). tick_of y.received < y.event.place.tick) (λ (y : Own). y.event.place.tick ≤ x.event.place.tick) (λ (y : Own). tick_of y.received < x.event.place.tick) (owns-before m)
      (λ y a b. omega (arith, a, b))
      (own-ticks s m (owns-before m) (ws-before m) (run-before m))
      (all-own (λ f. f.place.tick ≤ x.event.place.tick) (owns-before m)
      (subst (λ (es : List Happening). AllByRecursion (λ f. f.place.tick ≤ x.event.place.tick) es) (merged-before.own m)
      (all-events (λ f. f.place.tick ≤ x.event.place.tick) m older (below-all x.event.place.tick x.event older (omega arith) merged.rising))))

  matched-old : (m : ℕ) → AllByRecursion (IsMatched ws m) (owns-before m)
  matched-old m = elim (cases_eq m n) [
    | inl same ↦
        subst (λ (own : List Own). AllByRecursion (IsMatched ws m) own) (sym (put-same owns n m rest same))
        (subst (λ k. AllByRecursion (IsMatched ws k) rest) (sym same)
        (subst (λ (own : List Own). AllByRecursion (IsMatched ws n) own) here (are.matched n)).1)
    | inr differs ↦ subst (λ (own : List Own). AllByRecursion (IsMatched ws m) own) (sym (put-other owns n m rest differs)) (are.matched m)
  ]

  is-node : is_node s.opening n ≡ true
  is-node = by_cases (is_node s.opening n) (is_node s.opening n ≡ true) (λ h. h) (λ h. absurd (let none = are.nodes n h in let some = here in cc))

  are-before : AreLocalRuns s owns-before ws-before
  are-before = record {
    run = run-before;
    nodes = λ m none. elim (cases_eq m n) [
      | inl same ↦ absurd (let yes : is_node s.opening m ≡ true = subst (λ k. is_node s.opening k ≡ true) (sym same) is-node in cc)
      | inr differs ↦ put-other owns n m rest differs ∙ are.nodes m none
    ];
    matched = λ m. all-both (IsMatched ws m) (λ (y : Own). tick_of y.received < x.event.place.tick) (IsMatched ws-before m) (owns-before m) (λ y a b. still-matched m y a b) (matched-old m) (early-before m);
  }

  module _ (led : IsLed s ws-before older) where
    comes : incoming_of led.world n x.event.what ≡ Some x.received
    comes =
        from-sender ws-before led.world led.together n x.event.what
        ∙ still-matched n x (subst (λ (own : List Own). AllByRecursion (IsMatched ws n) own) here (are.matched n)).0 (own-tick s n x rest (ws n) run-here)

    node-here : led.world.nodes n ≡ before.nodes n
    node-here = led.together.nodes n ∙ ap (λ (w : World). w.nodes n) (put-same ws n n before refl)

    happens : next s led.world (choice_of x.event) ≡ Some (world_with led.world at x.event.what step)
    happens =
        next-from s led.world (choice_of x.event) x.received step is-node comes
        (ap (λ (y : NodeState). step_of (given s n) y x.event.what x.received x.event.effects.dropped) node-here ∙ after.next.steps)
        (ap (λ (p : Place). is_above p led.world.done) at-is ∙ ap (is_above x.event.place) led.done ∙ merged.rising.0)

    abbrev new : World
    new = world_with led.world at x.event.what step

    -- what the node sent and did is the same
    nodes-now : (m : ℕ) → new.nodes m ≡ (ws m).nodes m
    nodes-now m = elim (cases_eq m n) [
      | inl same ↦
          put-same led.world.nodes n m step.node same
          ∙ sym (ap (λ (w : World). w.nodes m) (ap ws same ∙ after.next.world) ∙ put-same before.nodes n m step.node same)
      | inr differs ↦
          put-other led.world.nodes n m step.node differs ∙ led.together.nodes m ∙ ap (λ (w : World). w.nodes m) (put-other ws n m before differs)
    ]

    frames-now : (from to : ℕ) → new.frames from to ≡ (ws from).frames from to
    frames-now from to =
        frames-added led.world n step.frame from to
        ∙ elim (cases_eq from n) as (λ d. added n step.frame from to (led.world.frames from to) ≡ (ws from).frames from to) [
          | inl same ↦
              ap (added n step.frame from to) (led.together.frames from to ∙ ap (λ (w : World). w.frames from to) (put-same ws n from before same))
              ∙ sym (ap (λ (w : World). w.frames from to) (ap ws same ∙ after.next.world) ∙ frames-added before n step.frame from to)
          | inr differs ↦
              added-elsewhere step.frame from to (led.world.frames from to) differs
              ∙ led.together.frames from to ∙ ap (λ (w : World). w.frames from to) (put-other ws n from before differs)
        ]
      where
        added-elsewhere : (f : Option Message) (from to : ℕ) (xs : List Message) → from ≢ n → added n f from to xs ≡ xs
        added-elsewhere None from to xs differs = refl
        added-elsewhere (Some m) from to xs differs = ap (λ b. cond b (cond (to == m.to) (m ∷ xs) xs) xs) (ne_eqb from n differs)

    marks-now : (from phase : ℕ) → mark_of new from phase ≡ mark_of (ws from) from phase
    marks-now from phase =
        marks-marked led.world at x.event.what step from phase
        ∙ elim (cases_eq from n) as (λ d. marked_by n step.node.tick x.event.what from phase (mark_of led.world from phase) ≡ mark_of (ws from) from phase) [
          | inl same ↦
              ap (marked_by n step.node.tick x.event.what from phase) (led.together.marks from phase ∙ ap (λ (w : World). mark_of w from phase) (put-same ws n from before same))
              ∙ sym (ap (λ (w : World). mark_of w from phase) (ap ws same ∙ after.next.world) ∙ marks-marked before at x.event.what step from phase)
          | inr differs ↦
              marked-elsewhere x.event.what from phase (mark_of led.world from phase) differs
              ∙ led.together.marks from phase ∙ ap (λ (w : World). mark_of w from phase) (put-other ws n from before differs)
        ]
      where
        marked-elsewhere : (what : What) (from phase : ℕ) (o : Option SentMark) → from ≢ n → marked_by n step.node.tick what from phase o ≡ o
        marked-elsewhere (Begin p) from phase o differs = refl
        marked-elsewhere (Go p) from phase o differs = refl
        marked-elsewhere (Take a k) from phase o differs = refl
        marked-elsewhere (Notice p a b k) from phase o differs = refl
        marked-elsewhere (Mark a k) from phase o differs = refl
        marked-elsewhere (Ready k) from phase o differs = ap (λ b. cond (b && (k == phase)) (Some (record { node = n; phase = k; tick = step.node.tick })) o) (ne_eqb n from (λ e. differs (sym e)))

    calls-now : (m p : ℕ) → new.calls m p ≡ (ws m).calls m p
    calls-now m p =
        calls-called led.world n step.call m p
        ∙ elim (cases_eq m n) as (λ d. called n step.call m p (led.world.calls m p) ≡ (ws m).calls m p) [
          | inl same ↦
              ap (called n step.call m p) (led.together.calls m p ∙ ap (λ (w : World). w.calls m p) (put-same ws n m before same))
              ∙ sym (ap (λ (w : World). w.calls m p) (ap ws same ∙ after.next.world) ∙ calls-called before n step.call m p)
          | inr differs ↦
              called-elsewhere step.call m p (led.world.calls m p) differs
              ∙ led.together.calls m p ∙ ap (λ (w : World). w.calls m p) (put-other ws n m before differs)
        ]
      where
        called-elsewhere : (c : Option (ℕ × Asked)) (m p : ℕ) (xs : List Asked) → m ≢ n → called n c m p xs ≡ xs
        called-elsewhere None m p xs differs = refl
        called-elsewhere (Some made) m p xs differs = ap (λ b. cond b (cond (p == made.0) (made.1 ∷ xs) xs) xs) (ne_eqb m n differs)

    one-more : IsLed s ws (x.event ∷ older)
    one-more = record {
      world = new;
      run = ap (λ (o : Option World). then_next s o (choice_of x.event)) led.run ∙ happens;
      done = ap (λ (es : List Happening). (record { place = at; what = x.event.what; effects = step.effects }) ∷ es) led.done ∙ ap (λ (e : Happening). e ∷ older) after.event;
      together = record { nodes = nodes-now; frames = frames-now; marks = marks-now; calls = calls-now };
    }

-- the last of the merged events is the last one of its node
module _ (s : Setup) where
  abbrev Leads : List Happening → Type 0
  Leads es = (owns : ℕ → List Own) (ws : ℕ → World) → AreLocalRuns s owns ws → IsMergeOf owns es → IsLed s ws es

  by-own : (e : Happening) (older : List Happening) → Leads older → (owns : ℕ → List Own) (ws : ℕ → World) → AreLocalRuns s owns ws → IsMergeOf owns (e ∷ older)
      → (own : List Own) → owns e.place.node ≡ own → e ∷ events_of e.place.node older ≡ events_in own → IsLed s ws (e ∷ older)
  by-own e older leads owns ws are is [] here all = absurd (cc)
  by-own e older leads owns ws are is (x ∷ rest) here all =
      let same : e ≡ x.event = cc in
      let here-too : owns x.event.place.node ≡ x ∷ rest = ap (λ (f : Happening). owns f.place.node) (sym same) ∙ here in
      let is-too : IsMergeOf owns (x.event ∷ older) = subst (λ (f : Happening). IsMergeOf owns (f ∷ older)) same is in
      subst (λ (f : Happening). IsLed s ws (f ∷ older)) (sym same)
      (one-more s owns ws are x rest older here-too is-too
      (leads (owns-before s owns ws are x rest older here-too is-too) (ws-before s owns ws are x rest older here-too is-too)
      (are-before s owns ws are x rest older here-too is-too) (merged-before s owns ws are x rest older here-too is-too)))

  pub merged-led : (es : List Happening) → Leads es
  merged-led [] owns ws are is = nothing-led s owns ws are is
  merged-led (e ∷ older) owns ws are is =
      by-own e older (merged-led older) owns ws are is (owns e.place.node) refl
      (sym (ap (λ b. cond b (e ∷ events_of e.place.node older) (events_of e.place.node older)) (eq-eqb e.place.node e.place.node refl)) ∙ is.own e.place.node)

pub led-run : (s : Setup) (ws : ℕ → World) (es : List Happening) → IsLed s ws es → IsRun s es
led-run s ws es led = ap (λ (o : Option World). option_map (λ (w : World). w.done) o) led.run ∙ ap (λ (xs : List Happening). Some xs) led.done
