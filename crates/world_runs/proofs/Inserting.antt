-- An event may happen at its place in a run: later events of other nodes received nothing from it that they did not have.
use Rattle.std.proofs.Common.{◌≡◌, ◌≢◌, ℕ, ◌+◌, ◌<◌, ◌≤◌, Bool, true, false, cond, List, [], ◌∷◌, Option, Some, None, IfSome, refl, sym, ap, subst, ◌∙◌, arith}
use Rattle.std.specs.Prelude.{◌==◌, ◌&&◌, max, map}
use Rattle.std.proofs.lemmas.Bool.Decides.{nat_tests}
use Rattle.uid_names.proofs.ListLemmas.{by_cases}
use Rattle.uid_names.specs.declared.ids.Place.{Place}
use Rattle.uid_names.proofs.Passed.{left-true, right-true, equal}
use Rattle.dom_history.specs.declared.event.What.{What}
use Rattle.dom_history.specs.declared.event.What.TheVariants.{Begin, Go, Take, Notice, Ready, Mark}
use Rattle.dom_history.specs.declared.event.Sent.{Sent}
use Rattle.dom_history.specs.Events.{Happening}
use Rattle.dom_history.specs.Histories.{place_lt}
use Rattle.dom_history.specs.Objects.{is_node}
use Rattle.ring_messages.specs.Frames.{Message}
use Rattle.node_runs.specs.Setups.{Setup, given}
use Rattle.node_runs.specs.NodeStates.{NodeState}
use Rattle.node_runs.specs.Incomings.{Incoming, tick_of}
use Rattle.node_runs.specs.Outcomes.{Stepped}
use Rattle.node_runs.specs.Steps.{step_of}
use Rattle.node_runs.specs.Runs.{World, SentMark, Choice, choice_of, put, numbered, incoming_of, mark_of, is_above, world_with, world_if, after_step, receiving, next_if, next, then_next, world_of}
use Rattle.node_runs.proofs.Calls.{put-same, put-other}
use Rattle.node_runs.proofs.Ticks.{step_of-tick}
use Rattle.node_runs.proofs.Worlds.{place_at, IsNext, next-is}
use Rattle.world_runs.specs.ByPlace.{behind_if, put_in_place, events_of, IsLike}
use Rattle.world_runs.proofs.Sent.{IsSent, step-sent}
use Rattle.world_runs.proofs.Marking.{HasSent, IsMarking, step-marking, AreMarked, marks-are}
use Rattle.world_runs.proofs.Alike.{frames-added, marks-marked, like-same, like-then, like-back, like-with, like-apart, either}
use Rattle.world_runs.proofs.Receiving.{Always, incoming-as, incoming-like, frame-back, frame-forth, mark-back, IsOther, mark-forth}

-- an event that may happen next does
pub next-from : (s : Setup) (w : World) (c : Choice) (incoming : Incoming) (step : Stepped) → is_node s.opening c.node ≡ true → incoming_of w c.node c.what ≡ Some incoming
    → step_of (given s c.node) (w.nodes c.node) c.what incoming c.dropped ≡ Some step → is_above (place_at c step) w.done ≡ true → next s w c ≡ Some (world_with w (place_at c step) c.what step)
next-from s w c incoming step node comes steps above =
    ap (λ b. next_if b s w c) node ∙ ap (receiving s w c) comes ∙ ap (after_step w c) steps ∙ ap (λ b. world_if b w (place_at c step) c.what step) above

place-late : (a b : Place) → place_lt a b ≡ false → b.tick ≤ a.tick
place-late a b h = grind (arith, nat_tests, h)

pub place-turn : (a b : Place) → place_lt a b ≡ false → a.node ≢ b.node → place_lt b a ≡ true
place-turn a b h differs = grind (arith, nat_tests, h, differs)

place-early : (a b : Place) → a.tick < b.tick → place_lt a b ≡ true
place-early a b h = grind (arith, nat_tests, h)

-- a place above all that was done and above the event that goes in
pub above-both : (p : Place) (e : Happening) (es : List Happening) → is_above p es ≡ true → place_lt e.place p ≡ true → is_above p (put_in_place e es) ≡ true
above-both p e [] above later = later
above-both p e (x ∷ older) above later = of-two (place_lt x.place e.place) (put_in_place e older)
  where
    of-two : (b : Bool) (rest : List Happening) → is_above p (behind_if b e x older rest) ≡ true
    of-two true rest = later
    of-two false rest = above

pub sent-tick : (t : ℕ) (f : Option Message) (x : Option Sent) → IsSent t f x → IfSome f (λ m. m.tick ≡ t)
sent-tick t None x is = tt
sent-tick t (Some m) None is = absurd is
sent-tick t (Some m) (Some x) is = is.0

pub other-mark : (w : World) (n from phase : ℕ) (m : SentMark) (what : What) (st : Stepped) → AreMarked w → IsMarking (w.nodes n) what st → mark_of w from phase ≡ Some m → IsOther n st.node.tick from phase m what
other-mark w n from phase m (Begin p) st are how found = tt
other-mark w n from phase m (Go p) st are how found = tt
other-mark w n from phase m (Take a k) st are how found = tt
other-mark w n from phase m (Notice p a b k) st are how found = tt
other-mark w n from phase m (Mark a k) st are how found = tt
other-mark w n from phase m (Ready k) st are how found =
    by_cases ((n == from) && (k == phase)) (((n == from) && (k == phase)) ≡ false)
    (λ h. absurd (how.1 (
    subst (λ a. HasSent (w.nodes a) k) (sym (equal n from (left-true _ _ h)))
    (subst (HasSent (w.nodes from)) (sym (equal k phase (right-true (n == from) _ h))) (are.sent from phase m found)))))
    (λ h. h)

-- an event of a node
abbrev pub event_at : ℕ → What → Stepped → Happening
event_at n what st = record { place = record { tick = st.node.tick; node = n }; what = what; effects = st.effects }

-- the run with the event at its place
pub record Inserts (s : Setup) (es : List Happening) (w : World) (n : ℕ) (what : What) (st : Stepped) : Type 0 where
  pub world : World
  pub run : world_of s (put_in_place (event_at n what st) es) ≡ Some world
  pub done : world.done ≡ put_in_place (event_at n what st) es
  pub like : IsLike world (world_with w (record { tick = st.node.tick; node = n }) what st)
  pub own : (k : ℕ) → events_of k (put_in_place (event_at n what st) es) ≡ events_of k (event_at n what st ∷ es)

-- the event may happen in this world
pub record May (s : Setup) (w : World) (n : ℕ) (what : What) (i : Incoming) (st : Stepped) : Type 0 where
  pub node : is_node s.opening n ≡ true
  pub comes : incoming_of w n what ≡ Some i
  pub steps : step_of (given s n) (w.nodes n) what i st.effects.dropped ≡ Some st

module _ (s : Setup) (n : ℕ) (what : What) (i : Incoming) (st : Stepped) where
  abbrev at : Place
  at = record { tick = st.node.tick; node = n }

  abbrev it : Happening
  it = event_at n what st

  tick-after : (w : World) → May s w n what i st → st.node.tick ≡ max (w.nodes n).tick (tick_of i) + 1
  tick-after w may = step_of-tick (given s n) (w.nodes n) what i st.effects.dropped st may.steps

  -- it is the last one
  at-end : (w : World) (es : List Happening) → world_of s es ≡ Some w → w.done ≡ es → May s w n what i st → is_above at es ≡ true → put_in_place it es ≡ it ∷ es → Inserts s es w n what st
  at-end w es run done may above is =
      let happens : next s w (choice_of it) ≡ Some (world_with w at what st) = next-from s w (choice_of it) i st may.node may.comes may.steps (ap (is_above at) done ∙ above) in
      record {
        world = world_with w at what st;
        run = ap (world_of s) is ∙ ap (λ (o : Option World). then_next s o (choice_of it)) run ∙ happens;
        done = ap (λ (d : List Happening). it ∷ d) done ∙ sym is;
        like = like-same (world_with w at what st);
        own = λ k. ap (events_of k) is;
      }

  module _ (x : Happening) (older : List Happening) (w before : World) (run : world_of s older ≡ Some before) (is : IsNext s before (choice_of x) w) (done : w.done ≡ x ∷ older) (are : AreMarked before)
      (may : May s w n what i st) (late : place_lt x.place at ≡ false) where
    abbrev last : Place
    last = place_at (choice_of x) is.step

    was-done : (record { place = last; what = x.what; effects = is.step.effects }) ∷ before.done ≡ x ∷ older
    was-done = ap (λ (v : World). v.done) (sym is.world) ∙ done

    last-is : record { place = last; what = x.what; effects = is.step.effects } ≡ x
    last-is = let all = was-done in cc

    older-done : before.done ≡ older
    older-done = let all = was-done in cc

    place-is : last ≡ x.place
    place-is = ap (λ (e : Happening). e.place) last-is

    late-too : place_lt last at ≡ false
    late-too = ap (λ (p : Place). place_lt p at) place-is ∙ late

    nodes-are : (a : ℕ) → w.nodes a ≡ put before.nodes x.place.node is.step.node a
    nodes-are a = ap (λ (v : World). v.nodes a) is.world

    -- it is of another node, since the ticks of one node rise
    apart : x.place.node ≢ n
    apart same =
        let now : (w.nodes n).tick ≡ is.step.node.tick = ap (λ (y : NodeState). y.tick) (nodes-are n ∙ put-same before.nodes x.place.node n is.step.node (sym same)) in
        let tick = tick-after w may in
        let early : is.step.node.tick < st.node.tick = omega arith in
        absurd (let e = place-early last at early in let f = late-too in cc)

    not-later : st.node.tick ≤ is.step.node.tick
    not-later = place-late last at late-too

    early : tick_of i < is.step.node.tick
    early = let tick = tick-after w may in let l = not-later in omega arith

    node-before : w.nodes n ≡ before.nodes n
    node-before = nodes-are n ∙ put-other before.nodes x.place.node n is.step.node (λ e. apart (sym e))

    frame-late : IfSome is.step.frame (λ m. m.tick ≡ is.step.node.tick)
    frame-late = sent-tick is.step.node.tick is.step.frame is.step.effects.sent (step-sent (given s x.place.node) (before.nodes x.place.node) x.what is.incoming x.effects.dropped is.step is.steps)

    -- it may happen before that one
    may-before : May s before n what i st
    may-before = record {
      node = may.node;
      comes =
          incoming-as (λ t. t < is.step.node.tick) w before
          (λ from to k m found fine.
          frame-back is.step.node.tick k m fine x.place.node is.step.frame from to (before.frames from to) frame-late
          (ap (numbered k) (sym (frames-added before x.place.node is.step.frame from to)) ∙ ap (λ (v : World). numbered k (v.frames from to)) (sym is.world) ∙ found))
          (λ from phase m found fine.
          mark-back x.place.node is.step.node.tick from phase m x.what (mark_of before from phase) fine
          (sym (marks-marked before last x.what is.step from phase) ∙ ap (λ (v : World). mark_of v from phase) (sym is.world) ∙ found))
          n what i may.comes early;
      steps = ap (λ (y : NodeState). step_of (given s n) y what i st.effects.dropped) (sym node-before) ∙ may.steps;
    }

    module _ (inserted : Inserts s older before n what st) where
      abbrev beside : World
      beside = world_with before at what st

      comes-beside : incoming_of beside x.place.node x.what ≡ Some is.incoming
      comes-beside =
          incoming-as Always before beside
          (λ from to k m found fine. ap (numbered k) (frames-added before n st.frame from to) ∙ frame-forth k n m st.frame from to (before.frames from to) found)
          (λ from phase m found fine.
          marks-marked before at what st from phase
          ∙ mark-forth n st.node.tick from phase m what (mark_of before from phase)
          (other-mark before n from phase m what st are (step-marking (given s n) (before.nodes n) what i st.effects.dropped st may-before.steps) found)
          found)
          x.place.node x.what is.incoming is.comes tt

      node-beside : inserted.world.nodes x.place.node ≡ before.nodes x.place.node
      node-beside = inserted.like.nodes x.place.node ∙ put-other before.nodes n x.place.node st.node apart

      still-above : is_above last inserted.world.done ≡ true
      still-above =
          ap (is_above last) inserted.done
          ∙ above-both last it older (ap (is_above last) (sym older-done) ∙ is.above) (place-turn last at late-too apart)

      happens : next s inserted.world (choice_of x) ≡ Some (world_with inserted.world last x.what is.step)
      happens =
          next-from s inserted.world (choice_of x) is.incoming is.step is.node
          (incoming-like beside inserted.world (like-back inserted.world beside inserted.like) x.place.node x.what is.incoming comes-beside)
          (ap (λ (y : NodeState). step_of (given s x.place.node) y x.what is.incoming x.effects.dropped) node-beside ∙ is.steps)
          still-above

      goes-in : put_in_place it (x ∷ older) ≡ x ∷ put_in_place it older
      goes-in = ap (λ b. behind_if b it x older (put_in_place it older)) late

      passes : (k : ℕ) → events_of k (x ∷ put_in_place it older) ≡ events_of k (it ∷ x ∷ older)
      passes k =
          ap (λ (es : List Happening). cond (x.place.node == k) (x ∷ es) es) (inserted.own k)
          ∙ either (x.place.node == k) (n == k) (λ (es : List Happening). x ∷ es) (λ (es : List Happening). it ∷ es) (events_of k older) (λ h e. apart (equal x.place.node k h ∙ sym (equal n k e)))

      in-between : Inserts s (x ∷ older) w n what st
      in-between = record {
        world = world_with inserted.world last x.what is.step;
        run = ap (world_of s) goes-in ∙ ap (λ (o : Option World). then_next s o (choice_of x)) inserted.run ∙ happens;
        done = ap (λ (e : Happening). e ∷ inserted.world.done) last-is ∙ ap (λ (es : List Happening). x ∷ es) inserted.done ∙ sym goes-in;
        like =
            like-then (world_with inserted.world last x.what is.step) (world_with beside last x.what is.step) (world_with w at what st)
            (like-with inserted.world beside inserted.like last x.what is.step)
            (subst (λ (v : World). IsLike (world_with beside last x.what is.step) (world_with v at what st)) (sym is.world)
            (like-apart before at last what x.what st is.step (λ e. apart (sym e))));
        own = λ k. ap (events_of k) goes-in ∙ passes k;
      }

  go : (x : Happening) (older : List Happening) (w : World) (o : Option World)
      → ((before : World) → world_of s older ≡ Some before → before.done ≡ older → May s before n what i st → Inserts s older before n what st)
      → world_of s older ≡ o → world_of s (x ∷ older) ≡ Some w → then_next s o (choice_of x) ≡ Some w → w.done ≡ x ∷ older → May s w n what i st → Inserts s (x ∷ older) w n what st
  go x older w None ih has run e done may = absurd (cc)
  go x older w (Some before) ih has run e done may =
      let is = next-is s before (choice_of x) w e in
      by_cases (place_lt x.place at) (Inserts s (x ∷ older) w n what st)
      (λ h. at-end w (x ∷ older) run done may h (ap (λ b. behind_if b it x older (put_in_place it older)) h))
      (λ h.
      let are = marks-are s (map choice_of older) before has in
      in-between x older w before has is done are may h
      (ih before has (older-done x older w before has is done are may h) (may-before x older w before has is done are may h)))

  pub insert : (es : List Happening) (w : World) → world_of s es ≡ Some w → w.done ≡ es → May s w n what i st → Inserts s es w n what st
  insert [] w run done may = at-end w [] run done may refl refl
  insert (x ∷ older) w run done may = go x older w (world_of s older) (λ before. insert older before) refl run run done may
