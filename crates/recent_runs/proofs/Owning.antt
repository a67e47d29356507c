-- A run is named where each node's own events are; those of turns are.
use Rattle.std.proofs.Common.{◌≡◌, ℕ, Bool, true, false, cond, List, [], ◌∷◌, map, Option, Some, None, IfSome, refl, sym, ap, subst, ◌∙◌}
use Rattle.std.specs.Prelude.{◌==◌}
use Rattle.std.specs.Option.{option_map}
use Rattle.std.proofs.lemmas.Option.{same_Some}
use Rattle.uid_names.specs.Steps.{◌>>=◌}
use Rattle.uid_names.proofs.ListLemmas.{by_cases}
use Rattle.uid_names.proofs.Passed.{equal, eqb-itself}
use Rattle.uid_names.proofs.Somes.{bind-some}
use Rattle.dom_history.specs.declared.event.What.{What}
use Rattle.dom_history.specs.declared.plan.FateRow.{FateRow}
use Rattle.dom_history.specs.Events.{Happening}
use Rattle.node_runs.specs.Setups.{Setup, IsSetup, given}
use Rattle.node_runs.specs.NodeStates.{NodeState}
use Rattle.node_runs.specs.Incomings.{Incoming}
use Rattle.node_runs.specs.NodesKeep.{IsTimely}
use Rattle.node_runs.specs.Outcomes.{Stepped}
use Rattle.node_runs.specs.Steps.{step_of, named_step}
use Rattle.node_runs.specs.Runs.{World, Choice, choice_of, first_world, put, numbered, incoming_of, mark_of, world_with, then_next, world_of}
use Rattle.node_runs.proofs.Calls.{put-same, put-other}
use Rattle.node_runs.proofs.Worlds.{place_at, IsNext, next-is}
use Rattle.world_runs.specs.ByPlace.{events_of}
use Rattle.world_runs.specs.Turns.{turn, after_turns}
use Rattle.world_runs.proofs.Marking.{AreMarked, marks-are, step-marking}
use Rattle.world_runs.proofs.Alike.{frames-added, marks-marked}
use Rattle.world_runs.proofs.Receiving.{Always, incoming-as, frame-forth, mark-forth}
use Rattle.world_runs.proofs.Inserting.{other-mark, event_at}
use Rattle.world_runs.proofs.Turning.{turn-is, timely-before}
use Rattle.world_runs.proofs.TimelyTurns.{IsTimelyTurn, timely-turn}
use Rattle.world_runs.proofs.Happening.{received-stays, turns-marked}
use Rattle.recent_runs.specs.Named.{IsNamed, AreNamed}
use Rattle.recent_runs.specs.OwnSteps.{own_step, own_state, IsOwnNamed, AreOwnNamed}
use Rattle.recent_runs.proofs.Running.{IsNamedWith, named-to}

-- what is received in the one world is received in the other
abbrev pub Has : World → World → Type 0
Has old new = (n : ℕ) (what : What) (i : Incoming) → incoming_of old n what ≡ Some i → incoming_of new n what ≡ Some i

other : (n m : ℕ) → (n == m) ≡ false → m ≡ n → ⊥
other n m h e = let k = eqb-itself n in let f : (n == n) ≡ false = subst (λ a. (n == a) ≡ false) e h in absurd (cc)

-- an event of a run leaves what was received
next-has : (s : Setup) (old : World) (c : Choice) (new : World) → AreMarked old → IsNext s old c new → Has old new
next-has s old c new are is n what i e =
    subst (λ (w : World). incoming_of w n what ≡ Some i) (sym is.world)
    (incoming-as Always old (world_with old (place_at c is.step) c.what is.step)
    (λ from to k m found fine. ap (numbered k) (frames-added old c.node is.step.frame from to) ∙ frame-forth k c.node m is.step.frame from to (old.frames from to) found)
    (λ from phase m found fine.
    marks-marked old (place_at c is.step) c.what is.step from phase
    ∙ mark-forth c.node is.step.node.tick from phase m c.what (mark_of old from phase)
    (other-mark old c.node from phase m c.what is.step are (step-marking (given s c.node) (old.nodes c.node) c.what is.incoming c.dropped is.step is.steps) found)
    found)
    n what i e tt)

-- one event more
module _ (s : Setup) (w : World) where
  pub own-one : (n : ℕ) (e : Happening) (older : List Happening) (y : NodeState) (i : Incoming) (st : Stepped) → own_state s w n older ≡ Some y → incoming_of w n e.what ≡ Some i → step_of (given s n) y e.what i e.effects.dropped ≡ Some st
      → own_state s w n (e ∷ older) ≡ Some st.node
  own-one n e older y i st was comes steps =
      ap (λ o. o >>= own_step (given s n) w n e) was
      ∙ ap (λ o. o >>= λ i. option_map (λ (st : Stepped). st.node) (step_of (given s n) y e.what i e.effects.dropped)) comes
      ∙ ap (λ o. option_map (λ (st : Stepped). st.node) o) steps

  pub named-one : (n : ℕ) (e : Happening) (older : List Happening) (y : NodeState) (i : Incoming) → own_state s w n older ≡ Some y → incoming_of w n e.what ≡ Some i
      → named_step (given s n) y e.what i ≡ step_of (given s n) y e.what i e.effects.dropped → AreOwnNamed s w n older → AreOwnNamed s w n (e ∷ older)
  named-one n e older y i was comes named are =
      (subst (λ o. IfSome o (IsOwnNamed (given s n) w n e)) (sym was) (subst (λ o. IfSome o (λ i. named_step (given s n) y e.what i ≡ step_of (given s n) y e.what i e.effects.dropped)) (sym comes) named), are)

  -- an event of one node is among its own, and not among those of another
  own-events : (P : List Happening → Type 0) (n : ℕ) (e : Happening) (older : List Happening) → e.place.node ≡ n → P (e ∷ events_of n older) → P (events_of n (e ∷ older))
  own-events P n e older same = subst (λ b. P (cond b (e ∷ events_of n older) (events_of n older))) (sym (subst (λ a. (e.place.node == a) ≡ true) same (eqb-itself e.place.node)))

  others-events : (P : List Happening → Type 0) (n : ℕ) (e : Happening) (older : List Happening) → (e.place.node == n) ≡ false → P (events_of n older) → P (events_of n (e ∷ older))
  others-events P n e older differs = subst (λ b. P (cond b (e ∷ events_of n older) (events_of n older))) (sym differs)

  -- each node of a run did what it did alone
  by-old : (x : Happening) (older : List Happening) (o : Option World) (v : World) → world_of s older ≡ o → then_next s o (choice_of x) ≡ Some v
      → (old : World) × (world_of s older ≡ Some old) × IsNext s old (choice_of x) v × Has old v
  by-old x older None v was e = absurd (cc)
  by-old x older (Some old) v was e =
      let is = next-is s old (choice_of x) v e in
      (old, was, is, next-has s old (choice_of x) v (marks-are s (map choice_of older) old was) is)

  pub run-own : (es : List Happening) (v : World) → world_of s es ≡ Some v → Has v w → (n : ℕ) → own_state s w n (events_of n es) ≡ Some (v.nodes n)
  run-own [] v run has n = ap (λ (u : World). Some (u.nodes n)) (same_Some (first_world s) v run)
  run-own (x ∷ older) v run has n =
      let b = by-old x older (world_of s older) v refl run in
      by b.0 b.2 (λ a what i e. has a what i (b.3 a what i e)) (run-own older b.0 b.1 (λ a what i e. has a what i (b.3 a what i e)))
    where
      by : (old : World) (is : IsNext s old (choice_of x) v) → Has old w → ((n : ℕ) → own_state s w n (events_of n older) ≡ Some (old.nodes n)) → own_state s w n (events_of n (x ∷ older)) ≡ Some (v.nodes n)
      by old is before was = by_cases (x.place.node == n) (own_state s w n (events_of n (x ∷ older)) ≡ Some (v.nodes n))
          (λ h.
          subst (λ a. own_state s w a (events_of a (x ∷ older)) ≡ Some (v.nodes a)) (equal x.place.node n h)
          (own-events (λ es. own_state s w x.place.node es ≡ Some (v.nodes x.place.node)) x.place.node x older refl
          (own-one x.place.node x (events_of x.place.node older) (old.nodes x.place.node) is.incoming is.step (was x.place.node) (before x.place.node x.what is.incoming is.comes) is.steps
          ∙ ap (λ (y : NodeState). Some y) (sym (ap (λ (u : World). u.nodes x.place.node) is.world ∙ put-same old.nodes x.place.node x.place.node is.step.node refl)))))
          (λ h.
          others-events (λ es. own_state s w n es ≡ Some (v.nodes n)) n x older h
          (was n ∙ ap (λ (y : NodeState). Some y) (sym (ap (λ (u : World). u.nodes n) is.world ∙ put-other old.nodes x.place.node n is.step.node (λ e. other x.place.node n h e)))))

  -- it is named where they are
  pub own-named : (es : List Happening) (v : World) → world_of s es ≡ Some v → Has v w → ((n : ℕ) → AreOwnNamed s w n (events_of n es)) → AreNamed s es
  own-named [] v run has are = tt
  own-named (x ∷ older) v run has are =
      let b = by-old x older (world_of s older) v refl run in
      let before : Has b.0 w = λ a what i e. has a what i (b.3 a what i e) in
      (subst (λ o. IfSome o (λ u. IsNamed s u x)) (sym b.1) (here b.0 b.2 before (run-own older b.0 b.1 before x.place.node)), own-named older b.0 b.1 before (λ n. older-are n))
    where
      here-are : AreOwnNamed s w x.place.node (x ∷ events_of x.place.node older)
      here-are = subst (λ b. AreOwnNamed s w x.place.node (cond b (x ∷ events_of x.place.node older) (events_of x.place.node older))) (eqb-itself x.place.node) (are x.place.node)

      here : (old : World) (is : IsNext s old (choice_of x) v) → Has old w → own_state s w x.place.node (events_of x.place.node older) ≡ Some (old.nodes x.place.node) → IsNamed s old x
      here old is before was =
          named-to s old x is.incoming is.comes
          (subst (λ o. IfSome o (IsNamedWith s old x)) (before x.place.node x.what is.incoming is.comes) (subst (λ o. IfSome o (IsOwnNamed (given s x.place.node) w x.place.node x)) was here-are.0))

      older-are : (n : ℕ) → AreOwnNamed s w n (events_of n older)
      older-are n = by (x.place.node == n) (are n)
        where
          by : (b : Bool) → AreOwnNamed s w n (cond b (x ∷ events_of n older) (events_of n older)) → AreOwnNamed s w n (events_of n older)
          by true are = are.1
          by false are = are

-- each node did in its turns what it did alone, and room was made there as its cache names it
module _ (s : Setup) (setup : IsSetup s) (plan : List FateRow) (w : World) where
  abbrev Own : World → Type 0
  Own v = (n : ℕ) → (own_state s w n (events_of n v.done) ≡ Some (v.nodes n)) × AreOwnNamed s w n (events_of n v.done)

  module _ (old new : World) (t : IsTimelyTurn s plan old new) (has : Has old w) (own : Own old) where
    abbrev a : ℕ
    a = t.is.act.node

    abbrev it : Happening
    it = event_at t.is.act.node t.is.act.what t.is.step

    abbrev At : ℕ → Type 0
    At n = (own_state s w n (events_of n (it ∷ old.done)) ≡ Some (put old.nodes a t.is.step.node n)) × AreOwnNamed s w n (events_of n (it ∷ old.done))

    acting : At a
    acting =
        let comes = has a t.is.act.what t.is.incoming t.is.receives in (
          own-events s w (λ es. own_state s w a es ≡ Some (put old.nodes a t.is.step.node a)) a it old.done refl
              (own-one s w a it (events_of a old.done) (old.nodes a) t.is.incoming t.is.step (own a).0 comes t.steps ∙ ap (λ (y : NodeState). Some y) (sym (put-same old.nodes a a t.is.step.node refl))),
          own-events s w (AreOwnNamed s w a) a it old.done refl
              (named-one s w a it (events_of a old.done) (old.nodes a) t.is.incoming (own a).0 comes (t.is.steps ∙ sym t.steps) (own a).1),
        )

    beside : (n : ℕ) → (a == n) ≡ false → At n
    beside n h = (
      others-events s w (λ es. own_state s w n es ≡ Some (put old.nodes a t.is.step.node n)) n it old.done h
          ((own n).0 ∙ ap (λ (y : NodeState). Some y) (sym (put-other old.nodes a n t.is.step.node (λ e. other a n h e)))),
      others-events s w (AreOwnNamed s w n) n it old.done h (own n).1,
    )

    one-turn : Own new
    one-turn = subst Own (sym t.is.world) (λ n. by_cases (a == n) (At n) (λ h. subst At (equal a n h) acting) (λ h. beside n h))

  pub turns-own : (cs : List ℕ) (v : World) → after_turns s plan cs ≡ Some v → IsTimely v → Has v w → (n : ℕ) → (own_state s w n (events_of n v.done) ≡ Some (v.nodes n)) × AreOwnNamed s w n (events_of n v.done)
  turns-own [] v e timely has = subst Own (same_Some (first_world s) v e) (λ n. (refl, tt))
  turns-own (c ∷ cs) v e timely has =
      let found = bind-some (after_turns s plan cs) (λ (u : World). turn s plan u c) v e in
      let is = turn-is s plan found.0 c v found.2 in
      let was = timely-before s plan found.0 v is timely in
      let t = timely-turn s setup plan cs found.0 v found.1 is was in
      let before : Has found.0 w = λ n what i x. has n what i (received-stays s plan found.0 v t (turns-marked s setup plan cs found.0 found.1 was) n what i x) in
      one-turn found.0 v t before (turns-own cs found.0 found.1 was before)
