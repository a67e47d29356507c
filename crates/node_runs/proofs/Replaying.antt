-- In every run the homes are what their decisions made of them.
use Rattle.std.proofs.Common.{◌≡◌, ℕ, true, false, List, Some, inl, inr, refl, sym, ap, subst, ◌∙◌, arith}
use Rattle.std.specs.Prelude.{◌==◌}
use Rattle.std.proofs.lemmas.Bool.{cases_eq}
use Rattle.std.proofs.lemmas.Bool.Decides.{nat_tests}
use Rattle.ring_messages.specs.Frames.{caller_of}
use Rattle.page_server.specs.Decisions.{decide}
use Rattle.page_server.specs.Serving.{HomeSide}
use Rattle.node_runs.specs.Setups.{Setup, Given, given}
use Rattle.node_runs.specs.NodeStates.{NodeState}
use Rattle.node_runs.specs.Notes.{Note}
use Rattle.node_runs.specs.Outcomes.{Stepped}
use Rattle.node_runs.specs.Doings.{ticked}
use Rattle.node_runs.specs.Runs.{World, Choice, put, world_after}
use Rattle.node_runs.specs.Replays.{Held, held_by, after_note, after_if, replay, first_held, IsAnswered, AreReplays}
use Rattle.node_runs.proofs.Doing.{step_of-did}
use Rattle.node_runs.proofs.Worlds.{IsNext, every-run}
use Rattle.node_runs.proofs.Calls.{put-same, put-other}
use Rattle.node_runs.proofs.Decisions.{IsNoDecision, HomeStep, apart, decides, did-home}

same-held : (a b : HomeSide) → a.home ≡ b.home → a.locks ≡ b.locks → held_by a ≡ held_by b
same-held a b home locks = ap (λ x. let h : Held = record { home = x; locks = a.locks } in h) home ∙ ap (λ x. let h : Held = record { home = b.home; locks = x } in h) locks

no-note : (h : Held) (note : Note) → IsNoDecision note → after_note h note ≡ h
no-note h Note.Nothing is = refl
no-note h (Note.Began q op) is = refl
no-note h (Note.Did q phase op reply) is = refl
no-note h (Note.Ended t) is = refl
no-note h (Note.Decided q k ask answer) is = absurd is

no-answer : (h : Held) (note : Note) → IsNoDecision note → IsAnswered h note
no-answer h Note.Nothing is = tt
no-answer h (Note.Began q op) is = tt
no-answer h (Note.Did q phase op reply) is = tt
no-answer h (Note.Ended t) is = tt
no-answer h (Note.Decided q k ask answer) is = absurd is

module _ (s : Setup) (old : World) (are : AreReplays s old) (g : Given) (c : Choice) (step : Stepped) (n : NodeState) (same : n.side ≡ (old.nodes c.node).side) where
  abbrev before : Held
  before = replay (first_held s c.node) c.node old.trace

  was : held_by n.side ≡ before
  was = ap held_by same ∙ are.homes c.node

  own : (what : _) (incoming : _) → HomeStep g n what incoming step → (held_by step.node.side ≡ after_note before step.note) × IsAnswered before step.note
  own what incoming (apart more stays none) = (same-held step.node.side n.side stays.0 stays.1 ∙ was ∙ sym (no-note before step.note none), no-answer before step.note none)
  own what incoming (decides from index m ask answer takes frame asks more above now note decision) = (
    same-held step.node.side (record n.side { home = (decide n.side.home n.side.locks (caller_of m) ask).home; locks = (decide n.side.home n.side.locks (caller_of m) ask).locks }) decision.home decision.locks
        ∙ ap (λ h. after_note h (Note.Decided (caller_of m) m.number ask answer)) was
        ∙ ap (after_note before) (sym note),
    subst (IsAnswered before) (sym note) (subst (λ h. answer ≡ (decide h.home h.locks (caller_of m) ask).answer) was decision.told),
  )

  -- the home that took part, and the others
  here-or-not : (held_by step.node.side ≡ after_note before step.note) → (a : ℕ) → held_by (put old.nodes c.node step.node a).side ≡ after_if (c.node == a) (replay (first_held s a) a old.trace) step.note
  here-or-not is a = elim (cases_eq a c.node) [
    | inl here ↦
        subst (λ b. held_by (put old.nodes c.node step.node b).side ≡ after_if (c.node == b) (replay (first_held s b) b old.trace) step.note) (sym here)
        (ap (λ x. held_by x.side) (put-same old.nodes c.node c.node step.node refl) ∙ is ∙ ap (λ b. after_if b before step.note) (let e : true ≡ (c.node == c.node) = grind (arith, nat_tests) in e))
    | inr away ↦
        ap (λ x. held_by x.side) (put-other old.nodes c.node a step.node away) ∙ are.homes a
        ∙ ap (λ b. after_if b (replay (first_held s a) a old.trace) step.note) (let e : false ≡ (c.node == a) = grind (arith, nat_tests, away) in e)
  ]

replays-later : (s : Setup) (old : World) (c : Choice) (new : World) → IsNext s old c new → AreReplays s old → AreReplays s new
replays-later s old c new is are =
    let g = given s c.node in
    let done = step_of-did g (old.nodes c.node) c.what is.incoming c.dropped is.step is.steps in
    let n = ticked (old.nodes c.node) is.incoming in
    let result = own s old are g c is.step n refl c.what is.incoming (did-home g n c.what is.incoming is.step done) in
    subst (AreReplays s) (sym is.world) (record { homes = here-or-not s old are g c is.step n refl result.0; answers = (result.1, are.answers) })

-- in every run
pub replays-are : (s : Setup) (cs : List Choice) (w : World) → world_after s cs ≡ Some w → AreReplays s w
replays-are s = every-run s (AreReplays s) (record { homes = λ n. refl; answers = tt }) (replays-later s)
