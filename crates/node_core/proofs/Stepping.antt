-- An event of a node is an event of each state that it stands for.
use Rattle.std.proofs.Common.{◌≡◌, ℕ, Bool, true, false, List, [], ◌∷◌, ◌++◌, Option, Some, None, IfSome, is_some, refl, sym, ap, subst, ◌∙◌}
use Rattle.std.specs.Prelude.{◌==◌}
use Rattle.std.specs.List.{list_any}
use Rattle.std.specs.Option.{option_map}
use Rattle.std.proofs.lemmas.List.{append-nil}
use Rattle.uid_names.specs.Names.{IsProcNumber}
use Rattle.uid_names.specs.declared.ids.Place.{Place}
use Rattle.uid_names.proofs.ListLemmas.{by_cases}
use Rattle.uid_names.proofs.Somes.{found_there, map-there, none-there}
use Rattle.dom_history.specs.declared.event.What.{What}
use Rattle.dom_history.specs.declared.op.Reply.{Reply}
use Rattle.dom_history.specs.declared.op.Want.{Want}
use Rattle.dom_history.specs.Follows.{Heard}
use Rattle.dom_history.specs.Events.{Happening}
use Rattle.dom_history.specs.declared.event.Effects.{Effects}
use Rattle.dom_history.specs.declared.event.NodeLog.{NodeLog}
use Rattle.ring_messages.specs.Frames.{Message}
use Rattle.dom_history.specs.Programs.{program_after}
use Rattle.node_runs.specs.Setups.{Given}
use Rattle.node_runs.specs.NodeStates.{NodeState, proc_of}
use Rattle.node_runs.specs.Incomings.{Incoming, has_program, enabled}
use Rattle.node_runs.specs.Outcomes.{Stepped}
use Rattle.node_runs.specs.SentFrames.{IsIncoming}
use Rattle.node_runs.specs.Steps.{named_step, step_of}
use Rattle.node_runs.specs.Alikes.{AreAlikeGiven, AreAlikeSteps}
use Rattle.node_runs.proofs.AlikeSteps.{enabled-alike, step-alike}
use Rattle.node_runs.proofs.SettingUp.{given-procs}
use Rattle.node_runs.proofs.Forgetting.{alike-on}
use Rattle.node_core.specs.Processes.{want_at}
use Rattle.node_core.specs.Programs.{program_in, numbers_in, told_all}
use Rattle.node_core.specs.Nodes.{Inner, Noted, given_in, IsTold, IsKept, line_of, given_of, state_of, Stands, Happened, HappenedAside}
use Rattle.node_core.specs.Machines as machine
use Rattle.node_core.specs.Machines.{inner_of}
use Rattle.node_core.specs.Outcomes.{Led}
use Rattle.node_core.specs.Receivings.{indexed, mark_in, emitted_by}
use Rattle.node_core.specs.declared.machine.Machine.{Machine}
use Rattle.node_core.specs.declared.setup.Emitted.{Emitted}
use Rattle.node_core.specs.declared.turns.Done.{Done}
use Rattle.node_core.proofs.Keeping.{same-number, same-nodes, same-frames}
use Rattle.node_core.proofs.FirstPrograms.{has-program}
use Rattle.node_core.proofs.Seen.{seen-silent}

-- the program of a process lives
pub program-lives : {P : Type 0} (spent : P → Bool) (wants : P → Want) (x : Inner P) → IsKept spent wants x → (p : ℕ) → IfSome (program_in x.programs p) (λ y. spent y ≡ false)
program-lives {P = P} spent wants x kept p = by (program_in x.programs p) refl
  where
    by : (o : Option P) → program_in x.programs p ≡ o → IfSome o (λ y. spent y ≡ false)
    by None is = tt
    by (Some y) is =
        let proc = given-procs (given_in x) kept.given.programs p (has-program x.programs p ∙ ap (λ (o : Option P). is_some o) is) in
        (subst (λ (o : Option P). IsTold spent wants o (want_at x.procs p)) is (kept.told p proc)).0

module _ {P : Type 0} (becomes : P → Option Reply → P) where
  -- what was told after the rest
  pub after-told : (y : P) (told heard : Heard) → program_after becomes y (told ++ heard) ≡ told_all becomes (program_after becomes y heard) told
  after-told y [] heard = refl
  after-told y (t ∷ told) heard = ap (λ x. becomes x t) (after-told y told heard)

  -- a program, after what it heard and what it was told then
  pub told-after : (now then made : Option P) (first told heard later : Heard) → now ≡ option_map (λ x. told_all becomes x first) then → then ≡ option_map (λ y. program_after becomes y heard) made
      → first ≡ told ++ [] → later ≡ told ++ heard → now ≡ option_map (λ y. program_after becomes y later) made
  told-after now then made first told heard later is was here there = by_made made was
    where
      same : first ≡ told
      same = here ∙ append-nil told

      by_made : (o : Option P) → then ≡ option_map (λ y. program_after becomes y heard) o → now ≡ option_map (λ y. program_after becomes y later) o
      by_made None old = is ∙ ap (option_map (λ x. told_all becomes x first)) old
      by_made (Some y) old =
          is ∙ ap (option_map (λ x. told_all becomes x first)) old ∙ ap (λ hs. Some (told_all becomes (program_after becomes y heard) hs)) same
          ∙ sym (ap (λ x. Some x) (ap (program_after becomes y) there ∙ after-told y told heard))

module _ {P : Type 0} (spent : P → Bool) (wants : P → Want) (becomes : P → Option Reply → P) (made : ℕ → Option P) (g : Given) (x : Noted P) (n : NodeState)
    (stands : Stands wants becomes made g x n) (kept : IsKept spent wants x.inner) where
  -- the same processes have programs
  pub same-programs : (p : ℕ) → has_program (given_of x) p ≡ has_program g p
  same-programs p = has-program x.inner.programs p ∙ ap (λ (o : Option P). is_some o) (stands.told p) ∙ map-there (λ y. program_after becomes y (proc_of n p).heard) (made p) ∙ sym (stands.programs p)

  -- a program that lives wants what is known of it
  told-wants : (o : Option P) (w : Want) (y : P) → IsTold spent wants o w → o ≡ Some y → wants y ≡ w
  told-wants o w y told is = (subst (λ a. IsTold spent wants a w) is told).1

  same-asks : (p : ℕ) → has_program (given_of x) p ≡ true → want_at x.inner.procs p ≡ g.asks p (proc_of n p).heard
  same-asks p has =
      let y = found_there (made p) (sym (stands.programs p) ∙ (sym (same-programs p) ∙ has)) in
      let now : program_in x.inner.programs p ≡ Some (program_after becomes y.0 (proc_of n p).heard) = stands.told p ∙ ap (option_map (λ z. program_after becomes z (proc_of n p).heard)) y.1 in
      sym (told-wants (program_in x.inner.programs p) (want_at x.inner.procs p) (program_after becomes y.0 (proc_of n p).heard) (kept.told p (given-procs (given_of x) kept.given.programs p has)) now)
      ∙ sym (stands.asks p y.0 y.1 (proc_of n p).heard)

  pub given-alike : AreAlikeGiven (given_of x) g (state_of x) n
  given-alike = record {
    number = sym stands.number;
    nodes = sym stands.nodes;
    greatest = sym stands.greatest;
    wire = sym stands.wire;
    phases = sym stands.phases;
    programs = same-programs;
    asks = same-asks;
  }

  -- it is enabled there as well
  pub enabled-there : (what : What) (incoming : Incoming) → enabled (given_of x) (state_of x) what incoming ≡ enabled g n what incoming
  enabled-there what incoming = enabled-alike (given_of x) g (state_of x) n what incoming given-alike stands.alike

  module _ (what : What) (incoming : Incoming) (may : enabled (given_of x) (state_of x) what incoming ≡ true) (s : Stepped) (named : named_step (given_of x) (state_of x) what incoming ≡ Some s) where
    -- the event at that state
    pub step-there : (t : Stepped) × (named_step g n what incoming ≡ Some t) × AreAlikeSteps (state_of x) n s t
    step-there = step-alike (given_of x) g (state_of x) n what incoming given-alike stands.alike s may named

    -- a program after it
    module _ (t : Stepped) (steps : AreAlikeSteps (state_of x) n s t) (programs : List (ℕ × P)) (numbers : numbers_in programs ≡ numbers_in x.inner.programs)
        (told : (p : ℕ) → IsProcNumber p → program_in programs p ≡ option_map (λ y. told_all becomes y (proc_of s.node p).heard) (program_in x.inner.programs p)) where
      told-proc : (p : ℕ) → IsProcNumber p → program_in programs p ≡ option_map (λ y. program_after becomes y (proc_of t.node p).heard) (made p)
      told-proc p proc =
          let more = steps.heard p in
          told-after becomes (program_in programs p) (program_in x.inner.programs p) (made p) (proc_of s.node p).heard more.told (proc_of n p).heard (proc_of t.node p).heard
          (told p proc) (stands.told p) (more.here ∙ ap (λ hs. more.told ++ hs) (seen-silent x.inner.procs p)) more.there

      -- no other process has one
      told-none : (p : ℕ) → has_program (given_of x) p ≡ false → program_in programs p ≡ option_map (λ y. program_after becomes y (proc_of t.node p).heard) (made p)
      told-none p none =
          none-there (program_in programs p) (sym (has-program programs p) ∙ (ap (list_any (λ q. q == p)) numbers ∙ none))
          ∙ sym (ap (option_map (λ y. program_after becomes y (proc_of t.node p).heard)) (none-there (made p) (sym (stands.programs p) ∙ (sym (same-programs p) ∙ none))))

      pub told-there : (p : ℕ) → program_in programs p ≡ option_map (λ y. program_after becomes y (proc_of t.node p).heard) (made p)
      told-there p = by_cases (has_program (given_of x) p) (program_in programs p ≡ option_map (λ y. program_after becomes y (proc_of t.node p).heard) (made p))
          (λ has. told-proc p (given-procs (given_of x) kept.given.programs p has)) (told-none p)

-- an event of a node's machine, its line in the journal, and what it emits
module _ {P G : Type 0} (spent : P → Bool) (wants : P → Want) (becomes : P → Option Reply → P) (m new : Machine P G) (log after : NodeLog) (what : What) (incoming : Incoming) (done : Done) (emitted : Emitted) (s : Stepped)
    (kept : IsKept spent wants (inner_of m)) (may : enabled (machine.given_of m) (machine.state_of m) what incoming ≡ true) (frame : IsIncoming incoming)
    (named : named_step (machine.given_of m) (machine.state_of m) what incoming ≡ Some s) (step : step_of (machine.given_of m) (machine.state_of m) what incoming s.effects.dropped ≡ Some s)
    (led : Led spent wants becomes m new done s) (emits : emitted ≡ record { frame = done.frame; mark = mark_in what }) (place : Place) (at_place : place ≡ record { tick = new.tick; node = new.desk.node })
    (events : after.events ≡ log.events ++ record { place = place; what = what; effects = done.effects } ∷ []) (same_node : after.node ≡ log.node) (b : Bool)
    (made : ℕ → Option P) (g : Given) (n : NodeState) where
  abbrev before_it : Noted P
  before_it = record { inner = inner_of m; log = log; spent = b }

  abbrev after_it : Noted P
  after_it = record { inner = inner_of new; log = after; spent = false }

  module _ (stands : Stands wants becomes made g before_it n) where
    number : new.desk.node ≡ m.desk.node
    number = same-number spent wants m kept becomes new done s what incoming frame led step

    stands-after : (t : Stepped) → AreAlikeSteps (machine.state_of m) n s t → Stands wants becomes made g after_it t.node
    stands-after t steps = record {
      whole = refl;
      number = stands.number ∙ sym number;
      nodes = stands.nodes ∙ sym (same-nodes spent wants m kept becomes new done s what incoming frame led step);
      greatest = stands.greatest ∙ sym led.same_greatest;
      wire = stands.wire ∙ sym led.same_wire;
      frames = stands.frames ∙ sym (same-frames spent wants m kept becomes new done s what incoming frame led step);
      phases = stands.phases ∙ sym led.same_phases;
      programs = stands.programs;
      asks = stands.asks;
      told = told-there spent wants becomes made g before_it n stands kept what incoming may s named t steps new.programs.items led.numbers led.programs;
      alike = alike-on (machine.state_of new) s.node t.node led.alike steps.node;
    }

    line-is : (t : Stepped) → AreAlikeSteps (machine.state_of m) n s t → ◌≡◌ {A = Happening} (record { place = place; what = what; effects = done.effects }) (line_of g.number what t)
    line-is t steps =
        let line = λ (p : Place) (e : Effects). let h : Happening = record { place = p; what = what; effects = e } in h in
        let at = λ (tick node : ℕ). let p : Place = record { tick = tick; node = node } in p in
        ap (λ p. line p done.effects) (at_place ∙ ap (λ k. at k new.desk.node) (led.alike.tick ∙ steps.node.tick) ∙ ap (at t.node.tick) (number ∙ sym stands.number))
        ∙ ap (line (at t.node.tick g.number)) (led.effects ∙ steps.effects)

    emits-is : (t : Stepped) → AreAlikeSteps (machine.state_of m) n s t → emitted ≡ emitted_by what t
    emits-is t steps =
        let emit = λ (f : Option (ℕ × Message)). let x : Emitted = record { frame = f; mark = mark_in what } in x in
        emits ∙ ap emit (led.frame ∙ ap (λ f. indexed f s.effects.sent) steps.frame ∙ ap (λ (e : Effects). indexed t.frame e.sent) steps.effects)

    pub happened : (t : Stepped) × Happened wants becomes made g what incoming before_it after_it emitted n t
    happened =
        let found = step-there spent wants becomes made g before_it n stands kept what incoming may s named in (
          found.0,
          record {
            step = found.1;
            stands = stands-after found.0 found.2;
            emits = emits-is found.0 found.2;
            events = events ∙ ap (λ (h : Happening). log.events ++ h ∷ []) (line-is found.0 found.2);
            node = same_node;
          },
        )

    -- the same where it is handed back, and the journal stays
    pub happened-aside : (t : Stepped) × HappenedAside wants becomes made g what incoming (record { inner = inner_of new; log = log; spent = false }) (record { place = place; what = what; effects = done.effects }) emitted n t
    happened-aside =
        let found = step-there spent wants becomes made g before_it n stands kept what incoming may s named in
        let there = stands-after found.0 found.2 in (
          found.0,
          record {
            step = found.1;
            stands = record {
              whole = refl;
              number = there.number;
              nodes = there.nodes;
              greatest = there.greatest;
              wire = there.wire;
              frames = there.frames;
              phases = there.phases;
              programs = there.programs;
              asks = there.asks;
              told = there.told;
              alike = there.alike;
            };
            emits = emits-is found.0 found.2;
            event_is = line-is found.0 found.2;
          },
        )
