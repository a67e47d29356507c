-- What a machine keeps: as its event begins, and after it.
use Rattle.std.proofs.Common.{◌≡◌, ℕ, zero, suc, ◌-◌, ◌^◌, ◌<◌, ◌≤◌, Bool, List, [], ◌∷◌, map, Option, Some, None, IfSome, refl, sym, ap, subst, ◌∙◌, arith}
use Rattle.std.specs.Prelude.{slice_index_or, true, not, ◌==◌, ◌&&◌, Result, Ok, Err, IfOk, OnOk}
use Rattle.std.proofs.lemmas.List.{length-map}
use Rattle.std.proofs.lemmas.List.Elements.{All-nil}
use Rattle.std.proofs.lemmas.Option.{same_Some}
use Rattle.uid_names.specs.Openings.{Start, IsStart}
use Rattle.uid_names.specs.Wires.{IsWire, wire_room}
use Rattle.uid_names.specs.declared.limits.TheConstants.{MAX_PHASES}
use Rattle.uid_names.proofs.Passed.{left-true, right-true, equal}
use Rattle.dom_history.specs.declared.event.What.{What}
use Rattle.dom_history.specs.declared.event.What.TheVariants.{Begin, Go, Take, Notice, Ready, Mark}
use Rattle.dom_history.specs.declared.op.Reply.{Reply}
use Rattle.dom_history.specs.declared.op.Want.{Want}
use Rattle.dom_history.specs.declared.op.Want.TheVariants.{Do, Phase, Done as AllDone}
use Rattle.dom_history.specs.Events.{AreEffects}
use Rattle.dom_history.specs.Ranges.{IsNamedReply}
use Rattle.ring_messages.specs.Bodies.{Ask}
use Rattle.ring_messages.specs.Frames.{Message}
use Rattle.fault_handler.specs.Desks.{DeskState, at}
use Rattle.node_runs.specs.Setups.{Given, IsGiven, ArePrograms, IsFrames, FitsWire}
use Rattle.node_runs.specs.NodeStates.{OpenOp, NodeState, first_proc, is_ended}
use Rattle.node_runs.specs.Incomings.{Incoming, has_program, may_happen, enabled}
use Rattle.node_runs.specs.Outcomes.{Stepped}
use Rattle.node_runs.specs.SentFrames.{IsIncoming}
use Rattle.node_runs.specs.Steps.{step_of}
use Rattle.node_runs.proofs.Nodes.{Keeps, node-with}
use Rattle.node_runs.proofs.Reaching.{step_of-keeps}
use Rattle.node_runs.proofs.Counts.{step_of-counted}
use Rattle.node_runs.proofs.Forgetting.{alike-back, node-anew, counted-alike}
use Rattle.node_core.specs.declared.machine.Machine.{Machine}
use Rattle.node_core.specs.declared.processes.Open.{Open}
use Rattle.node_core.specs.declared.processes.Proc.{Proc}
use Rattle.node_core.specs.declared.turns.Done.{Done}
use Rattle.node_core.specs.Processes.{doing_of, open_seen, proc_seen, want_at}
use Rattle.node_core.specs.Programs.{AreRising}
use Rattle.node_core.specs.Machines.{given_of, state_of, IsKept, IsBefore}
use Rattle.node_core.specs.Outcomes.{Led}
use Rattle.node_core.proofs.Seen.{seen-silent}

-- what is open is wanted
wants-of : (w : Want) (opened : Option Open) (ask : Ask) (o : OpenOp) → doing_of w opened ask ≡ Some o → w ≡ Do o.began.op
wants-of (Do op) None ask o is = absurd (cc)
wants-of (Do op) (Some x) ask o is = ap (λ (y : OpenOp). Do y.began.op) (same_Some (open_seen op x ask) o is)
wants-of Phase opened ask o is = absurd (cc)
wants-of AllDone opened ask o is = absurd (cc)

wants-at : (qs : List Proc) (i : ℕ) (o : OpenOp) → (slice_index_or (map proc_seen qs) i first_proc).doing ≡ Some o → slice_index_or (map (λ (q : Proc). q.want) qs) i Phase ≡ Do o.began.op
wants-at [] i o is = absurd (cc)
wants-at (q ∷ qs) zero o is = wants-of q.want q.opened q.asked o is
wants-at (q ∷ qs) (suc i) o is = wants-at qs i o is

pub doing-wants : (qs : List Proc) (p : ℕ) (o : OpenOp) → (at (map proc_seen qs) p first_proc).doing ≡ Some o → want_at qs p ≡ Do o.began.op
doing-wants qs p o is = wants-at qs (p - 1) o is

module _ {P G : Type 0} (spent : P → Bool) (wants : P → Want) (old : Machine P G) (kept : IsKept spent wants old) where
  -- an event begins
  pub before-event : (t : ℕ) → old.tick < t → t ≤ 2 ^ 40 → IsBefore spent wants (record old { tick = t })
  before-event t more late = record {
    given = kept.given;
    node = node-with (given_of old) (state_of old) (state_of (record old { tick = t })) kept.node refl refl kept.node.side kept.node.home kept.node.within.side;
    within = record {
      four = sym (length-map old.procs proc_seen) ∙ kept.node.four;
      told = kept.told;
      wanted = λ p. kept.given.wants p [] tt (All-nil (λ (told : Option Reply). IfSome told IsNamedReply));
      earlier = let s = kept.served in omega arith;
      late = late;
      ticked = omega arith;
      counted = λ to. let few = kept.counted.emitted to in omega arith;
      last = λ p proc. let few = kept.counted.last p proc in omega arith;
    };
    earlier = let s = kept.served in omega arith;
    phases = kept.phases;
  }

  -- an event happened
  module _ (becomes : P → Option Reply → P) (new : Machine P G) (done : Done) (s : Stepped) (what : What) (incoming : Incoming) (frame : IsIncoming incoming)
      (led : Led spent wants becomes old new done s) (step : step_of (given_of old) (state_of old) what incoming s.effects.dropped ≡ Some s) where
    keeps : Keeps (given_of old) s
    keeps = step_of-keeps (given_of old) (state_of old) what incoming s.effects.dropped s kept.given kept.node frame step

    pub same-number : new.desk.node ≡ old.desk.node
    same-number = ap (λ (d : DeskState). d.node) led.alike.desk ∙ keeps.node.own.node

    pub same-nodes : new.desk.nodes ≡ old.desk.nodes
    same-nodes = ap (λ (d : DeskState). d.nodes) led.alike.desk ∙ keeps.node.own.nodes

    pub same-frames : new.desk.cache.frames ≡ old.desk.cache.frames
    same-frames = ap (λ (d : DeskState). d.cache.frames) led.alike.desk ∙ keeps.node.own.frames

    start-after : IsStart (given_of new).opening
    start-after =
        let opening = λ (nodes greatest : ℕ). let x : Start = record { nodes = nodes; greatest = greatest; objects = [] } in x in
        subst (λ k. IsStart (opening k new.greatest)) (sym same-nodes) (subst (λ k. IsStart (opening old.desk.nodes k)) (sym led.same_greatest) kept.given.start)

    wire-after : FitsWire new.server.wire (given_of new).opening
    wire-after =
        let fits = kept.given.wire in
        let room : new.greatest ≤ wire_room old.server.wire = subst (λ k. k ≤ wire_room old.server.wire) (sym led.same_greatest) fits.rooms in
        record { version = subst IsWire (sym led.same_wire) fits.version; rooms = subst (λ k. new.greatest ≤ wire_room k) (sym led.same_wire) room }

    given-after : IsGiven (given_of new)
    given-after = record {
      start = start-after;
      begins = record { homes = kept.given.begins.homes };
      wire = wire-after;
      frames = subst IsFrames (sym same-frames) kept.given.frames;
      programs = subst ArePrograms (sym led.numbers) kept.given.programs;
      wants = λ p heard fits named. led.wanted p;
    }

    pub kept-after : IsKept spent wants new
    kept-after = record {
      given = given-after;
      node = node-anew (given_of old) (given_of new) s.node (state_of new) (alike-back (state_of new) s.node led.alike) (seen-silent new.procs)
          (record {
            number = same-number;
            nodes = same-nodes;
            wire = led.same_wire;
            frames = same-frames;
            asks = λ p o heard doing. doing-wants new.procs p o ((led.alike.procs p).doing ∙ doing);
          }) keeps.node;
      counted = counted-alike s.node (state_of new) (alike-back (state_of new) s.node led.alike) (step_of-counted (given_of old) (state_of old) what incoming s.effects.dropped s kept.counted step);
      told = led.told;
      served = led.served;
      phases = subst (λ k. k ≤ MAX_PHASES) (sym led.same_phases) kept.phases;
      rising = subst AreRising (sym led.numbers) kept.rising;
    }

    pub effects-after : AreEffects done.effects
    effects-after = subst AreEffects (sym led.effects) keeps.effects

-- which process an enabled event is of, and what it receives
module _ (g : Given) (n : NodeState) where
  happens-true : (what : What) (incoming : Incoming) → enabled g n what incoming ≡ true → may_happen g n what incoming ≡ true
  happens-true what incoming may = right-true (not (is_ended g n)) (may_happen g n what incoming) may

  begin-is : (p : ℕ) (incoming : Incoming) → may_happen g n (Begin p) incoming ≡ true → (incoming ≡ Incoming.Nothing) × (has_program g p ≡ true)
  begin-is p Incoming.Nothing may = (refl, left-true (has_program g p) _ may)
  begin-is p (Incoming.Frame m) may = absurd (cc)
  begin-is p (Incoming.Gone number tick) may = absurd (cc)
  begin-is p (Incoming.Mark tick) may = absurd (cc)

  go-is : (p : ℕ) (incoming : Incoming) → may_happen g n (Go p) incoming ≡ true → (incoming ≡ Incoming.Nothing) × (has_program g p ≡ true)
  go-is p Incoming.Nothing may = (refl, left-true (has_program g p) _ may)
  go-is p (Incoming.Frame m) may = absurd (cc)
  go-is p (Incoming.Gone number tick) may = absurd (cc)
  go-is p (Incoming.Mark tick) may = absurd (cc)

  take-is : (from index : ℕ) (m : Message) → may_happen g n (Take from index) (Incoming.Frame m) ≡ true → (m.to ≡ g.number) × (m.version ≡ g.wire)
  take-is from index m may =
      let link = left-true ((m.from == from) && (m.to == g.number)) (m.version == g.wire) may in
      (equal m.to g.number (right-true (m.from == from) (m.to == g.number) link), equal m.version g.wire (right-true ((m.from == from) && (m.to == g.number)) (m.version == g.wire) may))

  notice-is : (p from to index : ℕ) (incoming : Incoming) → may_happen g n (Notice p from to index) incoming ≡ true → (number : ℕ) × (tick : ℕ) × (incoming ≡ Incoming.Gone number tick) × (has_program g p ≡ true)
  notice-is p from to index Incoming.Nothing may = absurd (cc)
  notice-is p from to index (Incoming.Frame m) may = absurd (cc)
  notice-is p from to index (Incoming.Gone number tick) may = (number, tick, refl, left-true (has_program g p) _ may)
  notice-is p from to index (Incoming.Mark tick) may = absurd (cc)

  ready-is : (phase : ℕ) (incoming : Incoming) → may_happen g n (Ready phase) incoming ≡ true → incoming ≡ Incoming.Nothing
  ready-is phase Incoming.Nothing may = refl
  ready-is phase (Incoming.Frame m) may = absurd (cc)
  ready-is phase (Incoming.Gone number tick) may = absurd (cc)
  ready-is phase (Incoming.Mark tick) may = absurd (cc)

  mark-is : (from phase : ℕ) (incoming : Incoming) → may_happen g n (Mark from phase) incoming ≡ true → (tick : ℕ) × (incoming ≡ Incoming.Mark tick)
  mark-is from phase Incoming.Nothing may = absurd (cc)
  mark-is from phase (Incoming.Frame m) may = absurd (cc)
  mark-is from phase (Incoming.Gone number t) may = absurd (cc)
  mark-is from phase (Incoming.Mark tick) may = (tick, refl)

  pub begin-at : (p : ℕ) (what : What) (incoming : Incoming) → what ≡ Begin p → enabled g n what incoming ≡ true → (incoming ≡ Incoming.Nothing) × (has_program g p ≡ true)
  begin-at p what incoming is may = begin-is p incoming (happens-true (Begin p) incoming (subst (λ w. enabled g n w incoming ≡ true) is may))

  pub go-at : (p : ℕ) (what : What) (incoming : Incoming) → what ≡ Go p → enabled g n what incoming ≡ true → (incoming ≡ Incoming.Nothing) × (has_program g p ≡ true)
  go-at p what incoming is may = go-is p incoming (happens-true (Go p) incoming (subst (λ w. enabled g n w incoming ≡ true) is may))

  pub take-at : (from index : ℕ) (m : Message) (what : What) (incoming : Incoming) → what ≡ Take from index → incoming ≡ Incoming.Frame m → enabled g n what incoming ≡ true → (m.to ≡ g.number) × (m.version ≡ g.wire)
  take-at from index m what incoming is frame may =
      take-is from index m
      (happens-true (Take from index) (Incoming.Frame m) (subst (λ i. enabled g n (Take from index) i ≡ true) frame (subst (λ w. enabled g n w incoming ≡ true) is may)))

  pub notice-at : (p from to index : ℕ) (what : What) (incoming : Incoming) → what ≡ Notice p from to index → enabled g n what incoming ≡ true → (number : ℕ) × (tick : ℕ) × (incoming ≡ Incoming.Gone number tick) × (has_program g p ≡ true)
  notice-at p from to index what incoming is may = notice-is p from to index incoming (happens-true (Notice p from to index) incoming (subst (λ w. enabled g n w incoming ≡ true) is may))

  pub ready-at : (phase : ℕ) (what : What) (incoming : Incoming) → what ≡ Ready phase → enabled g n what incoming ≡ true → incoming ≡ Incoming.Nothing
  ready-at phase what incoming is may = ready-is phase incoming (happens-true (Ready phase) incoming (subst (λ w. enabled g n w incoming ≡ true) is may))

  pub mark-at : (from phase : ℕ) (what : What) (incoming : Incoming) → what ≡ Mark from phase → enabled g n what incoming ≡ true → (tick : ℕ) × (incoming ≡ Incoming.Mark tick)
  mark-at from phase what incoming is may = mark-is from phase incoming (happens-true (Mark from phase) incoming (subst (λ w. enabled g n w incoming ≡ true) is may))

-- what holds of each answer holds where there is one
pub on-ok : {A E : Type 0} (r : Result A E) (Q : Type 0) → IfOk r (λ x. Q) → OnOk r Q
on-ok (Ok x) Q is = is
on-ok (Err e) Q is = tt
