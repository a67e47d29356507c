-- In every run each number of an event is one that a journal can spell.
use Rattle.std.proofs.Common.{◌≡◌, ℕ, suc, ◌+◌, ◌≤◌, Bool, true, false, cond, List, ◌∷◌, length, Option, Some, None, IfSome, inl, inr, refl, sym, ap, subst, ◌∙◌, arith}
use Rattle.std.specs.Prelude.{◌==◌, ◌&&◌, ◌^◌, not, nat_lt, max}
use Rattle.std.specs.List.{list_all}
use Rattle.std.proofs.lemmas.Bool.{cases_eq, ne_eqb}
use Rattle.std.proofs.lemmas.Bool.Decides.{nat_tests}
use Rattle.uid_names.specs.Names.{ProcName}
use Rattle.uid_names.proofs.ListLemmas.{by_cases}
use Rattle.uid_names.proofs.Passed.{equal, left-true, right-true}
use Rattle.dom_history.specs.declared.event.What.{What}
use Rattle.dom_history.specs.declared.event.What.TheVariants.{Begin, Go, Take, Notice, Ready, Mark}
use Rattle.dom_history.specs.Events.{Happening}
use Rattle.ring_messages.specs.Frames.{Message}
use Rattle.fault_handler.specs.Desks.{DeskState}
use Rattle.fault_handler.specs.Invariant.{IsProc}
use Rattle.fault_handler.specs.Outcomes.{Moved, Turn}
use Rattle.node_runs.specs.Setups.{Setup, IsSetup, Given}
use Rattle.node_runs.specs.NodeStates.{BegunOp, NodeState, emitted_to, is_ended, proc_of}
use Rattle.node_runs.specs.Incomings.{Incoming, enabled, has_program, may_happen, tick_of}
use Rattle.node_runs.specs.Outcomes.{Stage, Stepped, moved as moved_by_op, turned}
use Rattle.node_runs.specs.Doings.{begun_at, stage_of}
use Rattle.node_runs.specs.Dones.{Did, paused, finished, began, resumed, served, passed_over, heard, ignored, resent, gave_up, got_ready, marked}
use Rattle.node_runs.specs.Agreements.{Agrees}
use Rattle.node_runs.specs.NodesKeep.{IsCounted, IsNodeOf, IsTimely}
use Rattle.node_runs.specs.SentFrames.{IsIncoming}
use Rattle.node_runs.specs.Runs.{Choice, SentMark, World, frames_after, incoming_of, mark_of, marked as taken_mark, numbered, taken, told_of, world_after}
use Rattle.node_runs.specs.CallsKeep.{EachOf}
use Rattle.node_runs.proofs.Calls.{frames-one, put-same, put-other}
use Rattle.node_runs.proofs.Nodes.{node-with}
use Rattle.node_runs.proofs.Receiving.{incoming-is}
use Rattle.node_runs.proofs.SettingUp.{given-procs, setup-gives, setup-procs}
use Rattle.node_runs.proofs.Stepping.{step_of-is}
use Rattle.node_runs.proofs.Worlds.{place_at, nodes-counted}
use Rattle.world_runs.proofs.Alike.{added, frames-added, marked_by, marks-marked}
use Rattle.world_runs.proofs.Receiving.{numbered-within}
use Rattle.world_runs.proofs.TimelyRuns.{next-node, next-tick}
use Rattle.run_laws.proofs.HearingRuns.{IsKeptNext, every-kept-run, event, event-did, event-incoming}
use Rattle.run_laws.specs.StandingLocks.{AreStanding}
use Rattle.run_journals.proofs.Drops.{AreSuch}
use Rattle.run_journals.proofs.PageNames.{AreAllNamed, Named, event-drops, named-later}

-- a step's numbers are at most so great
record AreLow (most : ℕ) (s : Stepped) : Type 0 where
  sent : IfSome s.effects.sent (λ x. (x.index ≤ most) × (x.number ≤ most))
  frame : IfSome s.frame (λ m. m.number ≤ most)

-- that of a frame that is received
abbrev IsLowFrame : ℕ → Incoming → Type 0
IsLowFrame most (Incoming.Frame m) = m.number ≤ most
IsLowFrame most incoming = Unit {0}

module _ (g : Given) (n : NodeState) (is : IsNodeOf g n) (procs : (p : ℕ) → has_program g p ≡ true → IsProc p) (most : ℕ) (emitted : (to : ℕ) → emitted_to n to + 1 ≤ most) (last : (p : ℕ) → IsProc p → (proc_of n p).last + 1 ≤ most) where
  turned-low : (p : ℕ) → IsProc p → (o : BegunOp) (stage : Stage) (d : DeskState) (turn : Turn) → AreLow most (turned g (record n { desk = d }) p o stage turn)
  turned-low p proc o stage d (Turn.Ends reply) = record { sent = tt; frame = tt }
  turned-low p proc o stage d (Turn.Asks home ask) = record { sent = (emitted home, last p proc); frame = last p proc }
  turned-low p proc o stage d (Turn.Waits u k) = record { sent = tt; frame = tt }

  moved-low : (p : ℕ) → IsProc p → (o : BegunOp) (stage : Stage) (m : Moved) → AreLow most (moved_by_op g n p o stage m)
  moved-low p proc o stage m = let one = turned-low p proc o stage m.desk m.turn in record { sent = one.sent; frame = one.frame }

  did-low : (what : What) (incoming : Incoming) (s : Stepped) → IsIncoming incoming → IsLowFrame most incoming → Did g n what incoming s → AreLow most s
  did-low what incoming s frame low (paused p has none want) = record { sent = tt; frame = tt }
  did-low what incoming s frame low (finished p has none want) = record { sent = tt; frame = tt }
  did-low what incoming s frame low (began p op to has none want way) = moved-low p (procs p has) (begun_at g n op) Stage.Starts to
  did-low what incoming s frame low (resumed p o u k accessed to has doing come goes way) = moved-low p (procs p has) o Stage.Resumes to
  did-low what incoming s frame low (served from index m ask answer sender receiver asks answers) = record { sent = (emitted m.from, low); frame = low }
  did-low what incoming s frame low (passed_over from index m ask sender receiver asks none) = record { sent = tt; frame = tt }
  did-low what incoming s frame low (heard from index m o c said to sender receiver asks doing same says way) = moved-low m.proc (frame.range.proc_low, frame.range.proc_high) o (stage_of m.number said) to
  did-low what incoming s frame low (ignored from index m sender receiver asks) = record { sent = tt; frame = tt }
  did-low what incoming s frame low (resent p from to index number tick o c has doing same answer) =
      let proc = procs p has in
      let agrees = subst (Agrees n.desk p (proc_of n p).last) doing (is.agrees p proc) in
      let is_last = agrees.1.1.number in
      let few = last p proc in
      let of_call : c.waiting.number ≤ most = omega (arith, is_last, few) in
      record { sent = (emitted c.home, of_call); frame = of_call }
  did-low what incoming s frame low (gave_up p from to index number tick o c into has doing same answer fails) = moved-low p (procs p has) o (Stage.Settles c.waiting.number) into
  did-low what incoming s frame low (got_ready phase may) = record { sent = tt; frame = tt }
  did-low what incoming s frame low (marked from phase tick may) = record { sent = tt; frame = tt }

-- the index of a frame, and a phase, that an event names
abbrev pub HasCounts : What → Type 0
HasCounts (Begin p) = Unit {0}
HasCounts (Go p) = Unit {0}
HasCounts (Take from index) = index ≤ 2 ^ 40
HasCounts (Notice p from to index) = index ≤ 2 ^ 40
HasCounts (Ready phase) = phase ≤ 1000
HasCounts (Mark from phase) = phase ≤ 1000

pub record IsSpelt (e : Happening) : Type 0 where
  pub tick : e.place.tick ≤ 2 ^ 40
  pub what : HasCounts e.what
  pub dropped : AreSuch Named e.effects.dropped
  pub sent : IfSome e.effects.sent (λ x. (x.index ≤ 2 ^ 40) × (x.number ≤ 2 ^ 40))

-- no link has more frames than its sender had ticks; numbers and phases are low; resident pages are of objects that have names
pub record AreSpelt (s : Setup) (w : World) : Type 0 where
  pub links : (from to : ℕ) → length (w.frames from to) ≤ (w.nodes from).tick
  pub numbers : (from to : ℕ) → EachOf (λ (m : Message). m.number ≤ 2 ^ 40) (w.frames from to)
  pub marks : (from phase : ℕ) (m : SentMark) → mark_of w from phase ≡ Some m → phase ≤ 1000
  pub pages : AreAllNamed s w
  pub events : EachOf IsSpelt w.done

-- a frame or a mark that is received is there
taken-there : (o : Option Message) (i : Incoming) → taken o ≡ Some i → (m : Message) × (o ≡ Some m)
taken-there None i e = absurd (cc)
taken-there (Some m) i e = (m, refl)

told-there : (p : ProcName) (o : Option Message) (i : Incoming) → told_of p o ≡ Some i → (m : Message) × (o ≡ Some m)
told-there p None i e = absurd (cc)
told-there p (Some m) i e = (m, refl)

mark-there : (o : Option SentMark) (i : Incoming) → taken_mark o ≡ Some i → (m : SentMark) × (o ≡ Some m)
mark-there None i e = absurd (cc)
mark-there (Some m) i e = (m, refl)

-- a node's mark is of its phase, and it has not ended
ready-phase : (g : Given) (n : NodeState) (phase : ℕ) (incoming : Incoming) → enabled g n (Ready phase) incoming ≡ true → phase ≤ g.phases
ready-phase g n phase incoming is = by incoming (right-true (not (is_ended g n)) (may_happen g n (Ready phase) incoming) is)
  where
    within : n.phase ≤ g.phases
    within = let open_still = left-true (not (is_ended g n)) (may_happen g n (Ready phase) incoming) is in grind (arith, nat_tests, open_still)

    by : (incoming : Incoming) → may_happen g n (Ready phase) incoming ≡ true → phase ≤ g.phases
    by Incoming.Nothing may = let same = equal phase n.phase (left-true (phase == n.phase) (not n.ready && list_all (λ p. nat_lt n.phase (proc_of n p).phase) g.programs) may) in omega (arith, same, within)
    by (Incoming.Frame m) may = absurd (cc)
    by (Incoming.Gone number tick) may = absurd (cc)
    by (Incoming.Mark tick) may = absurd (cc)

-- the marks after an event
mark-low : (n tick from phase : ℕ) (what : What) (o : Option SentMark) (m : SentMark) → HasCounts what → ((x : SentMark) → o ≡ Some x → phase ≤ 1000) → marked_by n tick what from phase o ≡ Some m → phase ≤ 1000
mark-low n tick from phase (Begin p) o m own before e = before m e
mark-low n tick from phase (Go p) o m own before e = before m e
mark-low n tick from phase (Take a k) o m own before e = before m e
mark-low n tick from phase (Notice p a b k) o m own before e = before m e
mark-low n tick from phase (Mark a k) o m own before e = before m e
mark-low n tick from phase (Ready k) o m own before e =
    by_cases ((n == from) && (k == phase)) (phase ≤ 1000)
    (λ h. let same = equal k phase (right-true (n == from) (k == phase) h) in omega (arith, same, own))
    (λ h. before m (subst (λ b. cond b (Some (record { node = n; phase = k; tick = tick })) o ≡ Some m) h e))

-- the frames of a link after an event: one more at most, of its own node alone
abbrev one_if : Bool → ℕ
one_if true = 1
one_if false = 0

frames-few : (n : ℕ) (f : Option Message) (from to : ℕ) (frames : List Message) → length (added n f from to frames) ≤ length frames + one_if (from == n)
frames-few n None from to frames = omega arith
frames-few n (Some m) from to frames = by (from == n) (to == m.to)
  where
    by : (b c : Bool) → length (cond b (cond c (m ∷ frames) frames) frames) ≤ length frames + one_if b
    by true true = let more : length (m ∷ frames) ≡ suc (length frames) = refl in omega (arith, more)
    by true false = omega arith
    by false c = omega arith

module _ (s : Setup) (setup : IsSetup s) (standing : (cs : List Choice) (w : World) → world_after s cs ≡ Some w → IsTimely w → AreStanding w) where
  module _ (cs : List Choice) (old : World) (c : Choice) (new : World) (before : world_after s cs ≡ Some old) (was : IsTimely old) (next : IsKeptNext s old c new) (spelt : AreSpelt s old) (timely : IsTimely new) where
    open event s old c new next use {g, n, step, after}

    own : IsNodeOf g n
    own = let is = next.kept.nodes c.node next.is.node in node-with g (old.nodes c.node) n is refl refl is.side is.home is.within.side

    counted : IsCounted (old.nodes c.node)
    counted = nodes-counted s setup cs old before c.node

    tick-is : step.node.tick ≡ max (old.nodes c.node).tick (tick_of next.is.incoming) + 1
    tick-is = next-tick s old c new next.is

    tick-low : step.node.tick ≤ 2 ^ 40
    tick-low =
        let e = ap (λ (x : NodeState). x.tick) (next-node s old c new next.is c.node ∙ put-same old.nodes c.node c.node step.node refl) in
        let f = timely c.node in omega (arith, e, f)

    -- the numbers of what is sent
    received : IsLowFrame (2 ^ 40) next.is.incoming
    received = incoming-is (IsLowFrame (2 ^ 40)) tt (λ number tick. tt) (λ tick. tt) (λ m. m.number ≤ 2 ^ 40) (λ m low. low) old c.node (λ from. spelt.numbers from c.node) c.what next.is.incoming next.is.comes

    step-low : AreLow (2 ^ 40) step
    step-low =
        did-low g n own (given-procs g (setup-gives s setup c.node next.is.node).programs) (2 ^ 40)
        (λ to. let many = counted.emitted to in let t = tick-is in let low = tick-low in omega (arith, many, t, low))
        (λ p proc. let many = counted.last p proc in let t = tick-is in let low = tick-low in omega (arith, many, t, low))
        c.what next.is.incoming step (event-incoming s old c new next) received (event-did s old c new next)

    -- what it names
    on-link : (from to index : ℕ) (m : Message) → numbered index (old.frames from to) ≡ Some m → index ≤ 2 ^ 40
    on-link from to index m found =
        let within = numbered-within index (old.frames from to) m found in
        let many = spelt.links from to in
        let low = was from in omega (arith, within, many, low)

    what-counted : (what : What) (incoming : Incoming) → incoming_of old c.node what ≡ Some incoming → enabled g (old.nodes c.node) what incoming ≡ true → HasCounts what
    what-counted (Begin p) incoming comes may = tt
    what-counted (Go p) incoming comes may = tt
    what-counted (Take from index) incoming comes may = let there = taken-there (numbered index (old.frames from c.node)) incoming comes in on-link from c.node index there.0 there.1
    what-counted (Notice p from to index) incoming comes may =
        let there = told-there (record { node = c.node; number = p }) (numbered index (old.frames from to)) incoming comes in on-link from to index there.0 there.1
    what-counted (Ready phase) incoming comes may = let low = ready-phase g (old.nodes c.node) phase incoming may in let few = setup.phases_high in omega (arith, low, few)
    what-counted (Mark from phase) incoming comes may = let there = mark-there (mark_of old from phase) incoming comes in spelt.marks from phase there.0 there.1

    what-low : HasCounts c.what
    what-low = what-counted c.what next.is.incoming next.is.comes (step_of-is g (old.nodes c.node) c.what next.is.incoming c.dropped step next.is.steps).enabled

    -- what is kept
    links-later : (from to : ℕ) → length (new.frames from to) ≤ (new.nodes from).tick
    links-later from to =
        let few = frames-few c.node step.frame from to (old.frames from to) in
        let is = ap (λ (w : World). length (w.frames from to)) next.is.world ∙ ap (λ (xs : List Message). length xs) (frames-added old c.node step.frame from to) in
        let many = spelt.links from to in
        elim (cases_eq from c.node) [
          | inl here ↦
              (let one = ap one_if (own-link from here) in
              let e = ap (λ (x : NodeState). x.tick) (next-node s old c new next.is from ∙ put-same old.nodes c.node from step.node here) in
              let f = ap (λ a. (old.nodes a).tick) here in
              let t = tick-is in omega (arith, few, is, many, one, e, f, t))
          | inr away ↦
              (let none = ap one_if (ne_eqb from c.node away) in
              let e = ap (λ (x : NodeState). x.tick) (next-node s old c new next.is from ∙ put-other old.nodes c.node from step.node away) in omega (arith, few, is, many, none, e))
        ]
      where
        own-link : (a : ℕ) → a ≡ c.node → (a == c.node) ≡ true
        own-link a same = grind (arith, nat_tests, same)

    numbers-after : (f : Option Message) → IfSome f (λ m. m.number ≤ 2 ^ 40) → (from to : ℕ) → EachOf (λ (m : Message). m.number ≤ 2 ^ 40) (frames_after old c.node f from to)
    numbers-after None low = spelt.numbers
    numbers-after (Some m) low = frames-one old c.node m (λ from to x. x.number ≤ 2 ^ 40) low spelt.numbers

    spelt-later : AreSpelt s new
    spelt-later = record {
      links = links-later;
      numbers = λ from to. subst (λ (w : World). EachOf (λ (m : Message). m.number ≤ 2 ^ 40) (w.frames from to)) (sym next.is.world) (numbers-after step.frame step-low.frame from to);
      marks = λ from phase m e.
          mark-low c.node step.node.tick from phase c.what (mark_of old from phase) m what-low (spelt.marks from phase)
          (sym (marks-marked old (place_at c step) c.what step from phase) ∙ ap (λ (w : World). mark_of w from phase) (sym next.is.world) ∙ e);
      pages = named-later s setup cs old before was c new next (standing cs old before was) spelt.pages;
      events = subst (λ (w : World). EachOf IsSpelt w.done) (sym next.is.world) (
        record { tick = tick-low; what = what-low; dropped = event-drops s setup cs old before was c new next (standing cs old before was) spelt.pages; sent = step-low.sent },
        spelt.events,
      );
    }

  pub runs-spelt : (cs : List Choice) (w : World) → world_after s cs ≡ Some w → IsTimely w → AreSpelt s w
  runs-spelt cs w e timely =
      every-kept-run s setup (setup-procs s setup) (λ w. IsTimely w → AreSpelt s w)
      (λ none. record { links = λ from to. omega arith; numbers = λ from to. tt; marks = λ from phase m is. absurd (cc); pages = λ n node. tt; events = tt })
      (λ cs old c new before was next spelt timely. spelt-later cs old c new before was next (spelt was) timely) cs w e timely timely
