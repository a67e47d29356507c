-- No tick is above the number of events; and as many frames were lost or are late as were told, at least.
use Rattle.std.proofs.Common.{◌≡◌, ℕ, ◌+◌, ◌≤◌, suc, Bool, true, false, cond, List, length, Option, Some, None, IfSome, inl, inr, refl, sym, ap, subst, ◌∙◌, arith}
use Rattle.std.specs.Prelude.{◌==◌, ◌&&◌}
use Rattle.std.proofs.lemmas.Bool.{cases_eq}
use Rattle.std.proofs.lemmas.Option.{same_Some}
use Rattle.uid_names.specs.Names.{ProcName, same_proc}
use Rattle.dom_history.specs.declared.event.What.{What}
use Rattle.dom_history.specs.declared.event.What.TheVariants.{Begin, Go, Take, Notice, Ready, Mark}
use Rattle.dom_history.specs.declared.event.Sent.{Sent}
use Rattle.ring_messages.specs.Frames.{Message, caller_of}
use Rattle.node_runs.specs.Setups.{Setup, given}
use Rattle.node_runs.specs.NodeStates.{NodeState}
use Rattle.node_runs.specs.Incomings.{Incoming, tick_of}
use Rattle.node_runs.specs.Runs.{World, SentMark, Choice, numbered, taken, told_if, told_of, marked, mark_of, incoming_of, frames_after, world_after}
use Rattle.node_runs.specs.CallsKeep.{EachOf}
use Rattle.node_runs.proofs.Calls.{put-same, put-other, frames-one}
use Rattle.node_runs.proofs.Receiving.{EachOf-more, numbered-each}
use Rattle.node_runs.proofs.Worlds.{IsNext, place_at, every-run}
use Rattle.world_runs.specs.Faults.{AreCounted}
use Rattle.world_runs.proofs.Sent.{IsSent, step-sent}
use Rattle.world_runs.proofs.Alike.{marked_by, marks-marked}
use Rattle.world_runs.proofs.TimelyRuns.{next-node, next-tick}

-- the tick of what is received is not above those of frames and marks
module _ (most : ℕ) (w : World) (frames : (from to : ℕ) → EachOf (λ m. m.tick ≤ most) (w.frames from to)) (marks : (from phase : ℕ) (m : SentMark) → mark_of w from phase ≡ Some m → m.tick ≤ most) where
  tick-low : (i j : Incoming) → Some i ≡ Some j → tick_of i ≤ most → tick_of j ≤ most
  tick-low i j e low = subst (λ (x : Incoming). tick_of x ≤ most) (same_Some i j e) low

  nothing-low : (j : Incoming) → Some Incoming.Nothing ≡ Some j → tick_of j ≤ most
  nothing-low j e = tick-low Incoming.Nothing j e (omega arith)

  taken-low : (o : Option Message) (j : Incoming) → IfSome o (λ m. m.tick ≤ most) → taken o ≡ Some j → tick_of j ≤ most
  taken-low None j low e = absurd (cc)
  taken-low (Some m) j low e = tick-low (Incoming.Frame m) j e low

  told-low : (b : Bool) (m : Message) (j : Incoming) → m.tick ≤ most → told_if b m ≡ Some j → tick_of j ≤ most
  told-low true m j low e = tick-low (Incoming.Gone m.number m.tick) j e low
  told-low false m j low e = absurd (cc)

  notice-low : (p : ProcName) (o : Option Message) (j : Incoming) → IfSome o (λ m. m.tick ≤ most) → told_of p o ≡ Some j → tick_of j ≤ most
  notice-low p None j low e = absurd (cc)
  notice-low p (Some m) j low e = told-low (same_proc (caller_of m) p) m j low e

  mark-low : (o : Option SentMark) (j : Incoming) → ((m : SentMark) → o ≡ Some m → m.tick ≤ most) → marked o ≡ Some j → tick_of j ≤ most
  mark-low None j low e = absurd (cc)
  mark-low (Some m) j low e = tick-low (Incoming.Mark m.tick) j e (low m refl)

  pub incoming-low : (n : ℕ) (what : What) (j : Incoming) → incoming_of w n what ≡ Some j → tick_of j ≤ most
  incoming-low n (Begin p) j e = nothing-low j e
  incoming-low n (Go p) j e = nothing-low j e
  incoming-low n (Take from k) j e = taken-low (numbered k (w.frames from n)) j (numbered-each (λ m. m.tick ≤ most) k (w.frames from n) (frames from n)) e
  incoming-low n (Notice p from to k) j e = notice-low (record { node = n; number = p }) (numbered k (w.frames from to)) j (numbered-each (λ m. m.tick ≤ most) k (w.frames from to) (frames from to)) e
  incoming-low n (Ready phase) j e = nothing-low j e
  incoming-low n (Mark from phase) j e = mark-low (mark_of w from phase) j (marks from phase) e

-- no tick is above the number of events
pub record AreLow (w : World) : Type 0 where
  pub nodes : (n : ℕ) → (w.nodes n).tick ≤ length w.done
  pub frames : (from to : ℕ) → EachOf (λ m. m.tick ≤ length w.done) (w.frames from to)
  pub marks : (from phase : ℕ) (m : SentMark) → mark_of w from phase ≡ Some m → m.tick ≤ length w.done
  pub events : AreCounted w.done

mark-after : (n t from phase most : ℕ) (what : What) (o : Option SentMark) (m : SentMark) → t ≤ most → ((x : SentMark) → o ≡ Some x → x.tick ≤ most) → marked_by n t what from phase o ≡ Some m → m.tick ≤ most
mark-after n t from phase most (Begin p) o m low before e = before m e
mark-after n t from phase most (Go p) o m low before e = before m e
mark-after n t from phase most (Take a k) o m low before e = before m e
mark-after n t from phase most (Notice p a b k) o m low before e = before m e
mark-after n t from phase most (Mark a k) o m low before e = before m e
mark-after n t from phase most (Ready k) o m low before e = by_test ((n == from) && (k == phase)) e
  where
    by_test : (b : Bool) → cond b (Some (record { node = n; phase = k; tick = t })) o ≡ Some m → m.tick ≤ most
    by_test true e = subst (λ (x : SentMark). x.tick ≤ most) (same_Some (record { node = n; phase = k; tick = t }) m e) low
    by_test false e = before m e

module _ (s : Setup) (old : World) (c : Choice) (new : World) (is : IsNext s old c new) (before : AreLow old) where
  now : is.step.node.tick ≤ length old.done + 1
  now =
      let tick = next-tick s old c new is in
      let node = before.nodes c.node in
      let came = incoming-low (length old.done) old before.frames before.marks c.node c.what is.incoming is.comes in
      omega (arith, tick, node, came)

  long : length new.done ≡ length old.done + 1
  long = let e : length new.done ≡ suc (length old.done) = ap (λ (w : World). length w.done) is.world in omega (arith, e)

  nodes-low : (n : ℕ) → (new.nodes n).tick ≤ length new.done
  nodes-low n = elim (cases_eq n c.node) [
    | inl same ↦ (let e = ap (λ (x : NodeState). x.tick) (next-node s old c new is n ∙ put-same old.nodes c.node n is.step.node same) in let a = now in let l = long in omega (arith, e, a, l))
    | inr differs ↦
        (let e = ap (λ (x : NodeState). x.tick) (next-node s old c new is n ∙ put-other old.nodes c.node n is.step.node differs) in
        let a = before.nodes n in let l = long in omega (arith, e, a, l))
  ]

  frame-low : (o : Option Message) (x : Option Sent) → IsSent is.step.node.tick o x → (from to : ℕ) → EachOf (λ m. m.tick ≤ length old.done + 1) (frames_after old c.node o from to)
  frame-low None x sent from to = EachOf-more (λ m. m.tick ≤ length old.done) (λ m. m.tick ≤ length old.done + 1) (old.frames from to) (λ m low. omega (arith, low)) (before.frames from to)
  frame-low (Some m) None sent from to = absurd sent
  frame-low (Some m) (Some x) sent from to =
      frames-one old c.node m (λ a b y. y.tick ≤ length old.done + 1) (let e = sent.0 in let a = now in omega (arith, e, a))
      (λ a b. EachOf-more (λ y. y.tick ≤ length old.done) (λ y. y.tick ≤ length old.done + 1) (old.frames a b) (λ y low. omega (arith, low)) (before.frames a b)) from to

  later-low : AreLow new
  later-low = record {
    nodes = nodes-low;
    frames = λ from to.
        subst (λ k. EachOf (λ m. m.tick ≤ k) (new.frames from to)) (sym long)
        (subst (λ (w : World). EachOf (λ m. m.tick ≤ length old.done + 1) (w.frames from to)) (sym is.world)
        (frame-low is.step.frame is.step.effects.sent (step-sent (given s c.node) (old.nodes c.node) c.what is.incoming c.dropped is.step is.steps) from to));
    marks = λ from phase m e.
        let low = mark-after c.node is.step.node.tick from phase (length old.done + 1) c.what (mark_of old from phase) m now (λ x f. let a = before.marks from phase x f in omega (arith, a))
        (sym (marks-marked old (place_at c is.step) c.what is.step from phase) ∙ ap (λ (w : World). mark_of w from phase) (sym is.world) ∙ e) in
        let l = long in omega (arith, low, l);
    events = subst (λ (w : World). AreCounted w.done) (sym is.world) (now, before.events);
  }

pub runs-low : (s : Setup) (cs : List Choice) (w : World) → world_after s cs ≡ Some w → AreLow w
runs-low s = every-run s AreLow (record { nodes = λ n. omega arith; frames = λ from to. tt; marks = λ from phase m e. absurd (cc); events = tt }) (λ old c new is before. later-low s old c new is before)
