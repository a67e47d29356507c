-- Each step did one of the things that an event does.
use Rattle.std.proofs.Common.{◌≡◌, ℕ, ◌+◌, Bool, true, false, List, Option, Some, None, refl, sym, ap, subst, ◌∙◌}
use Rattle.std.specs.Prelude.{◌==◌, ◌&&◌, not, is_none}
use Rattle.std.proofs.lemmas.Bool.{not-true}
use Rattle.std.proofs.lemmas.Option.{same_Some}
use Rattle.uid_names.specs.Names.{ObjectName}
use Rattle.uid_names.proofs.Passed.{left-true, right-true, equal}
use Rattle.uid_names.proofs.Somes.{none-is, map-some}
use Rattle.dom_history.specs.declared.op.Want.{Want}
use Rattle.dom_history.specs.declared.op.Want.TheVariants.{Do, Phase, Done}
use Rattle.dom_history.specs.declared.event.What.{What}
use Rattle.dom_history.specs.declared.event.What.TheVariants.{Begin, Go, Take, Notice, Ready, Mark}
use Rattle.call_once.specs.Notices.{noticed}
use Rattle.call_once.specs.Calls.{looked, last_of}
use Rattle.call_once.specs.declared.asking.Noticed.{Noticed}
use Rattle.call_once.specs.declared.asking.Noticed.TheVariants.{Resend, GiveUp}
use Rattle.ring_messages.specs.Bodies.{Ask, Answer, ask_of}
use Rattle.ring_messages.specs.Frames.{Message, caller_of}
use Rattle.page_server.specs.Serving.{serve_of}
use Rattle.fault_handler.specs.Desks.{is_in_transit_there}
use Rattle.node_runs.specs.Setups.{Given}
use Rattle.node_runs.specs.NodeStates.{Asked, Await, BegunOp, OpenOp, NodeState, proc_of, is_ended}
use Rattle.node_runs.specs.Operations.{gone_on, Said, said_of, failed}
use Rattle.node_runs.specs.Incomings.{Incoming, has_program, may_happen, may_go, has_come, may_notice, is_call}
use Rattle.node_runs.specs.Outcomes.{Stepped, Stage, moved}
use Rattle.node_runs.specs.Doings.{Doing, begins, goes_on, replies, hears_said, hears_if, hears_at, hears, takes, gives_up, notices_as, notices_at, notices, noticed_call, event_of, ticked}
use Rattle.node_runs.specs.SentFrames.{IsOfWire}
use Rattle.node_runs.specs.Steps.{step_of}
use Rattle.node_runs.specs.Dones.{Did, asking, paused, finished, began, resumed, served, passed_over, heard, ignored, resent, gave_up, got_ready, marked}
use Rattle.node_runs.proofs.Stepping.{Leaves, step_of-is}

module _ (g : Given) (n : NodeState) (s : Stepped) where
  -- what is left is that of the event that it is
  this : (event same : Doing) → Some event ≡ Some same → Leaves g n same s → Leaves g n event s
  this event same e = subst (λ x. Leaves g n x s) (sym (same_Some event same e))

  begins-did : (p : ℕ) (w : Want) → has_program g p ≡ true → (proc_of n p).doing ≡ None → g.asks p (proc_of n p).heard ≡ w → Leaves g n (begins g n p w) s → Did g n (Begin p) Incoming.Nothing s
  begins-did p (Do op) has none is (to, may, left) = subst (Did g n (Begin p) Incoming.Nothing) (sym left) (began p op to has none is may)
  begins-did p Phase has none is left = subst (Did g n (Begin p) Incoming.Nothing) (sym left) (paused p has none is)
  begins-did p Done has none is left = subst (Did g n (Begin p) Incoming.Nothing) (sym left) (finished p has none is)

  goes-at : (p : ℕ) (o : BegunOp) (a : Await) (event : Doing) → has_program g p ≡ true → (proc_of n p).doing ≡ Some (record { began = o; awaits = a }) → has_come n.desk a ≡ true
      → goes_on n p (Some (record { began = o; awaits = a })) ≡ Some event → Leaves g n event s → Did g n (Go p) Incoming.Nothing s
  goes-at p o (Await.Answer c) event has is come e left = absurd (cc)
  goes-at p o (Await.Page u k) event has is come e left =
      let found = map-some (Doing.Moves p o Stage.Resumes) (gone_on n.desk p o.op) event e in
      let at : Leaves g n (Doing.Moves p o Stage.Resumes found.0) s = subst (λ x. Leaves g n x s) found.2 left in
      subst (Did g n (Go p) Incoming.Nothing) (sym at.2) (resumed p o u k found.0 at.0 has is (not-true (is_in_transit_there n.desk.moving u k) come) found.1 at.1)

  goes-did : (p : ℕ) (o : Option OpenOp) (event : Doing) → has_program g p ≡ true → (proc_of n p).doing ≡ o → may_go n.desk o ≡ true → goes_on n p o ≡ Some event → Leaves g n event s → Did g n (Go p) Incoming.Nothing s
  goes-did p None event has is come e left = absurd (cc)
  goes-did p (Some o) event has is come e left = goes-at p o.began o.awaits event has is come e left

  module _ (from index : ℕ) (m : Message) (sender : m.from ≡ from) (receiver : m.to ≡ g.number) where
    serves-did : (ask : Ask) → ask_of m.body ≡ Some ask → (a : Option Answer) → (serve_of n.side (caller_of m) m.number ask).answer ≡ a
        → s ≡ replies (record n { side = (serve_of n.side (caller_of m) m.number ask).side }) m ask (looked m.number (last_of (caller_of m) n.side.served)) a
        → Did g n (Take from index) (Incoming.Frame m) s
    serves-did ask asks None is left = subst (Did g n (Take from index) (Incoming.Frame m)) (sym left) (passed_over from index m ask sender receiver asks is)
    serves-did ask asks (Some answer) is left = subst (Did g n (Take from index) (Incoming.Frame m)) (sym left) (served from index m ask answer sender receiver asks is)

    hears_said-did : (o : BegunOp) (c : Asked) (said : Option Said) → ask_of m.body ≡ None → (proc_of n m.proc).doing ≡ asking o c → (m.number == c.waiting.number) ≡ true → said_of n.desk m.proc o.op m.body ≡ said
        → Leaves g n (hears_said n m o said) s → Did g n (Take from index) (Incoming.Frame m) s
    hears_said-did o c None asks is same fits left = subst (Did g n (Take from index) (Incoming.Frame m)) (sym left) (ignored from index m sender receiver asks)
    hears_said-did o c (Some said) asks is same fits (to, may, left) = subst (Did g n (Take from index) (Incoming.Frame m)) (sym left) (heard from index m o c said to sender receiver asks is same fits may)

    hears_if-did : (b : Bool) (o : BegunOp) (c : Asked) → ask_of m.body ≡ None → (proc_of n m.proc).doing ≡ asking o c → (m.number == c.waiting.number) ≡ b → Leaves g n (hears_if b n m o) s → Did g n (Take from index) (Incoming.Frame m) s
    hears_if-did false o c asks is same left = subst (Did g n (Take from index) (Incoming.Frame m)) (sym left) (ignored from index m sender receiver asks)
    hears_if-did true o c asks is same left = hears_said-did o c (said_of n.desk m.proc o.op m.body) asks is same refl left

    hears_at-did : (o : BegunOp) (a : Await) → ask_of m.body ≡ None → (proc_of n m.proc).doing ≡ Some (record { began = o; awaits = a }) → Leaves g n (hears_at n m o a) s → Did g n (Take from index) (Incoming.Frame m) s
    hears_at-did o (Await.Answer c) asks is left = hears_if-did (m.number == c.waiting.number) o c asks is refl left
    hears_at-did o (Await.Page u k) asks is left = subst (Did g n (Take from index) (Incoming.Frame m)) (sym left) (ignored from index m sender receiver asks)

    hears-did : (o : Option OpenOp) → ask_of m.body ≡ None → (proc_of n m.proc).doing ≡ o → Leaves g n (hears n m o) s → Did g n (Take from index) (Incoming.Frame m) s
    hears-did None asks is left = subst (Did g n (Take from index) (Incoming.Frame m)) (sym left) (ignored from index m sender receiver asks)
    hears-did (Some o) asks is left = hears_at-did o.began o.awaits asks is left

    takes-did : (ask : Option Ask) → ask_of m.body ≡ ask → Leaves g n (takes n m ask) s → Did g n (Take from index) (Incoming.Frame m) s
    takes-did (Some ask) asks left = serves-did ask asks (serve_of n.side (caller_of m) m.number ask).answer refl left
    takes-did None asks left = hears-did (proc_of n m.proc).doing asks refl left

  module _ (p from to index number tick : ℕ) (has : has_program g p ≡ true) where
    notices_as-did : (o : BegunOp) (c : Asked) (answer : Noticed) (event : Doing) → (proc_of n p).doing ≡ asking o c → (number == c.waiting.number) ≡ true → noticed (c.waiting.notices + 1) ≡ answer
        → notices_as g n p o (noticed_call c) answer ≡ Some event → Leaves g n event s → Did g n (Notice p from to index) (Incoming.Gone number tick) s
    notices_as-did o c Resend event is same answer e left =
        subst (Did g n (Notice p from to index) (Incoming.Gone number tick)) (sym (this _ event e left)) (resent p from to index number tick o c has is same answer)
    notices_as-did o c GiveUp event is same answer e left =
        let found = map-some (gives_up n p o c.waiting.number) (failed n.desk p o.op) event e in
        let at : Leaves g n (gives_up n p o c.waiting.number found.0) s = subst (λ x. Leaves g n x s) found.2 left in
        subst (Did g n (Notice p from to index) (Incoming.Gone number tick)) (sym (at.2 ∙ ap (moved g n p o (Stage.Settles c.waiting.number)) at.1)) (gave_up p from to index number tick o c found.0 has is same answer found.1)

    notices_at-did : (o : BegunOp) (a : Await) (event : Doing) → (proc_of n p).doing ≡ Some (record { began = o; awaits = a }) → is_call number a ≡ true → notices_at g n p o a ≡ Some event → Leaves g n event s
        → Did g n (Notice p from to index) (Incoming.Gone number tick) s
    notices_at-did o (Await.Answer c) event is same e left = notices_as-did o c (noticed (c.waiting.notices + 1)) event is same refl e left
    notices_at-did o (Await.Page u k) event is same e left = absurd (cc)

    notices-did : (o : Option OpenOp) (event : Doing) → (proc_of n p).doing ≡ o → may_notice number o ≡ true → notices g n p o ≡ Some event → Leaves g n event s → Did g n (Notice p from to index) (Incoming.Gone number tick) s
    notices-did None event is same e left = absurd (cc)
    notices-did (Some o) event is same e left = notices_at-did o.began o.awaits event is same e left

  pub event_of-did : (what : What) (incoming : Incoming) (event : Doing) → may_happen g n what incoming ≡ true → event_of g n what incoming ≡ Some event → Leaves g n event s → Did g n what incoming s
  event_of-did (Begin p) Incoming.Nothing event may e left =
      begins-did p (g.asks p (proc_of n p).heard) (left-true (has_program g p) _ may) (none-is (proc_of n p).doing (left-true (is_none (proc_of n p).doing) _ (right-true _ _ may))) refl (this (begins g n p (g.asks p (proc_of n p).heard)) event e left)
  event_of-did (Begin p) (Incoming.Frame m) event may e left = absurd (cc)
  event_of-did (Begin p) (Incoming.Gone number tick) event may e left = absurd (cc)
  event_of-did (Begin p) (Incoming.Mark tick) event may e left = absurd (cc)
  event_of-did (Go p) Incoming.Nothing event may e left =
      goes-did p (proc_of n p).doing event (left-true (has_program g p) (may_go n.desk (proc_of n p).doing) may) refl (right-true (has_program g p) (may_go n.desk (proc_of n p).doing) may) e left
  event_of-did (Go p) (Incoming.Frame m) event may e left = absurd (cc)
  event_of-did (Go p) (Incoming.Gone number tick) event may e left = absurd (cc)
  event_of-did (Go p) (Incoming.Mark tick) event may e left = absurd (cc)
  event_of-did (Take from index) (Incoming.Frame m) event may e left =
      let link = left-true ((m.from == from) && (m.to == g.number)) (m.version == g.wire) may in
      takes-did from index m (equal m.from from (left-true (m.from == from) (m.to == g.number) link)) (equal m.to g.number (right-true (m.from == from) (m.to == g.number) link)) (ask_of m.body) refl (this (takes n m (ask_of m.body)) event e left)
  event_of-did (Take from index) Incoming.Nothing event may e left = absurd (cc)
  event_of-did (Take from index) (Incoming.Gone number tick) event may e left = absurd (cc)
  event_of-did (Take from index) (Incoming.Mark tick) event may e left = absurd (cc)
  event_of-did (Notice p from to index) (Incoming.Gone number tick) event may e left =
      notices-did p from to index number tick (left-true (has_program g p) (may_notice number (proc_of n p).doing) may) (proc_of n p).doing event refl (right-true (has_program g p) (may_notice number (proc_of n p).doing) may) e left
  event_of-did (Notice p from to index) Incoming.Nothing event may e left = absurd (cc)
  event_of-did (Notice p from to index) (Incoming.Frame m) event may e left = absurd (cc)
  event_of-did (Notice p from to index) (Incoming.Mark tick) event may e left = absurd (cc)
  event_of-did (Ready phase) Incoming.Nothing event may e left = subst (Did g n (Ready phase) Incoming.Nothing) (sym (this _ event e left)) (got_ready phase may)
  event_of-did (Ready phase) (Incoming.Frame m) event may e left = absurd (cc)
  event_of-did (Ready phase) (Incoming.Gone number tick) event may e left = absurd (cc)
  event_of-did (Ready phase) (Incoming.Mark tick) event may e left = absurd (cc)
  event_of-did (Mark from phase) (Incoming.Mark tick) event may e left = subst (Did g n (Mark from phase) (Incoming.Mark tick)) (sym (this _ event e left)) (marked from phase tick may)
  event_of-did (Mark from phase) Incoming.Nothing event may e left = absurd (cc)
  event_of-did (Mark from phase) (Incoming.Frame m) event may e left = absurd (cc)
  event_of-did (Mark from phase) (Incoming.Gone number t) event may e left = absurd (cc)

pub step_of-did : (g : Given) (n : NodeState) (what : What) (incoming : Incoming) (dropped : List (ObjectName × ℕ)) (s : Stepped) → step_of g n what incoming dropped ≡ Some s → Did g (ticked n incoming) what incoming s
step_of-did g n what incoming dropped s e =
    let is = step_of-is g n what incoming dropped s e in
    event_of-did g (ticked n incoming) s what incoming is.event (right-true (not (is_ended g n)) (may_happen g n what incoming) is.enabled) is.comes is.leaves

-- a frame that may be taken is of the node's version
version-of : (g : Given) (n : NodeState) (what : What) (incoming : Incoming) → may_happen g n what incoming ≡ true → IsOfWire g.wire incoming
version-of g n what Incoming.Nothing may = tt
version-of g n what (Incoming.Gone number tick) may = tt
version-of g n what (Incoming.Mark tick) may = tt
version-of g n (Take from index) (Incoming.Frame m) may = equal m.version g.wire (right-true ((m.from == from) && (m.to == g.number)) (m.version == g.wire) may)
version-of g n (Begin p) (Incoming.Frame m) may = absurd (cc)
version-of g n (Go p) (Incoming.Frame m) may = absurd (cc)
version-of g n (Notice p from to index) (Incoming.Frame m) may = absurd (cc)
version-of g n (Ready phase) (Incoming.Frame m) may = absurd (cc)
version-of g n (Mark from phase) (Incoming.Frame m) may = absurd (cc)

pub step_of-version : (g : Given) (n : NodeState) (what : What) (incoming : Incoming) (dropped : List (ObjectName × ℕ)) (s : Stepped) → step_of g n what incoming dropped ≡ Some s → IsOfWire g.wire incoming
step_of-version g n what incoming dropped s e = version-of g n what incoming (right-true (not (is_ended g n)) (may_happen g n what incoming) (step_of-is g n what incoming dropped s e).enabled)
