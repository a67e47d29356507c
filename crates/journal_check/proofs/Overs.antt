-- When the call of a frame is over at the node to which it was sent.
use Rattle.std.proofs.Common.{◌≡◌, ℕ, ◌≤◌, Bool, true, false, Option, Some, None, refl, sym, ap, subst, ◌∙◌, arith}
use Rattle.std.specs.Prelude.{◌==◌, ◌&&◌, not, nat_le, nat_lt, is_some, if◌then◌else◌}
use Rattle.std.proofs.lemmas.Bool.{and_from, not-true}
use Rattle.std.proofs.lemmas.Bool.Decides.{nat_tests}
use Rattle.std.proofs.lemmas.Option.{same_Some}
use Rattle.uid_names.specs.Names.{ProcName, same_proc}
use Rattle.uid_names.proofs.ListLemmas.{by_cases}
use Rattle.uid_names.proofs.Passed.{equal, left-true, right-true}
use Rattle.dom_history.specs.declared.event.What.{What}
use Rattle.dom_history.specs.declared.op.Reply.{Reply}
use Rattle.dom_history.specs.declared.op.Want.{Want}
use Rattle.call_once.specs.declared.served.Looked.{Looked}
use Rattle.call_once.specs.declared.served.Looked.TheVariants.{Fresh, Again, Old}
use Rattle.call_once.specs.Calls.{Call, call_of, last_of, looked, number_in, with_call}
use Rattle.call_once.proofs.KeptCalls.{call_of-with_call}
use Rattle.ring_messages.specs.Bodies.{Ask, Answer, ask_of, is_request}
use Rattle.ring_messages.specs.Frames.{Message, caller_of}
use Rattle.ring_messages.proofs.Asking.{asked-of, request-is}
use Rattle.page_server.specs.Decisions.{decide}
use Rattle.page_server.specs.Serving.{HomeSide, serve_as, serve_of}
use Rattle.node_runs.specs.Setups.{Given}
use Rattle.node_runs.specs.NodeStates.{NodeState, proc_of, is_ended}
use Rattle.node_runs.specs.Incomings.{Incoming, has_program, may_notice}
use Rattle.node_runs.specs.Outcomes.{Stepped}
use Rattle.node_runs.specs.Dones.{Did, paused, finished, began, resumed, served, passed_over, heard, ignored, resent, gave_up, got_ready, marked}
use Rattle.node_core.specs.Nodes.{Noted, Stands, given_of, state_of, program_of}
use Rattle.node_core.proofs.FirstPrograms.{has-program}
use Rattle.run_journals.specs.OverFrames.{is_over, is_over_as}
use Rattle.journal_check.specs.Kept.{is_served, is_heard}

-- a body that is no request asks nothing
pub asks-none : (m : Message) → is_request m.body ≡ false → ask_of m.body ≡ None
asks-none m answers = by (ask_of m.body) refl
  where
    by : (o : Option Ask) → ask_of m.body ≡ o → ask_of m.body ≡ None
    by None is = is
    by (Some ask) is = absurd (let asks = request-is m.body ask is in let both : true ≡ false = sym asks ∙ answers in cc)

-- an answer whose call is open no more
pub heard-over : {P : Type 0} (wants : P → Want) (becomes : P → Option Reply → P) (made : ℕ → Option P) (g : Given) (x : Noted P) (n : NodeState) → Stands wants becomes made g x n
    → (m : Message) (index : ℕ) → m.number ≤ (proc_of n m.proc).last → is_heard x index m ≡ true → is_over n m ≡ true
heard-over wants becomes made g x n stands m index low is =
    let answers : is_request m.body ≡ false = not-true (is_request m.body) (left-true (not (is_request m.body)) _ is) in
    let rest = right-true (not (is_request m.body)) _ is in
    let goes-on = not-true (is_ended (given_of x) (state_of x)) (left-true (not (is_ended (given_of x) (state_of x))) _ rest) in
    let tests = right-true (not (is_ended (given_of x) (state_of x))) _ rest in
    let there = left-true (is_some (program_of x m.proc)) _ tests in
    let not_so = not-true (not x.spent && (not (is_ended (given_of x) (state_of x)) && (has_program (given_of x) m.proc && may_notice m.number (proc_of (state_of x) m.proc).doing))) (right-true (is_some (program_of x m.proc)) _ tests) in
    let program : has_program (given_of x) m.proc ≡ true = has-program x.inner.programs m.proc ∙ there in
    let shut : may_notice m.number (proc_of (state_of x) m.proc).doing ≡ false =
    last (x.spent) (is_ended (given_of x) (state_of x)) (has_program (given_of x) m.proc) (may_notice m.number (proc_of (state_of x) m.proc).doing) stands.whole goes-on program not_so in
    let here : may_notice m.number (proc_of n m.proc).doing ≡ false = sym (ap (may_notice m.number) (stands.alike.procs m.proc).doing) ∙ shut in
    let number : nat_le m.number (proc_of n m.proc).last ≡ true = grind (arith, nat_tests, low) in
    ap (is_over_as n m) (asks-none m answers) ∙ and_from (nat_le m.number (proc_of n m.proc).last) (not (may_notice m.number (proc_of n m.proc).doing)) number (ap not here)
  where
    last : (a b c d : Bool) → a ≡ false → b ≡ false → c ≡ true → (not a && (not b && (c && d))) ≡ false → d ≡ false
    last true b c d first second third all = absurd (cc)
    last false true c d first second third all = absurd (cc)
    last false false false d first second third all = absurd (cc)
    last false false true d first second third all = all

-- a request of a call that its home has decided by now
last-looked : (k last : ℕ) (l : Looked) → looked k last ≡ l → (l ≡ Fresh → ⊥) → nat_le k last ≡ true
last-looked k last l is other = by_cases (nat_lt last k) (nat_le k last ≡ true)
    (λ above. absurd (other (sym is ∙ ap (λ b. if b then Fresh else if k == last then Again else Old) above)))
    (λ low. grind (arith, nat_tests, low))

pub served-last : (side : HomeSide) (p : ProcName) (number : ℕ) (ask : Ask) → nat_le number (last_of p (serve_of side p number ask).side.served) ≡ true
served-last side p number ask = by (looked number (last_of p side.served)) refl
  where
    by : (l : Looked) → looked number (last_of p side.served) ≡ l → nat_le number (last_of p (serve_as l side p number ask).side.served) ≡ true
    by Fresh is =
        let call : Call Answer = record { proc = p; number = number; body = (decide side.home side.locks p ask).answer } in
        let own : same_proc p p ≡ true = grind (arith, nat_tests) in
        let found : call_of p (with_call call side.served) ≡ Some call = call_of-with_call call side.served p ∙ ap (λ b. if b then Some call else call_of p side.served) own in
        subst (λ (o : Option (Call Answer)). nat_le number (number_in o) ≡ true) (sym found) (grind (arith, nat_tests))
    by Again is = last-looked number (last_of p side.served) Again is (λ same. absurd (cc))
    by Old is = last-looked number (last_of p side.served) Old is (λ same. absurd (cc))

-- what a home is that took a request
record IsServedAt (g : Given) (n : NodeState) (incoming : Incoming) (s : Stepped) : Type 0 where
  receiver : (m : Message) → incoming ≡ Incoming.Frame m → m.to ≡ g.number
  side : (m : Message) (ask : Ask) → incoming ≡ Incoming.Frame m → ask_of m.body ≡ Some ask → s.node.side ≡ (serve_of n.side (caller_of m) m.number ask).side

frame-same : (k m : Message) → Incoming.Frame k ≡ Incoming.Frame m → k ≡ m
frame-same k m same = cc

did-serve : (g : Given) (n : NodeState) (what : What) (incoming : Incoming) (s : Stepped) → Did g n what incoming s → IsServedAt g n incoming s
did-serve g n what incoming s (paused p has none is) = record { receiver = λ m same. absurd (cc); side = λ m ask same asks. absurd (cc) }
did-serve g n what incoming s (finished p has none is) = record { receiver = λ m same. absurd (cc); side = λ m ask same asks. absurd (cc) }
did-serve g n what incoming s (began p op to has none is may) = record { receiver = λ m same. absurd (cc); side = λ m ask same asks. absurd (cc) }
did-serve g n what incoming s (resumed p o u k accessed to has is come goes may) = record { receiver = λ m same. absurd (cc); side = λ m ask same asks. absurd (cc) }
did-serve g n what incoming s (served from index k own answer sender receiver owns is) = record {
  receiver = λ m same. ap (λ (x : Message). x.to) (sym (frame-same k m same)) ∙ receiver;
  side = λ m ask same asks.
      let one = frame-same k m same in
      let what_is : own ≡ ask = same_Some own ask (sym owns ∙ ap (λ (x : Message). ask_of x.body) one ∙ asks) in
      ap (λ (x : Message). (serve_of n.side (caller_of x) x.number own).side) one ∙ ap (λ (a : Ask). (serve_of n.side (caller_of m) m.number a).side) what_is;
}
did-serve g n what incoming s (passed_over from index k own sender receiver owns is) = record {
  receiver = λ m same. ap (λ (x : Message). x.to) (sym (frame-same k m same)) ∙ receiver;
  side = λ m ask same asks.
      let one = frame-same k m same in
      let what_is : own ≡ ask = same_Some own ask (sym owns ∙ ap (λ (x : Message). ask_of x.body) one ∙ asks) in
      ap (λ (x : Message). (serve_of n.side (caller_of x) x.number own).side) one ∙ ap (λ (a : Ask). (serve_of n.side (caller_of m) m.number a).side) what_is;
}
did-serve g n what incoming s (heard from index k o c said to sender receiver none is same fits may) = record {
  receiver = λ m same. ap (λ (x : Message). x.to) (sym (frame-same k m same)) ∙ receiver;
  side = λ m ask one asks. absurd (let both : Some ask ≡ None = sym asks ∙ ap (λ (x : Message). ask_of x.body) (sym (frame-same k m one)) ∙ none in cc);
}
did-serve g n what incoming s (ignored from index k sender receiver none) = record {
  receiver = λ m same. ap (λ (x : Message). x.to) (sym (frame-same k m same)) ∙ receiver;
  side = λ m ask one asks. absurd (let both : Some ask ≡ None = sym asks ∙ ap (λ (x : Message). ask_of x.body) (sym (frame-same k m one)) ∙ none in cc);
}
did-serve g n what incoming s (resent p from to index number tick o c has is same answer) = record { receiver = λ m same. absurd (cc); side = λ m ask one asks. absurd (cc) }
did-serve g n what incoming s (gave_up p from to index number tick o c into has is same answer fails) = record { receiver = λ m same. absurd (cc); side = λ m ask one asks. absurd (cc) }
did-serve g n what incoming s (got_ready phase may) = record { receiver = λ m same. absurd (cc); side = λ m ask one asks. absurd (cc) }
did-serve g n what incoming s (marked from phase tick may) = record { receiver = λ m same. absurd (cc); side = λ m ask one asks. absurd (cc) }

-- the requests of its process that are not above it are over there
module _ (g : Given) (n : NodeState) (what : What) (m : Message) (s : Stepped) (did : Did g n what (Incoming.Frame m) s) where
  pub taken-here : m.to ≡ g.number
  taken-here = (did-serve g n what (Incoming.Frame m) s did).receiver m refl

  took-last : (ask : Ask) → ask_of m.body ≡ Some ask → nat_le m.number (last_of (caller_of m) s.node.side.served) ≡ true
  took-last ask asks =
      subst (λ (h : HomeSide). nat_le m.number (last_of (caller_of m) h.served) ≡ true) (sym ((did-serve g n what (Incoming.Frame m) s did).side m ask refl asks))
      (served-last n.side (caller_of m) m.number ask)

  pub served-over : is_request m.body ≡ true → (f : Message) → f.from ≡ m.from → is_served m.proc m.number f ≡ true → is_over s.node f ≡ true
  served-over asks f sender is =
      let first = left-true (is_request f.body) ((f.proc == m.proc) && nat_le f.number m.number) is in
      let rest = right-true (is_request f.body) ((f.proc == m.proc) && nat_le f.number m.number) is in
      let proc : f.proc ≡ m.proc = equal f.proc m.proc (left-true (f.proc == m.proc) (nat_le f.number m.number) rest) in
      let low = right-true (f.proc == m.proc) (nat_le f.number m.number) rest in
      let own = found (ask_of m.body) (asked-of m.body asks) in
      let other = found (ask_of f.body) (asked-of f.body first) in
      let caller : caller_of f ≡ caller_of m =
      ap (λ b. let p : ProcName = record { node = if b then f.from else f.to; number = f.proc } in p) first
      ∙ (ap (λ a. let p : ProcName = record { node = a; number = f.proc } in p) sender ∙ ap (λ a. let p : ProcName = record { node = m.from; number = a } in p) proc)
      ∙ sym (ap (λ b. let p : ProcName = record { node = if b then m.from else m.to; number = m.proc } in p) asks) in
      let last = took-last own.0 own.1 in
      let below : nat_le f.number (last_of (caller_of m) s.node.side.served) ≡ true = grind (arith, nat_tests, low, last) in
      ap (is_over_as s.node f) other.1 ∙ ap (λ (p : ProcName). nat_le f.number (last_of p s.node.side.served)) caller ∙ below
    where
      found : (o : Option Ask) → is_some o ≡ true → (ask : Ask) × (o ≡ Some ask)
      found (Some ask) there = (ask, refl)
      found None there = absurd (cc)
