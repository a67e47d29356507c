-- Frames whose call is over.
use Rattle.std.proofs.Common.{◌≡◌, ◌⊎◌, ℕ, Bool, true, false, Option, Some, None, inl, inr, refl, sym, ap, subst, ◌∙◌, arith}
use Rattle.std.specs.Prelude.{◌==◌, ◌&&◌, not, nat_le, nat_lt, if◌then◌else◌}
use Rattle.std.proofs.lemmas.Bool.{and_from, cases_eq, not-true}
use Rattle.std.proofs.lemmas.Bool.Decides.{nat_tests}
use Rattle.uid_names.specs.Names.{ProcName, same_proc}
use Rattle.uid_names.specs.Steps.{◌>>=◌}
use Rattle.uid_names.proofs.ListLemmas.{by_cases}
use Rattle.uid_names.proofs.Orders.{same_proc_is}
use Rattle.uid_names.proofs.Passed.{left-true, right-true}
use Rattle.dom_history.specs.declared.event.What.{What}
use Rattle.dom_history.specs.declared.event.What.TheVariants.{Take}
use Rattle.call_once.specs.declared.served.Looked.{Looked}
use Rattle.call_once.specs.declared.served.Looked.TheVariants.{Fresh, Again, Old}
use Rattle.call_once.specs.Calls.{Call, call_of, body_of, last_of, looked, number_in, with_call}
use Rattle.call_once.proofs.KeptCalls.{call_of-with_call}
use Rattle.ring_messages.specs.Bodies.{Ask, Answer, ask_of}
use Rattle.ring_messages.specs.Frames.{Message, caller_of}
use Rattle.ring_messages.specs.declared.body.Body.{Body}
use Rattle.ring_messages.specs.declared.body.Body.TheVariants as bodies
use Rattle.ring_messages.proofs.Asking.{request-is}
use Rattle.page_server.specs.Decisions.{decide}
use Rattle.page_server.specs.Serving.{HomeSide, serve_as, serve_of}
use Rattle.fault_handler.specs.Invariant.{IsProc}
use Rattle.node_runs.specs.Setups.{Given, IsGiven}
use Rattle.node_runs.specs.NodeStates.{Await, OpenOp, NodeState, ProcState, proc_of}
use Rattle.node_runs.specs.Incomings.{Incoming, may_notice}
use Rattle.node_runs.specs.Outcomes.{Stepped}
use Rattle.node_runs.specs.Doings.{Doing, hears, hears_at, hears_if, replies, serves, serving, takes, ticked}
use Rattle.node_runs.specs.NodesKeep.{IsNodeOf}
use Rattle.node_runs.specs.SentFrames.{IsFrame, IsIncoming}
use Rattle.node_runs.specs.Steps.{Dropped, StepsTo, named_step, stepped_as_named}
use Rattle.node_runs.proofs.CallSteps.{IsUnasking, Stays, CallStep, silent, asked, again, did-calls, frame-proc}
use Rattle.node_runs.proofs.Doing.{step_of-did}
use Rattle.node_runs.proofs.SettingUp.{given-procs}
use Rattle.node_runs.proofs.Sides.{did-side}
use Rattle.run_journals.specs.OverFrames.{is_over, is_over_as, bare, bare_body}

-- a number that is not above the last one is not fresh
fresh-if : (a b : Bool) → (if a then Fresh else if b then Again else Old) ≡ Fresh → a ≡ true
fresh-if true b is = refl
fresh-if false true is = absurd (cc)
fresh-if false false is = absurd (cc)

fresh-above : (k last : ℕ) → looked k last ≡ Fresh → nat_lt last k ≡ true
fresh-above k last is = fresh-if (nat_lt last k) (k == last) is

never-fresh : (k last : ℕ) → nat_le k last ≡ true → looked k last ≡ Fresh → ⊥
never-fresh k last low is = let high = fresh-above k last is in absurd (let both : true ≡ false = grind (arith, nat_tests, low, high) in cc)

-- what a request carries that is not fresh
replies-over : (n : NodeState) (m : Message) (b : Body) (ask other : Ask) (how : Looked) (answer : Option Answer) → (how ≡ Fresh → ⊥) → replies n m ask how answer ≡ replies n (record m { body = b }) other how answer
replies-over n m b ask other how None over = refl
replies-over n m b ask other Fresh (Some answer) over = absurd (over refl)
replies-over n m b ask other Again (Some answer) over = refl
replies-over n m b ask other Old (Some answer) over = refl

serving-over : (n : NodeState) (m : Message) (b : Body) (ask other : Ask) (p : ProcName) (how : Looked) → (how ≡ Fresh → ⊥)
    → serving n m ask how (serve_as how n.side p m.number ask) ≡ serving n (record m { body = b }) other how (serve_as how n.side p m.number other)
serving-over n m b ask other p Fresh over = absurd (over refl)
serving-over n m b ask other p Again over = replies-over (record n { side = n.side }) m b ask other Again (body_of p n.side.served) over
serving-over n m b ask other p Old over = refl

-- the caller of a request is that of its head
same-caller : (m : Message) (ask : Ask) → ask_of m.body ≡ Some ask → caller_of m ≡ caller_of (record m { body = bodies.List None })
same-caller m ask asks =
    ap (λ b. let p : ProcName = record { node = if b then m.from else m.to; number = m.proc } in p) (request-is m.body ask asks)

serves-over : (n : NodeState) (m : Message) (ask : Ask) → ask_of m.body ≡ Some ask → nat_le m.number (last_of (caller_of m) n.side.served) ≡ true
    → serves n m ask ≡ serves n (record m { body = bodies.List None }) (Ask.ListLocks None)
serves-over n m ask asks low =
    let p = caller_of m in
    let how = looked m.number (last_of p n.side.served) in
    serving-over n m (bodies.List None) ask (Ask.ListLocks None) p how (never-fresh m.number (last_of p n.side.served) low)
    ∙ ap (λ (q : ProcName). serving n (record m { body = bodies.List None }) (Ask.ListLocks None) (looked m.number (last_of q n.side.served)) (serve_of n.side q m.number (Ask.ListLocks None))) (same-caller m ask asks)

-- what an answer carries to a process whose call is open no more
hears-over : (n : NodeState) (m : Message) (b : Body) (doing : Option OpenOp) → may_notice m.number doing ≡ false → hears n m doing ≡ hears n (record m { body = b }) doing
hears-over n m b None none = refl
hears-over n m b (Some o) none = by o.awaits none
  where
    by : (a : Await) → may_notice m.number (Some (record { began = o.began; awaits = a })) ≡ false → hears_at n m o.began a ≡ hears_at n (record m { body = b }) o.began a
    by (Await.Answer c) none = ap (λ t. hears_if t n m o.began) none ∙ sym (ap (λ t. hears_if t n (record m { body = b }) o.began) none)
    by (Await.Page u k) none = refl

takes-over : (n : NodeState) (m : Message) (o : Option Ask) → ask_of m.body ≡ o → is_over_as n m o ≡ true → takes n m o ≡ takes n (record m { body = bare_body o }) (ask_of (bare_body o))
takes-over n m (Some ask) asks over = ap (λ (st : Stepped). Doing.Does st) (serves-over n m ask asks over)
takes-over n m None asks over =
    hears-over n m bodies.Done (proc_of n m.proc).doing
    (not-true (may_notice m.number (proc_of n m.proc).doing) (right-true (nat_le m.number (proc_of n m.proc).last) (not (may_notice m.number (proc_of n m.proc).doing)) over))

pub step-over : (g : Given) (n : NodeState) (from index : ℕ) (m : Message) → is_over n m ≡ true → named_step g n (Take from index) (Incoming.Frame m) ≡ named_step g n (Take from index) (Incoming.Frame (bare m))
step-over g n from index m over =
    let x = ticked n (Incoming.Frame m) in
    ap (λ (d : Doing). Some d >>= stepped_as_named g x) (takes-over x m (ask_of m.body) refl over)

-- a request whose home served its number, whatever it serves then
served-over : (side : HomeSide) (p q : ProcName) (number k : ℕ) (ask : Ask) → nat_le number (last_of p side.served) ≡ true → nat_le number (last_of p (serve_of side q k ask).side.served) ≡ true
served-over side p q number k ask over = by (looked k (last_of q side.served)) refl
  where
    by : (l : Looked) → looked k (last_of q side.served) ≡ l → nat_le number (last_of p (serve_as l side q k ask).side.served) ≡ true
    by Fresh is =
        let call : Call Answer = record { proc = q; number = k; body = (decide side.home side.locks q ask).answer } in
        let found : call_of p (with_call call side.served) ≡ (if same_proc q p then Some call else call_of p side.served) = call_of-with_call call side.served p in
        subst (λ (o : Option (Call Answer)). nat_le number (number_in o) ≡ true) (sym found)
        (by_cases (same_proc q p) (nat_le number (number_in (if same_proc q p then Some call else call_of p side.served)) ≡ true)
        (λ same. subst (λ b. nat_le number (number_in (if b then Some call else call_of p side.served)) ≡ true) (sym same)
        (let high = fresh-above k (last_of q side.served) is in
        let low : nat_le number (last_of q side.served) ≡ true = subst (λ (r : ProcName). nat_le number (last_of r side.served) ≡ true) (sym (same_proc_is q p same)) over in
        grind (arith, nat_tests, high, low)))
        (λ other. subst (λ b. nat_le number (number_in (if b then Some call else call_of p side.served)) ≡ true) (sym other) over))
    by Again is = over
    by Old is = over

-- an open operation that awaits no answer
unasking-not : (number : ℕ) (o : Option OpenOp) → IsUnasking o → may_notice number o ≡ false
unasking-not number None is = refl
unasking-not number (Some o) is = by o.awaits is
  where
    by : (a : Await) → IsUnasking (Some (record { began = o.began; awaits = a })) → may_notice number (Some (record { began = o.began; awaits = a })) ≡ false
    by (Await.Answer c) is = absurd is
    by (Await.Page u k) is = refl

-- a call of this number is over at a process
abbrev IsOverAt : ℕ → ProcState → Type 0
IsOverAt number q = (nat_le number q.last && not (may_notice number q.doing)) ≡ true

stays-over : (number : ℕ) (q r : ProcState) → Stays q r → IsOverAt number q → IsOverAt number r
stays-over number q r stay over =
    let low = left-true (nat_le number q.last) (not (may_notice number q.doing)) over in
    let none = right-true (nat_le number q.last) (not (may_notice number q.doing)) over in
    and_from (nat_le number r.last) (not (may_notice number r.doing)) (ap (nat_le number) stay.last ∙ low) (by stay.doing none)
  where
    by : (r.doing ≡ q.doing) ⊎ IsUnasking r.doing → not (may_notice number q.doing) ≡ true → not (may_notice number r.doing) ≡ true
    by (inl same) none = ap (λ (o : Option OpenOp). not (may_notice number o)) same ∙ none
    by (inr unasking) none = ap not (unasking-not number r.doing unasking)

call-over : (g : Given) (n : NodeState) (st : Stepped) (p number : ℕ) → IsProc p → CallStep g n st → IsOverAt number (proc_of n p) → IsOverAt number (proc_of st.node p)
call-over g n st p number proc (silent none reply stay fours) over = stays-over number (proc_of n p) (proc_of st.node p) (stay p proc) over
call-over g n st p number proc (asked q o c is next call frame last now rest fours) over = elim (cases_eq p q) [
  | inl same ↦ subst (λ k. IsOverAt number (proc_of st.node k)) (sym same)
      (let low : nat_le number (proc_of n q).last ≡ true =
      left-true (nat_le number (proc_of n q).last) (not (may_notice number (proc_of n q).doing)) (subst (λ k. IsOverAt number (proc_of n k)) same over) in
      let higher : nat_le number (proc_of st.node q).last ≡ true = let l = last in let x = next in grind (arith, nat_tests, low, l, x) in
      let differs : (number == c.waiting.number) ≡ false = let x = next in grind (arith, nat_tests, low, x) in
      and_from (nat_le number (proc_of st.node q).last) (not (may_notice number (proc_of st.node q).doing)) higher
      (ap (λ (d : Option OpenOp). not (may_notice number d)) now ∙ ap not differs))
  | inr differs ↦ subst (IsOverAt number) (sym (rest p proc differs)) over
]
call-over g n st p number proc (again q o c is was none frame last now rest fours) over = elim (cases_eq p q) [
  | inl same ↦ subst (λ k. IsOverAt number (proc_of st.node k)) (sym same)
      (let here : IsOverAt number (proc_of n q) = subst (λ k. IsOverAt number (proc_of n k)) same over in
      let low = left-true (nat_le number (proc_of n q).last) (not (may_notice number (proc_of n q).doing)) here in
      let shut = right-true (nat_le number (proc_of n q).last) (not (may_notice number (proc_of n q).doing)) here in
      and_from (nat_le number (proc_of st.node q).last) (not (may_notice number (proc_of st.node q).doing)) (ap (nat_le number) last ∙ low)
      (ap (λ (d : Option OpenOp). not (may_notice number d)) now ∙ (sym (ap (λ (d : Option OpenOp). not (may_notice number d)) was) ∙ shut)))
  | inr differs ↦ subst (IsOverAt number) (sym (rest p proc differs)) over
]

pub over-stays : (g : Given) (n : NodeState) (what : What) (incoming : Incoming) (dropped : Dropped) (st : Stepped) (m : Message) → IsGiven g → IsNodeOf g n → IsIncoming incoming → IsFrame m
    → StepsTo g n what incoming dropped st → is_over n m ≡ true → is_over st.node m ≡ true
over-stays g n what incoming dropped st m given node comes frame steps over = by (ask_of m.body) over
  where
    by : (o : Option Ask) → is_over_as n m o ≡ true → is_over_as st.node m o ≡ true
    by (Some ask) over =
        did-side g (ticked n incoming) (λ (side : HomeSide). nat_le m.number (last_of (caller_of m) side.served) ≡ true) over what incoming st
        (λ k other is receiver asks. served-over n.side (caller_of m) (caller_of k) m.number k.number other over) (step_of-did g n what incoming dropped st steps)
    by None over =
        call-over g (ticked n incoming) st m.proc m.number (frame.range.proc_low, frame.range.proc_high)
        (did-calls g (ticked n incoming) node.four (λ p has. given-procs g given.programs p has) what incoming st (frame-proc incoming comes) (step_of-did g n what incoming dropped st steps)) over
