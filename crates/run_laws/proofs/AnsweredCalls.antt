-- The home of an open call answers it, each time its request comes.
use Rattle.std.proofs.Common.{◌≡◌, ℕ, ◌<◌, ◌≤◌, true, false, List, length, Option, Some, None, IfSome, refl, ap, subst, ◌∙◌, arith}
use Rattle.std.specs.Prelude.{◌==◌, nat_lt, is_some, if◌then◌else◌}
use Rattle.std.proofs.lemmas.Bool.Decides.{nat_tests}
use Rattle.uid_names.proofs.ListLemmas.{by_cases}
use Rattle.uid_names.specs.Names.{ProcName}
use Rattle.dom_history.specs.Objects.{is_node}
use Rattle.call_once.specs.Calls.{Call, number_in, body_in, call_of, last_of, looked}
use Rattle.call_once.specs.declared.served.Looked.{Looked}
use Rattle.call_once.specs.declared.served.Looked.TheVariants.{Fresh, Again, Old}
use Rattle.fault_handler.specs.Invariant.{IsProc}
use Rattle.page_server.specs.Serving.{HomeSide, serve_as, serve_of}
use Rattle.ring_messages.specs.Bodies.{Ask, Answer}
use Rattle.node_runs.specs.Agreements.{IsDoing, Agrees}
use Rattle.node_runs.specs.Setups.{Setup, IsSetup}
use Rattle.node_runs.specs.NodeStates.{Asked, Await, OpenOp, proc_of}
use Rattle.node_runs.specs.NodesKeep.{IsTimely}
use Rattle.node_runs.specs.Runs.{World, Choice, numbered, world_after}
use Rattle.node_runs.proofs.Calls.{calls-are}
use Rattle.node_runs.proofs.Running.{run-keeps}
use Rattle.node_runs.proofs.SettingUp.{setup-procs}
use Rattle.run_laws.specs.DecidedReplies.{proc_at}
use Rattle.run_laws.specs.FittingAnswers.{AnswersThis, AnswersCall}
use Rattle.run_laws.proofs.Fitting.{answers-fit}
use Rattle.world_runs.proofs.Receiving.{numbered-within}

abbrev IsUpTo : ℕ → Call Answer → Type 0
IsUpTo number call = call.number ≤ number

look-fresh : (number last : ℕ) → nat_lt last number ≡ true → looked number last ≡ Fresh
look-fresh number last less = ap (λ b. if b then Fresh else (if number == last then Again else Old)) less

look-again : (number last : ℕ) → nat_lt last number ≡ false → (number == last) ≡ true → looked number last ≡ Again
look-again number last less same = ap (λ b. if b then Fresh else (if number == last then Again else Old)) less ∙ ap (λ b. if b then Again else Old) same

module _ (side : HomeSide) (p : ProcName) (number : ℕ) (ask : Ask) where
  fresh : (last : ℕ) → last_of p side.served ≡ last → last < number → is_some (serve_of side p number ask).answer ≡ true
  fresh last is below =
      let less : nat_lt (last_of p side.served) number ≡ true = grind (arith, nat_tests, is, below) in
      ap (λ (l : Looked). is_some (serve_as l side p number ask).answer) (look-fresh number (last_of p side.served) less)

  again : (call : Call Answer) → call_of p side.served ≡ Some call → call.number ≡ number → is_some (serve_of side p number ask).answer ≡ true
  again call is same =
      let last : last_of p side.served ≡ number = ap number_in is ∙ same in
      let less : nat_lt (last_of p side.served) number ≡ false = grind (arith, nat_tests, last) in
      let equals : (number == last_of p side.served) ≡ true = grind (arith, nat_tests, last) in
      ap (λ (l : Looked). is_some (serve_as l side p number ask).answer) (look-again number (last_of p side.served) less equals) ∙ ap (λ (o : Option (Call Answer)). is_some (body_in o)) is

  answered-at : 1 ≤ number → (o : Option (Call Answer)) → call_of p side.served ≡ o → IfSome o (IsUpTo number) → is_some (serve_of side p number ask).answer ≡ true
  answered-at least None is most = fresh 0 (ap number_in is) least
  answered-at least (Some call) is most =
      by_cases (nat_lt call.number number) (is_some (serve_of side p number ask).answer ≡ true)
      (λ h. fresh call.number (ap number_in is) (let g : call.number < number = grind (arith, nat_tests, h) in g))
      (λ h. again call is (let g : call.number ≡ number = grind (arith, nat_tests, h, most) in g))

-- what a home answered was called
was-called : (k home : ℕ) (answer : Answer) (calls : List Asked) (o : Option Asked) → numbered k calls ≡ o → AnswersThis o home answer → k ≤ length calls
was-called k home answer calls None is answers = absurd answers
was-called k home answer calls (Some c) is answers = numbered-within k calls c is

up-to : (w : World) (n p home number : ℕ) → length (w.calls n p) ≡ number → (o : Option (Call Answer)) → IfSome o (λ call. AnswersCall w home (proc_at n p) call.number call.body) → IfSome o (IsUpTo number)
up-to w n p home number long None answers = tt
up-to w n p home number long (Some call) answers = let low = was-called call.number home call.body (w.calls n p) (numbered call.number (w.calls n p)) refl answers in omega (arith, low, long)

pub open-answered : (s : Setup) → IsSetup s → (cs : List Choice) (w : World) → world_after s cs ≡ Some w → IsTimely w → (n p : ℕ) → is_node s.opening n ≡ true → IsProc p
    → (o : OpenOp) → (proc_of (w.nodes n) p).doing ≡ Some o → (c : Asked) → o.awaits ≡ Await.Answer c → is_some (serve_of (w.nodes c.home).side (proc_at n p) c.waiting.number c.ask).answer ≡ true
open-answered s setup cs w e timely n p node proc o open_op c awaits =
    let procs = setup-procs s setup in
    let d = (w.nodes n).desk in
    let last = (proc_of (w.nodes n) p).last in
    let agrees = subst (Agrees d p last) open_op ((((run-keeps s setup cs w e).kept timely).nodes n node).agrees p proc) in
    let call = (subst (IsDoing d p last o.began.op) awaits agrees.1).1 in
    let calls = calls-are s procs cs w e in
    let number = call.number in
    let made = calls.last n p proc in
    answered-at (w.nodes c.home).side (proc_at n p) c.waiting.number c.ask (let l = call.least in omega (arith, l, number))
    (call_of (proc_at n p) (w.nodes c.home).side.served) refl
    (up-to w n p c.home c.waiting.number (omega (arith, number, made)) (call_of (proc_at n p) (w.nodes c.home).side.served) ((answers-fit s procs cs w e).kept c.home (proc_at n p)))
