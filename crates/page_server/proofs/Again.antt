-- A number that was decided is not decided again.
use Rattle.std.proofs.Common.{◌≡◌, ℕ, List, ◌∙◌, ap, refl, arith}
use Rattle.std.specs.Prelude.{Option, Some}
use Rattle.std.proofs.lemmas.Bool.Decides.{nat_tests}
use Rattle.uid_names.specs.Names.{ProcName}
use Rattle.uid_names.proofs.Orders.{same_proc-itself}
use Rattle.call_once.specs.declared.served.Looked.{Looked}
use Rattle.call_once.specs.declared.served.Looked.TheVariants.{Fresh, Again}
use Rattle.call_once.specs.Calls.{Call, call_of, body_in, number_in, last_of, looked, with_call}
use Rattle.call_once.proofs.KeptCalls.{call_of-with_call}
use Rattle.ring_messages.specs.Bodies.{Ask, Answer}
use Rattle.page_server.specs.Decisions.{Decision, decide}
use Rattle.page_server.specs.Serving.{HomeSide, kept, serve_as, serve_of}

looked-same : (n : ℕ) → looked n n ≡ Again
looked-same n = grind (arith, nat_tests)

-- the call that was kept last
kept-call : (calls : List (Call Answer)) (call : Call Answer) → call_of call.proc (with_call call calls) ≡ Some call
kept-call calls call = call_of-with_call call calls call.proc ∙ rw (same_proc-itself call.proc) refl

-- what was decided is answered again
kept-again : (side : HomeSide) (p : ProcName) (number : ℕ) (decision : Decision) (again : Ask)
    → serve_of (kept side p number decision).side p number again ≡ kept side p number decision
kept-again side p number decision again =
    let after : HomeSide = (kept side p number decision).side in
    let call : Call Answer = record { proc = p; number = number; body = decision.answer } in
    let found : call_of p after.served ≡ Some call = kept-call side.served call in
    let same : looked number (last_of p after.served) ≡ Again = ap (λ (o : Option (Call Answer)). looked number (number_in o)) found ∙ looked-same number in
    ap (λ (l : Looked). serve_as l after p number again) same
    ∙ ap (λ (o : Option (Call Answer)). record { side = after; answer = body_in o }) found

pub decided-once : (side : HomeSide) (p : ProcName) (number : ℕ) (ask again : Ask) → looked number (last_of p side.served) ≡ Fresh
    → serve_of (serve_of side p number ask).side p number again ≡ serve_of side p number ask
decided-once side p number ask again = by (looked number (last_of p side.served))
  where
    by : (l : Looked) → l ≡ Fresh → serve_of (serve_as l side p number ask).side p number again ≡ serve_as l side p number ask
    by Fresh is = kept-again side p number (decide side.home side.locks p ask) again
    by _ is = absurd cc
