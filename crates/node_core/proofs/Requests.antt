-- A body that asks is a request.
use Rattle.std.proofs.Common.{◌≡◌, Option, Some, None, IsSome, refl, sym, ap, ◌∙◌}
use Rattle.std.specs.Option.{option_map}
use Rattle.std.specs.Prelude.{unwrap_or}
use Rattle.uid_names.proofs.Somes.{IsSome-mapped}
use Rattle.ring_messages.specs.Bodies.{Ask, ask_of}
use Rattle.ring_messages.specs.declared.body.Body.{Body}
use Rattle.ring_messages.proofs.Asking.{asked-body}
use Rattle.fault_handler.specs.Outcomes.{Outcome}
use Rattle.node_core.specs.Asked.{ask_in, IsRequest}

some-or : (o : Option Ask) (other : Ask) → IsSome o → o ≡ Some (unwrap_or o other)
some-or None other is = absurd (cc)
some-or (Some ask) other is = refl

ask-there : (body : Body) → IsSome (ask_of body) → ask_of body ≡ Some (ask_in body)
ask-there body is = some-or (ask_of body) (Ask.ListLocks None) is

request-of : (body : Body) → IsSome (ask_of body) → IsRequest body
request-of body is = record { asks = sym (asked-body body (ask_in body) (ask-there body is)) }

-- the body of an outcome that is there is a request, and the outcome is that of what it asks
module _ (body : Body) (f : Ask → Outcome) (there : IsSome (option_map f (ask_of body))) where
  asks : IsSome (ask_of body)
  asks = (IsSome-mapped f (ask_of body)).0 there

  pub request-there : IsRequest body
  request-there = request-of body asks

  pub asks-there : (request : Ask) → request ≡ ask_in body → option_map f (ask_of body) ≡ Some (f request)
  asks-there request is = ap (option_map f) (ask-there body asks) ∙ ap (λ ask. Some (f ask)) (sym is)
