-- A server that decided is one at each later tick.
use Rattle.std.proofs.Common.{◌≡◌, ℕ, ◌<◌, sym, subst}
use Rattle.std.specs.Prelude.{Option, Some, None, IsSome, IfSome}
use Rattle.uid_names.specs.Names.{ProcName}
use Rattle.uid_names.specs.Wires.{wire_room}
use Rattle.call_once.specs.Calls.{with_call}
use Rattle.ring_messages.specs.declared.body.Body.{Body}
use Rattle.ring_messages.specs.Bodies.{Ask, Answer, ask_of, body_of_ask, body_of_answer}
use Rattle.ring_messages.specs.Ranges.{IsBody, LiesWithin}
use Rattle.ring_messages.proofs.Asking.{asked-body}
use Rattle.page_server.specs.Decisions.{decide}
use Rattle.page_server.specs.Serving.{HomeSide}
use Rattle.page_server.specs.ServerStates.{ServerState, IsSide, IsSideWithin, IsServer}
use Rattle.page_server.proofs.Bounds.{IsCountedTo-decided}
use Rattle.page_server.proofs.Sides.{IsSide-decided}
use Rattle.page_server.proofs.Within.{decided-within, within-decided}

-- what the code has of a decision on what was asked
pub record IsDecided (side : HomeSide) (p : ProcName) (number : ℕ) (asked : Option Ask) (new : HomeSide) (told : Answer) : Type 0 where
  pub home : IfSome asked (λ ask. new.home ≡ (decide side.home side.locks p ask).home)
  pub locks : IfSome asked (λ ask. new.locks ≡ (decide side.home side.locks p ask).locks)
  pub answer : IfSome asked (λ ask. told ≡ (decide side.home side.locks p ask).answer)
  pub served : new.served ≡ with_call (record { proc = p; number = number; body = told }) side.served

-- a server that decided on what was asked is one at each later tick
pub IsServer-asked : (server : ServerState) (p : ProcName) (number : ℕ) (asked : Option Ask) (new : HomeSide) (told : Answer) (tick : ℕ)
    → IsServer server → server.tick < tick → IsSome asked → IfSome asked (λ ask. IsBody server.side.home.node (body_of_ask ask)) → IfSome asked (λ ask. LiesWithin (wire_room server.wire) (body_of_ask ask))
    → IsDecided server.side p number asked new told → IsServer (record { side = new; tick = tick; wire = server.wire })
IsServer-asked server p number None new told tick keeps later asks range low is = absurd cc
IsServer-asked server p number (Some ask) new told tick keeps later asks range low is =
    rw (is.served, is.home, is.locks, is.answer) (record {
      side = IsSide-decided server.side p number ask keeps.side range;
      counted = IsCountedTo-decided server.side p ask (with_call (record { proc = p; number = number; body = (decide server.side.home server.side.locks p ask).answer }) server.side.served) server.tick tick keeps.counted later;
      wire = keeps.wire;
      within = within-decided (wire_room server.wire) server.side p number ask keeps.side keeps.within low;
    })

-- what a body in its range asks
pub asked-range : (to : ℕ) (body : Body) (asked : Option Ask) → ask_of body ≡ asked → IsBody to body → IfSome asked (λ ask. IsBody to (body_of_ask ask))
asked-range to body None is range = tt
asked-range to body (Some ask) is range = rw (← (asked-body body ask is)) range

-- and where it lies within a room
pub asked-within : (room : ℕ) (body : Body) (asked : Option Ask) → ask_of body ≡ asked → LiesWithin room body → IfSome asked (λ ask. LiesWithin room (body_of_ask ask))
asked-within room body None is low = tt
asked-within room body (Some ask) is low = rw (← (asked-body body ask is)) low

-- what is answered to it lies within the room as well
pub answer-within : (room : ℕ) (side : HomeSide) (p : ProcName) (asked : Option Ask) (told : Answer) → IsSide side → IsSideWithin room side → IsSome asked
    → IfSome asked (λ ask. told ≡ (decide side.home side.locks p ask).answer) → LiesWithin room (body_of_answer told)
answer-within room side p None told kept within asks is = absurd cc
answer-within room side p (Some ask) told kept within asks is = subst (λ (a : Answer). LiesWithin room (body_of_answer a)) (sym is) (decided-within room side.home within.rooms side.locks p ask kept.home)
