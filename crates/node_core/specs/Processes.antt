-- What definitions see of a process that a node keeps.
use Rattle.std.specs.Prelude.{◌≡◌, ℕ, ◌+◌, Bool, true, false, List, [], Option, Some, None, map}
use Rattle.std.specs.Option.{option_map}
use Rattle.uid_names.specs.declared.ids.Place.{Place}
use Rattle.dom_history.specs.declared.op.Op.{Op}
use Rattle.dom_history.specs.declared.op.Op.TheVariants as ops
use Rattle.dom_history.specs.declared.op.Want.{Want}
use Rattle.dom_history.specs.declared.op.Want.TheVariants.{Do, Phase, Done}
use Rattle.dom_history.specs.Ranges.{IsOp}
use Rattle.call_once.specs.Notices.{noticed}
use Rattle.call_once.specs.declared.asking.Noticed.{Noticed}
use Rattle.ring_messages.specs.Bodies.{Ask, body_of_ask}
use Rattle.ring_messages.specs.Frames.{Message}
use Rattle.fault_handler.specs.Desks.{at}
use Rattle.node_runs.specs.NodeStates.{Asked, Await, BegunOp, OpenOp, ProcState}
use Rattle.node_runs.specs.Outcomes.{next_call}
use Rattle.node_runs.specs.Doings.{noticed_call}
use Rattle.node_core.specs.declared.processes.Call.{Call}
use Rattle.node_core.specs.declared.processes.Await as kept
use Rattle.node_core.specs.declared.processes.Await.TheVariants as awaits
use Rattle.node_core.specs.declared.processes.Again.{Again}
use Rattle.node_core.specs.declared.processes.Open.{Open}
use Rattle.node_core.specs.declared.processes.Proc.{Proc}

-- a call, with what it asks
abbrev pub call_seen : Call → Ask → Asked
call_seen c ask = record { waiting = c.asking; home = c.home; ask = ask }

abbrev pub await_seen : kept.Await → Ask → Await
await_seen (awaits.Answer c) ask = Await.Answer (call_seen c ask)
await_seen (awaits.Page u k) ask = Await.Page u k

abbrev pub open_seen : Op → Open → Ask → OpenOp
open_seen op o ask = record { began = record { op = op; begun = o.begun }; awaits = await_seen o.awaits ask }

-- what is open, where an operation is wanted
abbrev pub open_in : Want → Option Open → Option Open
open_in (Do op) opened = opened
open_in Phase opened = None
open_in Done opened = None

-- the open operation is the one that is wanted
abbrev pub doing_of : Want → Option Open → Ask → Option OpenOp
doing_of (Do op) opened ask = option_map (λ o. open_seen op o ask) opened
doing_of Phase opened ask = None
doing_of Done opened ask = None

-- a process. What it heard is not kept
abbrev pub proc_seen : Proc → ProcState
proc_seen q = record { heard = []; doing = doing_of q.want q.opened q.asked; last = q.last; phase = q.phase }

-- an operation is wanted, in its ranges
abbrev pub IsWanted : Want → Type 0
IsWanted (Do op) = IsOp op
IsWanted Phase = ⊥
IsWanted Done = ⊥

-- what a process wants
abbrev pub want_at : List Proc → ℕ → Want
want_at procs p = at (map (λ q. q.want) procs) p Phase

-- a call is open
abbrev pub IsAnswer : Await → Type 0
IsAnswer (Await.Answer c) = Unit {0}
IsAnswer (Await.Page u k) = ⊥

abbrev pub IsCalling : Option OpenOp → Type 0
IsCalling None = ⊥
IsCalling (Some o) = IsAnswer o.awaits

-- a New, or a List, is wanted: the desk has no part in them
abbrev pub is_new : Want → Bool
is_new (Do (ops.New home kind room)) = true
is_new _ = false

abbrev pub is_list : Want → Bool
is_list (Do (ops.List home after)) = true
is_list _ = false

-- the request of a call, to be sent again
pub record IsAgain (c : Asked) (again : Again) : Type 0 where
  pub home : again.home ≡ c.home
  pub number : again.number ≡ c.waiting.number
  pub body : again.body ≡ body_of_ask c.ask

-- an operation is open that began there, and awaits this
abbrev pub with_open : ProcState → Op → Place → Await → ProcState
with_open q op begun awaits = record q { doing = Some (record { began = record { op = op; begun = begun }; awaits = awaits }) }

-- it awaits the answer to this call, which has one notice more
abbrev pub with_notice : Proc → Op → Place → Call → ProcState
with_notice q op begun c = with_open (proc_seen q) op begun (Await.Answer (noticed_call (call_seen c q.asked)))

-- it makes its next call
abbrev pub with_call : ProcState → Op → Place → ℕ → Ask → ProcState
with_call q op begun home ask =
    record q {
      doing = Some (record { began = record { op = op; begun = begun }; awaits = Await.Answer (next_call q home ask) });
      last = q.last + 1;
    }

-- its open call has one notice more, and its request is to be sent again
abbrev pub IsResent : Proc → Proc → Again → Type 0
IsResent old new again =
    (o : BegunOp) (c : Asked) → (proc_seen old).doing ≡ Some (record { began = o; awaits = Await.Answer c })
    → IsAgain c again × (noticed (c.waiting.notices + 1) ≡ Noticed.Resend)
    × (proc_seen new ≡ record (proc_seen old) { doing = Some (record { began = o; awaits = Await.Answer (noticed_call c) }) })

-- its open call has its last notice, and is to be given up
abbrev pub IsGivenUp : Proc → Proc → Type 0
IsGivenUp old new =
    (o : BegunOp) (c : Asked) → (proc_seen old).doing ≡ Some (record { began = o; awaits = Await.Answer c })
    → (noticed (c.waiting.notices + 1) ≡ Noticed.GiveUp) × (new ≡ old)

-- the frame that it is sent in, of this version
abbrev pub again_sent : ℕ → ℕ → ℕ → ℕ → Again → Message
again_sent version node p tick again = record { version = version; from = node; to = again.home; proc = p; number = again.number; tick = tick; body = again.body }
