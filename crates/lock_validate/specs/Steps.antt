-- What a call of locking or unlocking comes to.
use Rattle.std.specs.Prelude.{ℕ, Option, Some, List, []}
use Rattle.std.specs.Option.{option_map, ForSome}
use Rattle.uid_names.specs.Names.{ObjectName}
use Rattle.ring_messages.specs.Bodies.{Ask, ask_of, body_of_ask}
use Rattle.fault_handler.specs.Desks.{DeskState}
use Rattle.fault_handler.specs.Changes.{with_call}
use Rattle.fault_handler.specs.Outcomes.{Turn, Outcome, Moved}
use Rattle.fault_handler.specs.LockCalls.{LockCall, open_call}
use Rattle.lock_validate.specs.declared.step.Step.{Step}
use Rattle.lock_validate.specs.declared.step.Step.TheVariants.{Send, Wait, End}

-- a home is asked, by a call that is open from now on
abbrev pub sent : DeskState → ℕ → LockCall → ℕ → Ask → Moved
sent d p call home ask = record { desk = with_call d p (Some (open_call call)); turn = Turn.Asks home ask; dropped = [] }

-- an outcome as the calls of locking and unlocking answer it
abbrev pub as_step : Turn → List (ObjectName × ℕ) → Step
as_step (Turn.Ends reply) dropped = End reply dropped
as_step (Turn.Asks home ask) dropped = Send home (body_of_ask ask) dropped
as_step (Turn.Waits u k) dropped = Wait u k dropped

-- the outcome that a step tells: None only where it asks with a body that asks nothing
abbrev pub seen_step : Step → Option Outcome
seen_step (Send home body dropped) = option_map (λ ask. record { turn = Turn.Asks home ask; dropped = dropped }) (ask_of body)
seen_step (Wait u k dropped) = Some (record { turn = Turn.Waits u k; dropped = dropped })
seen_step (End reply dropped) = Some (record { turn = Turn.Ends reply; dropped = dropped })

-- what holds of the turn that a step tells
abbrev pub TellsTurn : (Turn → Type 0) → Step → Type 0
TellsTurn P step = ForSome (seen_step step) (λ o. P o.turn)
