-- What a call of a desk comes to.
use Rattle.std.specs.Prelude.{◌≡◌, ℕ, Bool, true, false, Option, Some, List, []}
use Rattle.std.specs.Option.{option_map}
use Rattle.uid_names.specs.Names.{ObjectName}
use Rattle.dom_history.specs.declared.op.Reply.{Reply}
use Rattle.dom_history.specs.declared.end_word.EndWord.{EndWord}
use Rattle.dom_history.specs.declared.end_word.EndWord.TheVariants as word
use Rattle.dom_history.specs.EndWords.{word_of}
use Rattle.ring_messages.specs.Bodies.{Ask, ask_of, body_of_ask}
use Rattle.fault_handler.specs.declared.access.Access.{Access}
use Rattle.fault_handler.specs.declared.access.Access.TheVariants.{Hit, Need, Wait, Refuse}
use Rattle.fault_handler.specs.Desks.{DeskState}

-- its operation ends with a reply, asks a home, or waits for a page that another process has in transit
pub data Turn : Type 0 where
  Ends : (reply : Reply) → Turn
  Asks : (home : ℕ) (ask : Ask) → Turn
  Waits : (uid : ObjectName) (page : ℕ) → Turn

-- that, with the pages that the call dropped
pub record Outcome : Type 0 where
  pub turn : Turn
  pub dropped : List (ObjectName × ℕ)

-- that, with the desk after the call
pub record Moved : Type 0 where
  pub desk : DeskState
  pub turn : Turn
  pub dropped : List (ObjectName × ℕ)

abbrev pub outcome_of : Moved → Outcome
outcome_of m = record { turn = m.turn; dropped = m.dropped }

-- the operation ends, and nothing is dropped
abbrev pub ended : DeskState → Reply → Moved
ended d reply = record { desk = d; turn = Turn.Ends reply; dropped = [] }

-- the operation waits for a page
abbrev pub waiting : DeskState → ObjectName → ℕ → Moved
waiting d u k = record { desk = d; turn = Turn.Waits u k; dropped = [] }

-- whether the operation was done
abbrev pub is_done : EndWord → Bool
is_done word.Fine = true
is_done _ = false

abbrev pub reply_as : Bool → Reply → List (ObjectName × ℕ) → Access
reply_as true reply dropped = Hit reply dropped
reply_as false reply dropped = Refuse reply dropped

-- an outcome as the call of a load or store answers it
abbrev pub as_access : Turn → List (ObjectName × ℕ) → Access
as_access (Turn.Ends reply) dropped = reply_as (is_done (word_of reply)) reply dropped
as_access (Turn.Asks home ask) dropped = Need home (body_of_ask ask) dropped
as_access (Turn.Waits u k) dropped = Wait u k dropped

-- the outcome that an answer tells: None only where it asks with a body that asks nothing
abbrev pub seen_access : Access → Option Outcome
seen_access (Hit reply dropped) = Some (record { turn = Turn.Ends reply; dropped = dropped })
seen_access (Need home body dropped) = option_map (λ ask. record { turn = Turn.Asks home ask; dropped = dropped }) (ask_of body)
seen_access (Wait u k dropped) = Some (record { turn = Turn.Waits u k; dropped = dropped })
seen_access (Refuse reply dropped) = Some (record { turn = Turn.Ends reply; dropped = dropped })

-- the call's desk and answer are those of the definition, its outcome in the form of the call's answers
abbrev pub Gives : {A : Type 0} → (Turn → List (ObjectName × ℕ) → A) → DeskState → Moved → A → Type 0
Gives form new m answer = (new ≡ m.desk) × (answer ≡ form m.turn m.dropped)

-- it is no refusal
abbrev pub IsNoRefusal : Access → Type 0
IsNoRefusal (Refuse reply dropped) = ⊥
IsNoRefusal _ = Unit {0}
