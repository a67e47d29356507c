-- What is known of a call's result by the outcome that it gives.
use Rattle.std.proofs.Common.{◌≡◌, ℕ, List, Result, Ok, Err, IfOk, OnOk, Some, refl, sym, ap, subst, ◌∙◌}
use Rattle.std.proofs.lemmas.Option.{same_Some}
use Rattle.std.specs.Option.{option_map}
use Rattle.uid_names.specs.Names.{ObjectName}
use Rattle.dom_history.specs.declared.op.Op.{Op}
use Rattle.dom_history.specs.declared.op.Reply.{Reply}
use Rattle.dom_history.specs.Fitting.{Fits}
use Rattle.ring_messages.proofs.Asking.{asked-seen}
use Rattle.fault_handler.specs.Desks.{DeskState, open_call_of}
use Rattle.fault_handler.specs.Outcomes.{Turn, Outcome, Moved, ended, Gives}
use Rattle.fault_handler.specs.LockCalls.{LockCall, open_call}
use Rattle.fault_handler.specs.Invariant.{IsProc, IsDesk}
use Rattle.fault_handler.specs.Conditions.{IsIdle}
use Rattle.fault_handler.specs.Ready.{IsReady}
use Rattle.fault_handler.specs.Next.{FitsTurn, IsAsked, IsOpen, IsNext}
use Rattle.lock_validate.specs.declared.step.Step.{Step}
use Rattle.lock_validate.specs.Steps.{as_step, seen_step, TellsTurn}
use Rattle.lock_validate.specs.Faults.{call_failed_of}
use Rattle.lock_validate.proofs.Standing.{op_of, is-open}
use Rattle.lock_validate.proofs.Answering.{call_failed_of-good}
use Rattle.fault_handler.proofs.Outcomes.{IsAfter}

-- a step tells the outcome whose form it is
pub seen-as_step : (turn : Turn) (dropped : List (ObjectName × ℕ)) → seen_step (as_step turn dropped) ≡ Some (record { turn = turn; dropped = dropped })
seen-as_step (Turn.Ends reply) dropped = refl
seen-as_step (Turn.Asks home ask) dropped = ap (option_map (λ a. let o : Outcome = record { turn = Turn.Asks home a; dropped = dropped } in o)) (asked-seen ask)
seen-as_step (Turn.Waits u k) dropped = refl

-- what holds of the outcome holds of what the step tells
tells : (new : DeskState) (m : Moved) (step : Step) → Gives as_step new m step → (P : DeskState → Turn → Type 0) → P m.desk m.turn → TellsTurn (P new) step
tells new m step gives P holds x found =
    let o : Outcome = record { turn = m.turn; dropped = m.dropped } in
    let same : o ≡ x = same_Some o x (sym (seen-as_step m.turn m.dropped) ∙ ap seen_step (sym gives.1) ∙ found) in
    subst (λ (y : Outcome). P new y.turn) same (subst (λ (e : DeskState). P e m.turn) (sym gives.0) holds)

-- what the contract of a call says beside the outcome
pub record IsTold {E : Type 0} (d new : DeskState) (p : ℕ) (op : Op) (r : Result Step E) : Type 0 where
  pub fits : IfOk r (TellsTurn (FitsTurn op))
  pub asks : IfOk r (TellsTurn (IsAsked new.nodes))
  pub next : IfOk r (TellsTurn (IsNext new p op))
  pub ready : OnOk r (IsReady new p)
  pub node : OnOk r (new.node ≡ d.node)
  pub nodes : OnOk r (new.nodes ≡ d.nodes)

-- where the outcome is good
pub told : {E : Type 0} (d new : DeskState) (p : ℕ) (op : Op) (m : Moved) (r : Result Step E) → IsAfter d.node d.nodes p op m → IfOk r (Gives as_step new m) → IsTold d new p op r
told d new p op m (Ok step) good gives = record {
  fits = tells new m step gives (λ e. FitsTurn op) good.fits;
  asks = tells new m step gives (λ e. IsAsked e.nodes) good.asks;
  next = tells new m step gives (λ e. IsNext e p op) good.next;
  ready = subst (λ (e : DeskState). IsReady e p) (sym gives.0) good.ready;
  node = ap (λ (e : DeskState). e.node) gives.0 ∙ good.node;
  nodes = ap (λ (e : DeskState). e.nodes) gives.0 ∙ good.nodes;
}
told d new p op m (Err e) good gives = record { fits = tt; asks = tt; next = tt; ready = tt; node = tt; nodes = tt }

-- what it says of a link fault
pub record IsFailed (d new : DeskState) (p : ℕ) (reply : Reply) : Type 0 where
  pub fits : (op : Op) → IsOpen d p op → Fits op reply
  pub next : IsIdle new p
  pub ready : IsReady new p
  pub node : new.node ≡ d.node
  pub nodes : new.nodes ≡ d.nodes

pub failed-told : (d new : DeskState) (p : ℕ) (reply : Reply) (call : LockCall) → IsDesk d → IsProc p → IsReady d p → open_call_of d p ≡ Some (open_call call) → call_failed_of d p call ≡ ended new reply → IsFailed d new p reply
failed-told d new p reply call is proc ready opened gives =
    let good : (op : Op) → IsOpen d p op → IsAfter d.node d.nodes p op (ended new reply) = λ op own. subst (IsAfter d.node d.nodes p op) gives (call_failed_of-good d p is proc ready call opened op own) in
    let own = good (op_of call) (is-open d p call opened) in
    record { fits = λ op open_it. (good op open_it).fits; next = own.next; ready = own.ready; node = own.node; nodes = own.nodes }
