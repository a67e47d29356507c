-- What holds of each outcome of a lock, an unlock or a removal: what is asked is what a frame can carry to a node, the
-- operation ended, waits or has its own call open, and the process may go on or its call stands.
use Rattle.std.proofs.Common.{◌≡◌, ℕ, List, length, Option, Some, None, refl, sym, subst, ◌∙◌}
use Rattle.uid_names.specs.Names.{ObjectName}
use Rattle.dom_history.specs.declared.op.Op.{Op}
use Rattle.dom_history.specs.declared.op.Reply.{Reply}
use Rattle.dom_history.specs.Fitting.{Fits}
use Rattle.ring_messages.specs.Bodies.{Ask, body_of_ask}
use Rattle.ring_messages.specs.Ranges.{IsBody}
use Rattle.fault_handler.specs.declared.open_call.OpenCall.{OpenCall}
use Rattle.fault_handler.specs.declared.open_call.OpenCall.TheVariants.{Access}
use Rattle.fault_handler.specs.Desks.{DeskState, IsNode, open_call_of, task_of, moving_of}
use Rattle.fault_handler.specs.Changes.{with_call}
use Rattle.fault_handler.specs.Outcomes.{Turn, waiting}
use Rattle.fault_handler.specs.LockCalls.{LockCall, lock_call, open_call}
use Rattle.fault_handler.specs.Invariant.{IsProc}
use Rattle.fault_handler.specs.Conditions.{IsIdle, IsNotAccessing, IsOther}
use Rattle.fault_handler.specs.Ready.{CallStands, MayStand, IsReadyAt}
use Rattle.fault_handler.specs.Next.{IsCallOf, IsRequestOf, IsRequest, MayGoOn}
use Rattle.lock_validate.specs.Steps.{sent}
use Rattle.fault_handler.proofs.Fours.{at-put_same}
use Rattle.fault_handler.proofs.Outcomes.{IsAfter}
use Rattle.fault_handler.proofs.Accessing.{ready-idle}

-- no load or store of a process that may go on is open
pub idle-other : (d : DeskState) (p : ℕ) → IsIdle d p → IsNotAccessing d p
idle-other d p idle same = let e : None ≡ Some Access = sym idle.no_call ∙ same in cc

-- an open call of a lock, an unlock or a removal says which it is, and is not that of a load or store
pub lock_call-open : (call : LockCall) → lock_call (open_call call) ≡ Some call
lock_call-open (LockCall.Lock u m) = refl
lock_call-open (LockCall.PageOut u k delete) = refl
lock_call-open (LockCall.AttrOut u n delete) = refl
lock_call-open (LockCall.Unlock u) = refl
lock_call-open (LockCall.Remove u) = refl

pub open-other : (call : LockCall) → IsOther (Some (open_call call))
open-other (LockCall.Lock u m) same = cc
open-other (LockCall.PageOut u k delete) same = cc
open-other (LockCall.AttrOut u n delete) same = cc
open-other (LockCall.Unlock u) same = cc
open-other (LockCall.Remove u) same = cc

module _ (d e : DeskState) (p : ℕ) (op : Op) (node : e.node ≡ d.node) (nodes : e.nodes ≡ d.nodes) where
  -- the operation ends, on this desk
  pub ended-good : (reply : Reply) (dropped : List (ObjectName × ℕ)) → IsIdle e p → Fits op reply → IsAfter d.node d.nodes p op (record { desk = e; turn = Turn.Ends reply; dropped = dropped })
  ended-good reply dropped idle fits = record { asks = tt; next = idle; ready = ready-idle e p idle; fits = fits; node = node; nodes = nodes }

  -- it waits
  pub waiting-good : (u : ObjectName) (k : ℕ) → IsIdle e p → MayGoOn e p op → IsAfter d.node d.nodes p op (waiting e u k)
  waiting-good u k idle may = record { asks = tt; next = (idle, may); ready = ready-idle e p idle; fits = tt; node = node; nodes = nodes }

  -- a home is asked, by a call that is open from then on
  pub sent-good : (call : LockCall) (home : ℕ) (ask : Ask) → length e.calls ≡ 4 → IsProc p → IsNode e.nodes home → IsBody home (body_of_ask ask)
      → IsCallOf op (task_of e p) (Some (open_call call)) → IsRequestOf (moving_of e p) (open_call call) ask
      → CallStands (with_call e p (Some (open_call call))) p call → IsAfter d.node d.nodes p op (sent e p call home ask)
  sent-good call home ask four proc at_node carried own request stands = record {
    asks = (at_node, carried);
    next = (subst (IsCallOf op (task_of e p)) (sym set) own, subst (λ (c : Option OpenCall). IsRequest (moving_of e p) c ask) (sym set) request);
    ready = subst (IsReadyAt after p) (sym set) (subst (MayStand after p) (sym (lock_call-open call)) stands);
    fits = tt;
    node = node;
    nodes = nodes;
  }
    where
      after : DeskState
      after = with_call e p (Some (open_call call))

      set : open_call_of (with_call e p (Some (open_call call))) p ≡ Some (open_call call)
      set = at-put_same e.calls p (Some (open_call call)) None four proc
