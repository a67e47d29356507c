use Rattle.std.proofs.Common.{ℕ}
use Rattle.dom_history.specs.declared.op.Op.{Op}
use Rattle.fault_handler.specs.Desks.{DeskState}
use Rattle.fault_handler.specs.Outcomes.{Moved}
use Rattle.fault_handler.specs.Ready.{IsReady}
use Rattle.fault_handler.specs.Next.{FitsTurn, IsAsked, IsNext}
use Rattle.lock_validate.specs.Causes.{Cause}
use Rattle.lock_validate.proofs.Leaving.{left-after, left-for}
use Rattle.lock_validate.proofs.laws.a_call_leaves_its_process_ready.Goals as goal

pub returns : goal.returns
returns c = record {
  ready = left-after (λ (d : DeskState) (p : ℕ) (c : Cause) (m : Moved). IsReady m.desk p) (λ d p c op m of left. left.ready);
  asks = left-after (λ (d : DeskState) (p : ℕ) (c : Cause) (m : Moved). IsAsked m.desk.nodes m.turn) (λ d p c op m of left. left.asks);
  fits = left-for (λ (d : DeskState) (p : ℕ) (op : Op) (m : Moved). FitsTurn op m.turn) (λ d p op m left. left.fits);
  next = left-for (λ (d : DeskState) (p : ℕ) (op : Op) (m : Moved). IsNext m.desk p op m.turn) (λ d p op m left. left.next);
}
