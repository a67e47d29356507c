-- What an operation asks lies within a room, where what its desk makes of it does.
use Rattle.std.proofs.Common.{◌≡◌, ℕ, Some, sym, subst, ◌∙◌}
use Rattle.std.proofs.lemmas.Option.{same_Some}
use Rattle.dom_history.specs.declared.op.Op.{Op}
use Rattle.fault_handler.specs.declared.access.Access.{Access}
use Rattle.fault_handler.specs.Desks.{DeskState}
use Rattle.fault_handler.specs.Outcomes.{Moved, Outcome, outcome_of, Gives, as_access, seen_access}
use Rattle.fault_handler.specs.Accesses.{Accessed, Always, Comes}
use Rattle.fault_handler.proofs.Outcomes.{Holds, come}
use Rattle.lock_validate.specs.declared.step.Step.{Step}
use Rattle.lock_validate.specs.Bounded.{AsksWithin, StaysWithin}
use Rattle.lock_validate.specs.Steps.{as_step, seen_step}
use Rattle.node_runs.proofs.Keeping.{IsMoved}
use Rattle.node_core.proofs.Turning.{step-seen, given-seen}

-- by a step of the desk
pub step-within : (room : ℕ) (desk : DeskState) (m : Moved) (step : Step) (came : Outcome) → StaysWithin room m → Gives as_step desk m step → seen_step step ≡ Some came → AsksWithin room came.turn
step-within room desk m step came stays gives seen =
    subst (λ (x : Outcome). AsksWithin room x.turn) (same_Some (outcome_of m) came (sym (step-seen desk m step gives) ∙ seen)) stays.asks

-- what holds, and what always holds, hold both
both-hold : (p : ℕ) (P Q : Moved → Type 0) (a : Accessed) → Holds p P a → Always p Q a → Holds p (λ m. P m × Q m) a
both-hold p P Q (Accessed.Settled m) holds always = (holds, always)
both-hold p P Q (Accessed.NeedsRoom d task) holds always = (holds.0, holds.1, λ victim may. (holds.2 victim may, always victim may))

-- by an access
pub access-within : (room : ℕ) (d : DeskState) (p : ℕ) (op : Op) (desk : DeskState) (accessed : Accessed) (access : Access) (came : Outcome) → Holds p (IsMoved d p op) accessed → Always p (StaysWithin room) accessed
    → Comes p (λ m. Gives as_access desk m access) accessed → seen_access access ≡ Some came → AsksWithin room came.turn
access-within room d p op desk accessed access came holds always comes seen =
    come p (λ m. IsMoved d p op m × StaysWithin room m) (λ m. Gives as_access desk m access) (AsksWithin room came.turn) accessed (both-hold p (IsMoved d p op) (StaysWithin room) accessed holds always) comes
    (λ m stays gives. subst (λ (x : Outcome). AsksWithin room x.turn) (same_Some (outcome_of m) came (sym (given-seen desk m access gives) ∙ seen)) stays.1.asks)
