use Rattle.std.proofs.Common.{◌∙◌, sym, arith}
use Rattle.lock_manager.proofs.Keeps.{IsTable-with_grant}
use Rattle.lock_manager.proofs.locks.Locks.ask.Goals as goal

pub invariant_of-self : goal.invariant_of-self
invariant_of-self c =
    (rw c.in-Ok.ensures.ok (IsTable-with_grant (record { uid = c.args.uid; proc = c.args.proc; mode = c.args.mode }) (record { grants = c.self.inside.grants.items; last = c.self.inside.last }) c.self.invariant.0 (sym (rw c.deref.ensures.value at c.conflict.ensures) ∙ c.in_default.is)), omega (arith, c.self.invariant.1, c.in-Ok.ensures.capacity))
