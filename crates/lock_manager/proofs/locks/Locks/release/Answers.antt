use Rattle.std.proofs.Common.{◌≡◌, ◌∙◌, true, false, ap, sym}
use Rattle.std.specs.Prelude.{is_some}
use Rattle.lock_manager.specs.Grants.{grant_of, grants_without}
use Rattle.lock_manager.proofs.Places.{remove-place_of, grants_without-none}
use Rattle.lock_manager.proofs.locks.Locks.release.Goals as goal

pub returns-in-Ok-clause-released : goal.returns-in-Ok-clause-released
returns-in-Ok-clause-released c =
    let grants = c.self.inside.grants.items in
    let found : is_some (grant_of c.args.proc c.args.uid grants) ≡ true = sym (rw c.deref.ensures.value at c.in-Ok.ensures.found) in
    let left : c.remove.new.self.items ≡ grants_without c.args.proc c.args.uid grants =
    c.remove.ensures.items ∙ rw (c.in-Ok.ensures.place, c.deref.ensures.value) (remove-place_of c.args.proc c.args.uid grants c.self.invariant.0.rising found) in
    rw (← c.self.view_is) (ap (λ gs. record { grants = gs; last = c.self.inside.last }) left)

pub returns-in-Err-clause-released : goal.returns-in-Err-clause-released
returns-in-Err-clause-released c =
    let grants = c.self.inside.grants.items in
    let none : is_some (grant_of c.args.proc c.args.uid grants) ≡ false = sym (rw c.deref.ensures.value at c.in-Err.ensures.found) in
    rw (← c.self.view_is) (ap (λ gs. record { grants = gs; last = c.self.inside.last }) (sym (grants_without-none c.args.proc c.args.uid grants none)))
