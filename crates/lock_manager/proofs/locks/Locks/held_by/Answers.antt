use Rattle.std.proofs.Common.{◌≡◌, ◌<◌, true, length, refl, sym}
use Rattle.std.specs.Prelude.{is_some}
use Rattle.lock_manager.specs.Grants.{grant_of, place_of}
use Rattle.lock_manager.proofs.Places.{grant_of-found}
use Rattle.lock_manager.proofs.locks.Locks.held_by.Goals as goal

pub returns-in-Ok : goal.returns-in-Ok
returns-in-Ok c =
    let grants = c.self.inside.grants.items in
    let found : is_some (grant_of c.args.proc c.args.uid grants) ≡ true = sym (rw c.deref.ensures.value at c.in-Ok.ensures.found) in
    let place : c.in-Ok.at ≡ place_of c.args.proc c.args.uid grants = rw c.deref.ensures.value at c.in-Ok.ensures.place in
    let below : c.in-Ok.at < length grants = rw c.deref.ensures.value at c.in-Ok.ensures.bound in
    let held = grant_of-found c.args.proc c.args.uid grants c.self.invariant.0.rising c.in-Ok.at c.index-grant.result.now place below c.index-grant.ensures found in
    rw (← c.self.view_is, held) refl
