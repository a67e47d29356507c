use Rattle.std.proofs.Common.{◌≡◌, true, false, sym}
use Rattle.std.specs.Prelude.{is_some}
use Rattle.lock_manager.specs.Grants.{grant_of}
use Rattle.lock_manager.proofs.Places.{set-place_of, insert-place_of, grants_without-none}
use Rattle.lock_manager.proofs.grants.put.Goals as goal

-- it takes the place of the one that was there
pub returns-in-Ok-clause-ok : goal.returns-in-Ok-clause-ok
returns-in-Ok-clause-ok c =
    let grants = c.args.grants.now.items in
    let found : is_some (grant_of c.args.grant.row.proc c.args.grant.row.uid grants) ≡ true = sym (rw c.deref.ensures.value at c.in-Ok.ensures.found) in
    rw (c.in-Ok.ensures.place, c.deref.ensures.value) (set-place_of c.args.grant grants c.requires found)

-- it goes in where there was none
pub returns-in_ok-insert-in-Err-clause-ok : goal.returns-in_ok-insert-in-Err-clause-ok
returns-in_ok-insert-in-Err-clause-ok c =
    let grants = c.args.grants.now.items in
    let none : is_some (grant_of c.args.grant.row.proc c.args.grant.row.uid grants) ≡ false = sym (rw c.deref.ensures.value at c.in-Err.ensures.found) in
    rw (c.in_ok-insert-in-Err.ensures.items, c.in-Err.ensures.place, c.deref.ensures.value, grants_without-none c.args.grant.row.proc c.args.grant.row.uid grants none) (insert-place_of c.args.grant grants)
