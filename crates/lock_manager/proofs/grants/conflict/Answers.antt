use Rattle.std.proofs.Common.{◌≡◌, ◌∙◌, ℕ, ◌<◌, Bool, true, List, drop, length, get_or, refl, sym, ap, drop-cons}
use Rattle.std.specs.Prelude.{find, filter, Option, Some, None}
use Rattle.std.proofs.Math.ListN.{drop_of_length-le}
use Rattle.uid_names.specs.Names.{ProcName, ObjectName}
use Rattle.uid_names.specs.declared.mode.Mode.{Mode}
use Rattle.lock_manager.specs.declared.grants.Grant.{Grant}
use Rattle.uid_names.specs.Rows.{conflicts}
use Rattle.lock_manager.specs.Grants.{is_on, holder_in, conflict_of}
use Rattle.uid_names.proofs.Finds.{find-and}
use Rattle.lock_manager.proofs.grants.conflict.Goals as goal

-- what is found among the grants on u is what is found among all
found_on : (p : ProcName) (u : ObjectName) (m : Mode) (grants on : List Grant) (found : Option Grant) → on ≡ filter (is_on u) grants → find (λ g. conflicts p m g.row) on ≡ found → holder_in found ≡ conflict_of p u m grants
found_on p u m grants on found e f = rw (← f, e) (ap holder_in (sym (find-and (is_on u) (λ g. conflicts p m g.row) grants)))

-- the first of the grants from i on is found, where it passes
found_at : (test : Grant → Bool) (grants : List Grant) (i : ℕ) (g : Grant) → find test (drop i grants) ≡ find test grants → i < length grants → g ≡ get_or grants i g → test g ≡ true → find test grants ≡ Some g
found_at test grants i g before below read passes = sym before ∙ rw (drop-cons grants i g below, ← read, passes) refl

pub returns-then-conflicts : goal.returns-then-conflicts
returns-then-conflicts c =
    let item = c.grant-item.result in
    let passes : conflicts c.args.proc c.args.mode item.row ≡ true = sym c.if-conflicts.ensures in
    found_on c.args.proc c.args.uid c.args.mode c.args.grants.now c.on_object-grant-items.result.now (Some item) c.on_object-grant-items.ensures
    (found_at (λ g. conflicts c.args.proc c.args.mode g.row) c.on_object-grant-items.result.now c.loop-grant.grant-index item c.loop-grant.invariant c.loop-grant-test.true c.grant-item.is passes)

pub returns : goal.returns
returns c =
    found_on c.args.proc c.args.uid c.args.mode c.args.grants.now c.on_object-grant-items.result.now None c.on_object-grant-items.ensures
    (sym c.loop-grant.invariant ∙ rw (drop_of_length-le c.on_object-grant-items.result.now c.loop-grant-test.false) refl)
