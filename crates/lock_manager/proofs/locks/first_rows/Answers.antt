use Rattle.std.proofs.Common.{◌≡◌, take, length, sym, arith}
use Rattle.std.proofs.Math.Seq.{take-length}
use Rattle.std.proofs.lemmas.List.{take_min, take-map}
use Rattle.uid_names.specs.declared.limits.TheConstants.{LISTED_ROWS}
use Rattle.lock_manager.specs.declared.grants.Grant.{Grant}
use Rattle.lock_manager.proofs.locks.first_rows.Goals as goal

pub returns : goal.returns
returns c =
    let all : c.loop-grant.grant-index ≡ length (take c.min-count.result c.args.grants.now) = omega arith in
    rw (c.loop-grant.invariant, all, take-length, c.min-count.ensures, take_min LISTED_ROWS c.args.grants.now)
    (sym (take-map (λ (g : Grant). g.row) LISTED_ROWS c.args.grants.now))
