use Rattle.std.proofs.Common.{refl}
use Rattle.node_plays.specs.Beginners.{IsFresh}
use Rattle.node_plays.proofs.Beginning.{AreBeginners-push}
use Rattle.node_plays.proofs.nodes.add.Goals as goal

pub returns-in_ok-push : goal.returns-in_ok-push
returns-in_ok-push c =
    let new : IsFresh c.in_ok-new.field-0 = rw c.in_ok-new.ensures (record { whole = refl; waits = refl }) in
    rw c.in_ok-push.ensures.items (rw c.number.ensures.value (AreBeginners-push c.args.proc.number c.args.programs.now.items c.in_ok-new.field-0 c.requires.before c.requires.number new))
