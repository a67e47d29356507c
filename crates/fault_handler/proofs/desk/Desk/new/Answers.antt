use Rattle.fault_handler.proofs.LockKeeps.{IsDesk-empty_desk}
use Rattle.fault_handler.proofs.desk.Desk.new.Goals as goal

pub invariant_of-result : goal.invariant_of-result
invariant_of-result c =
    rw (
      c.in_ok-pages.ensures,
      c.new-2.ensures,
      c.new-3.ensures,
      c.in_ok-entries.ensures,
      c.in_ok-maps.ensures,
    ) (IsDesk-empty_desk c.args.node c.args.nodes c.args.frames c.requires.frames_low)
