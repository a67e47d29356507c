use Rattle.fault_handler.proofs.Replying.{gives-taken}
use Rattle.fault_handler.proofs.desk.Desk.page_taken.Goals as goal

pub access_anew-requires-clause-bytes : goal.access_anew-requires-clause-bytes
access_anew-requires-clause-bytes c = rw (rw c.spare.ensures.unchanged at c.settle_room-task.ensures.task) at c.in_ok-room.ensures

pub returns-clause-outcome : goal.returns-clause-outcome
returns-clause-outcome c =
    gives-taken c.args.self.now c.args.proc.number c.kept.ensures.desk c.kept.ensures.process c.args.transit.uid c.args.transit.page c.requires.access c.requires.going _ c.args.stamp c.access_anew.result
    c.settle_room-task.result (rw c.spare.ensures.unchanged at c.settle_room-task.ensures.task)
    (rw (c.raise.ensures, c.settle_room-task.ensures.settled, c.spare.ensures.unchanged) at c.access_anew.ensures.outcome)
