use Rattle.std.proofs.Common.{◌≡◌, ◌-◌, Some, arith}
use Rattle.fault_handler.specs.Desks.{task_of}
use Rattle.fault_handler.specs.Conditions.{IsAccessing}
use Rattle.fault_handler.specs.Invariant.{IsProc}
use Rattle.fault_handler.specs.Insides.{desk_of}
use Rattle.fault_handler.proofs.TransitKeeps.{IsDesk-with_room_settled, IsIdle-with_room_settled}
use Rattle.fault_handler.proofs.Replying.{open-allowed, seen-going}
use Rattle.fault_handler.proofs.desk.Desk.settle_room.Goals as goal

pub invariant_of-self : goal.invariant_of-self
invariant_of-self c =
    let at : c.index_of-at.result ≡ c.args.proc.number - 1 = omega arith in
    rw (c.ended.ensures.others, at, c.settle.ensures)
    (IsDesk-with_room_settled (desk_of c.self.inside) c.args.proc.number c.self.invariant (omega arith, omega arith) c.args.uid c.args.page c.args.taken (rw (← c.self.view_is) at c.requires.sent))

pub returns-clause-idle : goal.returns-clause-idle
returns-clause-idle c =
    let at : c.index_of-at.result ≡ c.args.proc.number - 1 = omega arith in
    let access : IsAccessing (desk_of c.self.inside) c.args.proc.number = rw (← c.self.view_is) at c.requires.access in
    rw (c.ended.ensures.others, at, c.settle.ensures)
    (IsIdle-with_room_settled (desk_of c.self.inside) c.args.proc.number c.self.invariant (omega arith, omega arith) c.args.uid c.args.page c.args.taken access)

pub returns-clause-allowed : goal.returns-clause-allowed
returns-clause-allowed c =
    let at : c.index_of-at.result ≡ c.args.proc.number - 1 = omega arith in
    let there : task_of (desk_of c.self.inside) c.args.proc.number ≡ Some c.ended.result = rw (← at) c.ended.ensures.task in
    let asked = rw (← c.self.view_is) at c.requires in
    let proc : IsProc c.args.proc.number = (omega arith, omega arith) in
    rw (← c.self.view_is) (open-allowed (desk_of c.self.inside) c.args.proc.number c.self.invariant proc asked.access c.ended.result there)

pub returns-clause-seen : goal.returns-clause-seen
returns-clause-seen c =
    let asked = rw (← c.self.view_is) at c.requires in
    let proc : IsProc c.args.proc.number = (omega arith, omega arith) in
    rw (← c.self.view_is) (seen-going (desk_of c.self.inside) c.args.proc.number c.self.invariant proc c.args.uid c.args.page asked.access asked.sent)
