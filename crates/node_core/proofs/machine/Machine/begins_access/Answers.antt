use Rattle.std.proofs.Common.{[], sym, subst, refl, arith}
use Rattle.std.proofs.lemmas.Result.{IfOk-weaker}
use Rattle.uid_names.specs.Openings.{Start}
use Rattle.uid_names.proofs.Somes.{there_is}
use Rattle.uid_names.specs.Wires.{wire_room}
use Rattle.lock_validate.specs.Bounded.{StaysWithin}
use Rattle.fault_handler.specs.Accesses.{Accessed, Always, desk_op, access_of}
use Rattle.fault_handler.proofs.Outcomes.{Holds}
use Rattle.node_runs.proofs.Keeping.{IsMoved, begun-moved, begun-within}
use Rattle.node_core.specs.DeskMoves.{move_seen}
use Rattle.node_core.specs.Processes.{IsWanted, want_at}
use Rattle.node_core.specs.Outcomes.{Moves}
use Rattle.node_core.proofs.Bounding.{access-within}
use Rattle.node_core.proofs.Turning.{wanted-op, begun-desk, comes-seen, moves-accessed}
use Rattle.node_core.proofs.machine.Machine.begins_access.Goals as goal

pub of_access-requires : goal.of_access-requires
of_access-requires g c =
    let m = c.args.self.now in
    let p = c.args.proc.number in
    let wanted = wanted-op (want_at m.procs p) c.requires.wanted in
    let op = wanted.0 in
    let some = there_is (desk_op op) (c.requires.access op wanted.1) in
    let o = some.0 in
    let opening : Start = record { nodes = m.desk.nodes; greatest = m.greatest; objects = [] } in
    let holds = subst (λ (a : Accessed). Holds p (IsMoved m.desk p op) a) (begun-desk opening m.desk p op o some.1)
    (begun-moved m.desk p c.requires.desk c.in_ok-access.ensures.process opening op refl c.requires.idle (subst IsWanted wanted.1 c.requires.wanted)) in
    comes-seen m.desk p op c.access_wanted.new.desk (access_of m.desk p o) c.in_ok-access.access holds (c.in_ok-access.ensures.outcome op wanted.1 o some.1)

pub moves-requires-clause-fits : goal.moves-requires-clause-fits
moves-requires-clause-fits g c op wanted = c.in_ok-access.ensures.fits op wanted (move_seen c.of_access.result) c.of_access.ensures

pub moves-requires-clause-asks : goal.moves-requires-clause-asks
moves-requires-clause-asks g c = c.in_ok-access.ensures.asks (move_seen c.of_access.result) c.of_access.ensures

pub moves-requires-clause-within : goal.moves-requires-clause-within
moves-requires-clause-within g c =
    let m = c.args.self.now in
    let p = c.args.proc.number in
    let room = wire_room m.server.wire in
    let wanted = wanted-op (want_at m.procs p) c.requires.wanted in
    let op = wanted.0 in
    let some = there_is (desk_op op) (c.requires.access op wanted.1) in
    let o = some.0 in
    let opening : Start = record { nodes = m.desk.nodes; greatest = m.greatest; objects = [] } in
    let nothing : Start = record { nodes = 0; greatest = 0; objects = [] } in
    let range = subst IsWanted wanted.1 c.requires.wanted in
    let holds = subst (λ (a : Accessed). Holds p (IsMoved m.desk p op) a) (begun-desk opening m.desk p op o some.1)
    (begun-moved m.desk p c.requires.desk c.in_ok-access.ensures.process opening op refl c.requires.idle range) in
    let low = subst (λ (a : Accessed). Always p (StaysWithin room) a) (begun-desk nothing m.desk p op o some.1)
    (begun-within room m.desk p c.requires.desk c.in_ok-access.ensures.process c.requires.low nothing op (omega arith) c.requires.idle range) in
    access-within room m.desk p op c.access_wanted.new.desk (access_of m.desk p o) c.in_ok-access.access (move_seen c.of_access.result) holds low (c.in_ok-access.ensures.outcome op wanted.1 o some.1) c.of_access.ensures

pub returns : goal.returns
returns g c =
    let m = c.args.self.now in
    let p = c.args.proc.number in
    let opening : Start = record { nodes = m.desk.nodes; greatest = m.greatest; objects = [] } in
    IfOk-weaker c.moves.result _ _
    (λ ok turns op wanted.
    let some = there_is (desk_op op) (c.requires.access op wanted) in
    subst (λ (a : Accessed). Moves g.P.Program.spent g.P.Program.wants g.P.Program.becomes m c.moves.new.self c.moves.new.done p c.args.begun a) (sym (begun-desk opening m.desk p op some.0 some.1))
    (moves-accessed g.P.Program.spent g.P.Program.wants g.P.Program.becomes m c.moves.new.self c.moves.new.done p c.args.begun
    c.access_wanted.new.desk (access_of m.desk p some.0) c.in_ok-access.access (move_seen c.of_access.result) (c.in_ok-access.ensures.outcome op wanted some.0 some.1) c.of_access.ensures c.in_ok-access.ensures.node turns))
    c.moves.ensures
