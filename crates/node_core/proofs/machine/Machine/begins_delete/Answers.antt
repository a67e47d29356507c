use Rattle.std.proofs.Common.{IsSome, [], sym, subst, refl, arith}
use Rattle.std.proofs.lemmas.Result.{IfOk-weaker}
use Rattle.lock_validate.specs.Releases.{begin_delete_of}
use Rattle.fault_handler.specs.Next.{FitsTurn}
use Rattle.uid_names.specs.Openings.{Start}
use Rattle.dom_history.specs.declared.op.Op.{Op}
use Rattle.dom_history.specs.declared.op.Op.TheVariants as ops
use Rattle.node_runs.specs.Operations.{begun as begun_as}
use Rattle.uid_names.specs.Wires.{wire_room}
use Rattle.node_runs.proofs.Keeping.{begun-within}
use Rattle.node_core.specs.DeskMoves.{move_seen}
use Rattle.node_core.specs.Processes.{want_at}
use Rattle.node_core.specs.Outcomes.{Moves}
use Rattle.node_core.proofs.Bounding.{step-within}
use Rattle.node_core.proofs.Turning.{do-same, step-seen, moves-stepped}
use Rattle.node_core.proofs.machine.Machine.begins_delete.Goals as goal

pub of_step-requires : goal.of_step-requires
of_step-requires g c =
    subst (λ o. IsSome o) (sym (step-seen c.begin_delete.new.desk (begin_delete_of c.args.self.now.desk c.args.proc.number c.args.uid) c.in_ok-step.step c.in_ok-step.ensures.outcome)) refl

pub moves-requires-clause-fits : goal.moves-requires-clause-fits
moves-requires-clause-fits g c op wanted =
    subst (λ (o : Op). FitsTurn o (move_seen c.of_step.result).turn) (do-same (want_at c.args.self.now.procs c.args.proc.number) (ops.Delete c.args.uid) op c.requires.wanted wanted)
    (c.in_ok-step.ensures.fits (move_seen c.of_step.result) c.of_step.ensures)

pub moves-requires-clause-asks : goal.moves-requires-clause-asks
moves-requires-clause-asks g c = c.in_ok-step.ensures.asks (move_seen c.of_step.result) c.of_step.ensures

pub moves-requires-clause-within : goal.moves-requires-clause-within
moves-requires-clause-within g c =
    let m = c.args.self.now in
    let room = wire_room m.server.wire in
    let nothing : Start = record { nodes = 0; greatest = 0; objects = [] } in
    step-within room c.begin_delete.new.desk (begin_delete_of c.args.self.now.desk c.args.proc.number c.args.uid) c.in_ok-step.step (move_seen c.of_step.result)
    (begun-within room m.desk c.args.proc.number c.requires.desk c.requires.process c.requires.low nothing (ops.Delete c.args.uid) (omega arith) c.requires.idle c.requires.range)
    c.in_ok-step.ensures.outcome c.of_step.ensures

pub returns : goal.returns
returns g c =
    let m = c.args.self.now in
    let p = c.args.proc.number in
    let opening : Start = record { nodes = m.desk.nodes; greatest = m.greatest; objects = [] } in
    IfOk-weaker c.moves.result _ _
    (λ ok turns op wanted. subst (λ (o : Op). Moves g.P.Program.spent g.P.Program.wants g.P.Program.becomes m c.moves.new.self c.moves.new.done p c.args.begun (begun_as opening m.desk p o)) (do-same (want_at m.procs p) (ops.Delete c.args.uid) op c.requires.wanted wanted)
    (moves-stepped g.P.Program.spent g.P.Program.wants g.P.Program.becomes c.args.self.now c.moves.new.self c.moves.new.done c.args.proc.number c.args.begun
    c.begin_delete.new.desk (begin_delete_of c.args.self.now.desk c.args.proc.number c.args.uid) c.in_ok-step.step (move_seen c.of_step.result) c.in_ok-step.ensures.outcome c.of_step.ensures c.in_ok-step.ensures.node turns))
    c.moves.ensures
