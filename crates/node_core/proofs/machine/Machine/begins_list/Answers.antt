use Rattle.std.proofs.Common.{sym, subst, refl, ◌∙◌, false, List, [], ℕ}
use Rattle.std.proofs.lemmas.Result.{IfOk-weaker}
use Rattle.uid_names.specs.Names.{ObjectName}
use Rattle.dom_history.specs.declared.op.Reply.TheVariants.{Locks}
use Rattle.uid_names.specs.Wires.{wire_room}
use Rattle.ring_messages.specs.Bodies.{Ask, body_of_ask}
use Rattle.ring_messages.specs.Ranges.{LiesWithin}
use Rattle.fault_handler.specs.Outcomes.{Turn, ended}
use Rattle.fault_handler.specs.Accesses.{Accessed}
use Rattle.node_runs.specs.Operations.{list_by, asking_home}
use Rattle.node_core.specs.Outcomes.{Turns, Moves}
use Rattle.uid_names.specs.Openings.{Start}
use Rattle.dom_history.specs.declared.op.Op.{Op}
use Rattle.dom_history.specs.declared.op.Op.TheVariants as ops
use Rattle.node_runs.specs.Operations.{begun as begun_as}
use Rattle.node_core.specs.Processes.{want_at}
use Rattle.node_core.proofs.Turning.{do-same, moves-settled}
use Rattle.uid_names.specs.declared.lock_row.LockRow.{LockRow}
use Rattle.node_core.proofs.machine.Machine.begins_list.Goals as goal

pub asks-requires-clause-within : goal.asks-requires-clause-within
asks-requires-clause-within g c = subst (λ (ask : Ask). LiesWithin (wire_room c.args.self.now.server.wire) (body_of_ask ask)) (sym c.from_body-request.ensures) tt

pub returns-then-is_node : goal.returns-then-is_node
returns-then-is_node g c =
    let m = c.args.self.now in
    let p = c.args.proc.number in
    let opening : Start = record { nodes = m.desk.nodes; greatest = m.greatest; objects = [] } in
    IfOk-weaker c.asks.result _ _
    (λ ok turns op wanted. subst (λ (o : Op). Moves g.P.Program.spent g.P.Program.wants g.P.Program.becomes m c.asks.new.self c.asks.new.done p c.args.begun (begun_as opening m.desk p o)) (do-same (want_at m.procs p) (ops.List c.args.home c.args.after) op c.requires.wanted wanted)
    (subst (λ b. Moves g.P.Program.spent g.P.Program.wants g.P.Program.becomes m c.asks.new.self c.asks.new.done p c.args.begun (Accessed.Settled (list_by m.desk c.args.home c.args.after b)))
    (sym c.if-is_node.true ∙ c.is_node.ensures)
    (moves-settled g.P.Program.spent g.P.Program.wants g.P.Program.becomes m c.asks.new.self c.asks.new.done p c.args.begun m.desk (asking_home m.desk c.args.home (Ask.ListLocks c.args.after)) refl refl
    (subst (λ (ask : Ask). Turns g.P.Program.spent g.P.Program.wants g.P.Program.becomes m c.asks.new.self c.asks.new.done p c.args.begun (Turn.Asks c.args.home ask) []) c.from_body-request.ensures
    (subst (λ (ds : List (ObjectName × ℕ)). Turns g.P.Program.spent g.P.Program.wants g.P.Program.becomes m c.asks.new.self c.asks.new.done p c.args.begun (Turn.Asks c.args.home c.from_body-request.result) ds) c.new.ensures turns)))))
    c.asks.ensures

pub returns : goal.returns
returns g c =
    let m = c.args.self.now in
    let p = c.args.proc.number in
    let opening : Start = record { nodes = m.desk.nodes; greatest = m.greatest; objects = [] } in
    IfOk-weaker c.ends.result _ _
    (λ ok turns op wanted. subst (λ (o : Op). Moves g.P.Program.spent g.P.Program.wants g.P.Program.becomes m c.ends.new.self c.ends.new.done p c.args.begun (begun_as opening m.desk p o)) (do-same (want_at m.procs p) (ops.List c.args.home c.args.after) op c.requires.wanted wanted)
    (subst (λ b. Moves g.P.Program.spent g.P.Program.wants g.P.Program.becomes m c.ends.new.self c.ends.new.done p c.args.begun (Accessed.Settled (list_by m.desk c.args.home c.args.after b)))
    (sym c.if-is_node.false ∙ c.is_node.ensures)
    (moves-settled g.P.Program.spent g.P.Program.wants g.P.Program.becomes m c.ends.new.self c.ends.new.done p c.args.begun m.desk (ended m.desk (Locks [] false)) refl refl
    (subst (λ (rows : List LockRow). Turns g.P.Program.spent g.P.Program.wants g.P.Program.becomes m c.ends.new.self c.ends.new.done p c.args.begun (Turn.Ends (Locks rows false)) []) c.new-2.ensures
    (subst (λ (ds : List (ObjectName × ℕ)). Turns g.P.Program.spent g.P.Program.wants g.P.Program.becomes m c.ends.new.self c.ends.new.done p c.args.begun (Turn.Ends (Locks c.new-2.result false)) ds) c.new-3.ensures (turns c.args.begun))))))
    c.ends.ensures
