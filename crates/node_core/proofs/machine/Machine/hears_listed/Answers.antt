use Rattle.std.proofs.Common.{List, Some, ap, sym, ◌∙◌}
use Rattle.std.proofs.lemmas.Result.{IfOk-weaker}
use Rattle.uid_names.specs.Steps.{◌>>=◌}
use Rattle.uid_names.specs.declared.lock_row.LockRow.{LockRow}
use Rattle.dom_history.specs.declared.op.Reply.TheVariants.{Locks}
use Rattle.ring_messages.specs.Bodies.{answer_of}
use Rattle.node_runs.specs.Operations.{Said, said_to_list}
use Rattle.node_core.specs.Processes.{want_at}
use Rattle.node_core.proofs.Hearing.{list-said, list-told, heard-replied, heard-nothing}
use Rattle.node_core.proofs.machine.Machine.hears_listed.Goals as goal

pub returns-in_ok-rows-in-Listed : goal.returns-in_ok-rows-in-Listed
returns-in_ok-rows-in-Listed g c =
    let old = c.args.self.now in
    let p = c.args.proc.number in
    IfOk-weaker c.ends.result _ _ (λ ok turns. heard-replied g.P.Program.spent g.P.Program.wants g.P.Program.becomes old p c.args.body.now c.ends.new.self c.ends.new.done (Locks c.in_ok-rows-in-Listed.rows c.in-Listed.more) c.new-dropped.result turns c.new-dropped.ensures
    (λ op want. list-said old.desk p op c.args.body.now (want_at old.procs p) c.requires.wanted want ∙ ap (λ b. answer_of b >>= said_to_list) c.in-Listed.is
    ∙ ap (λ (rows : List LockRow). Some (Said.Replies (Locks rows c.in-Listed.more))) (sym c.in_ok-rows-in-Listed.ensures)) c.args.begun) c.ends.ensures

pub returns-in_default : goal.returns-in_default
returns-in_default g c =
    let old = c.args.self.now in
    let p = c.args.proc.number in
    heard-nothing g.P.Program.spent g.P.Program.wants g.P.Program.becomes old p c.args.body.now c.quiet.new.done c.new-dropped.result c.requires.at c.quiet.ensures c.new-dropped.ensures
    (λ op want. list-said old.desk p op c.args.body.now (want_at old.procs p) c.requires.wanted want ∙ list-told c.args.body.now c.in_default.not-Listed) c.args.begun
