use Rattle.std.proofs.Common.{ap, ◌∙◌}
use Rattle.std.proofs.lemmas.Result.{IfOk-weaker}
use Rattle.uid_names.specs.Steps.{◌>>=◌}
use Rattle.dom_history.specs.declared.op.Reply.TheVariants.{Made, NoSpace}
use Rattle.ring_messages.specs.Bodies.{answer_of}
use Rattle.node_runs.specs.Operations.{said_to_new}
use Rattle.node_core.specs.Processes.{want_at}
use Rattle.node_core.proofs.Hearing.{new-said, new-told, heard-replied, heard-nothing}
use Rattle.node_core.proofs.machine.Machine.hears_made.Goals as goal

pub returns-in-Made : goal.returns-in-Made
returns-in-Made g c =
    let old = c.args.self.now in
    let p = c.args.proc.number in
    IfOk-weaker c.ends.result _ _ (λ ok turns. heard-replied g.P.Program.spent g.P.Program.wants g.P.Program.becomes old p c.args.body.now c.ends.new.self c.ends.new.done (Made c.in-Made.uid) c.new-dropped.result turns c.new-dropped.ensures
    (λ op want. new-said old.desk p op c.args.body.now (want_at old.procs p) c.requires.wanted want ∙ ap (λ b. answer_of b >>= said_to_new) c.in-Made.is) c.args.begun) c.ends.ensures

pub returns-in-NoSpace : goal.returns-in-NoSpace
returns-in-NoSpace g c =
    let old = c.args.self.now in
    let p = c.args.proc.number in
    IfOk-weaker c.ends-in-NoSpace.result _ _ (λ ok turns. heard-replied g.P.Program.spent g.P.Program.wants g.P.Program.becomes old p c.args.body.now c.ends-in-NoSpace.new.self c.ends-in-NoSpace.new.done NoSpace c.new-dropped.result turns c.new-dropped.ensures
    (λ op want. new-said old.desk p op c.args.body.now (want_at old.procs p) c.requires.wanted want ∙ ap (λ b. answer_of b >>= said_to_new) c.in-NoSpace.is) c.args.begun) c.ends-in-NoSpace.ensures

pub returns-in_default : goal.returns-in_default
returns-in_default g c =
    let old = c.args.self.now in
    let p = c.args.proc.number in
    heard-nothing g.P.Program.spent g.P.Program.wants g.P.Program.becomes old p c.args.body.now c.quiet.new.done c.new-dropped.result c.requires.at c.quiet.ensures c.new-dropped.ensures
    (λ op want. new-said old.desk p op c.args.body.now (want_at old.procs p) c.requires.wanted want ∙ new-told c.args.body.now c.in_default.not-Made c.in_default.not-NoSpace) c.args.begun
