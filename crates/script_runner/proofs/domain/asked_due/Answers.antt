use Rattle.std.proofs.Common.{refl, sym, subst}
use Rattle.std.specs.Prelude.{IfOk}
use Rattle.script_runner.specs.Outside.{from_to, over}
use Rattle.script_runner.specs.Domain.{LimitFor}
use Rattle.script_runner.specs.DueTexts.{IsDueFor, IsRead, IsUnread}
use Rattle.script_runner.proofs.domain.asked_due.Goals as goal

pub returns-in-Reads-clause-due : goal.returns-in-Reads-clause-due
returns-in-Reads-clause-due g c =
    subst (λ asked. IfOk c.read_due.result (IsDueFor asked (from_to (g.S.Source.left c.args.script.now) (g.S.Source.left c.read_due.new.script)))) (sym c.in-Reads.is) c.read_due.ensures.due

pub returns-in-Reads-clause-read : goal.returns-in-Reads-clause-read
returns-in-Reads-clause-read g c = λ _. subst IsRead (sym c.in-Reads.is) tt

pub returns-in-Reads-clause-limit : goal.returns-in-Reads-clause-limit
returns-in-Reads-clause-limit g c = λ is.
    subst (λ asked. LimitFor asked (from_to (g.S.Source.left c.args.script.now) (g.S.Source.left c.read_due.new.script))) (sym c.in-Reads.is) (c.read_due.ensures.limit is)

pub returns-in-Reads-clause-unread : goal.returns-in-Reads-clause-unread
returns-in-Reads-clause-unread g c =
    let script = over g.S.Source.left g.S.Source.faults c.args.script.now c.read_due.new.script in
    subst (λ asked. IsUnread asked script) (sym c.in-Reads.is) tt

pub returns-in-Generates-clause-due : goal.returns-in-Generates-clause-due
returns-in-Generates-clause-due g c =
    let left = from_to (g.S.Source.left c.args.script.now) (g.S.Source.left c.args.script.now) in
    subst (λ asked. IfOk c.generated_due.result (IsDueFor asked (from_to (g.S.Source.left c.args.script.now) (g.S.Source.left c.args.script.now)))) (sym c.in-Generates.is) (c.generated_due.ensures.due left)

pub returns-in-Generates-clause-limit : goal.returns-in-Generates-clause-limit
returns-in-Generates-clause-limit g c = λ is.
    let left = from_to (g.S.Source.left c.args.script.now) (g.S.Source.left c.args.script.now) in
    subst (λ asked. LimitFor asked (from_to (g.S.Source.left c.args.script.now) (g.S.Source.left c.args.script.now))) (sym c.in-Generates.is) (c.generated_due.ensures.limit left is)

pub returns-in-Generates-clause-unread : goal.returns-in-Generates-clause-unread
returns-in-Generates-clause-unread g c =
    let script = over g.S.Source.left g.S.Source.faults c.args.script.now c.args.script.now in
    subst (λ asked. IsUnread asked script) (sym c.in-Generates.is) refl
