use Rattle.std.proofs.Common.{IfOk, sym, subst}
use Rattle.dom_history.specs.declared.event.What.{What}
use Rattle.journal_check.specs.Passes.{IsReceived}
use Rattle.journal_check.proofs.pass.Pass.received.Goals as goal

pub returns-in-Take : goal.returns-in-Take
returns-in-Take g c = λ made s w stands. subst (λ (x : What). IfOk c.took.result (IsReceived w c.args.node x)) (sym c.in-Take.is) (c.took.ensures made s w stands)

pub returns-in-Notice : goal.returns-in-Notice
returns-in-Notice g c = λ made s w stands. subst (λ (x : What). IsReceived w c.args.node x c.heard.result) (sym c.in-Notice.is) (c.heard.ensures made s w stands)

pub returns-in-Mark : goal.returns-in-Mark
returns-in-Mark g c = λ made s w stands. subst (λ (x : What). IsReceived w c.args.node x c.marked.result) (sym c.in-Mark.is) (c.marked.ensures made s w c.args.node stands)
