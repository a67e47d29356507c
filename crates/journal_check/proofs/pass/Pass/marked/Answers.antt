use Rattle.std.proofs.Common.{Some, None}
use Rattle.journal_check.proofs.Coming.{mark-got}
use Rattle.journal_check.proofs.pass.Pass.marked.Goals as goal

pub returns-in-Some : goal.returns-in-Some
returns-in-Some g c = λ made s w n stands. mark-got g.P.Program.wants g.P.Program.becomes made s c.args.self.now w stands c.args.from c.args.phase (Some c.in-Some.tick) (rw c.deref.ensures.value at c.in-Some.ensures)

pub returns-in-None : goal.returns-in-None
returns-in-None g c = λ made s w n stands. mark-got g.P.Program.wants g.P.Program.becomes made s c.args.self.now w stands c.args.from c.args.phase None (rw c.deref.ensures.value at c.in-None.ensures)
