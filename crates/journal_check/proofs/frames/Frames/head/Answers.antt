use Rattle.std.proofs.Common.{◌-◌, sym, subst, arith}
use Rattle.journal_check.specs.Kept.{IsHead}
use Rattle.journal_check.proofs.Heads.{head-first, head-past, head-read}
use Rattle.journal_check.proofs.frames.Frames.head.Goals as goal

pub returns-then-index-eq0-clause-value : goal.returns-then-index-eq0-clause-value
returns-then-index-eq0-clause-value c = sym (head-first c.args.index c.args.self.now.heads c.if-index-eq0.true)

pub returns-then-index-len-clause-value : goal.returns-then-index-len-clause-value
returns-then-index-len-clause-value c = rw (← c.self.view_is) (sym (head-past c.args.index c.self.inside.heads.items (omega arith)))

pub returns-clause-value : goal.returns-clause-value
returns-clause-value c = rw (← c.self.view_is) (sym (head-read c.args.index c.self.inside.heads.items c.index.result.now (omega arith) (omega arith) c.index.ensures))

pub returns-clause-head : goal.returns-clause-head
returns-clause-head c = subst IsHead (sym c.index.ensures) (c.self.invariant (c.args.index - 1) c.index.result.now (omega arith))
