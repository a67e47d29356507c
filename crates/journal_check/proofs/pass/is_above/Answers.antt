use Rattle.std.proofs.Common.{sym, ◌∙◌}
use Rattle.journal_check.proofs.Coming.{above-none, above-some}
use Rattle.journal_check.proofs.pass.is_above.Goals as goal

pub returns-in-None : goal.returns-in-None
returns-in-None c = λ es is. above-none c.args.place es (sym c.in-None.is ∙ is)

pub returns-in-Some : goal.returns-in-Some
returns-in-Some c = λ es is. c.is_before.ensures ∙ above-some c.in-Some.before c.args.place es (sym c.in-Some.is ∙ is)
