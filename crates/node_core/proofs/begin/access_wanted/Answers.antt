use Rattle.std.proofs.Common.{◌<◌, sym, subst}
use Rattle.std.proofs.lemmas.Result.{IfOk-weaker}
use Rattle.dom_history.specs.declared.op.Want.TheVariants.{Do}
use Rattle.node_core.proofs.Seen.{want-here}
use Rattle.node_core.proofs.begin.access_wanted.Goals as goal

pub returns-clause-outcome : goal.returns-clause-outcome
returns-clause-outcome c = IfOk-weaker c.access.result _ _
    (λ access h op wanted. h op (want-here c.args.procs.now c.index_of-at.result c.args.proc.number c.index-procs-at.result (Do op) c.index_of-at.ensures.value (subst (λ n. c.index_of-at.result < n) (sym c.requires.four) c.index_of-at.ensures.bound) wanted))
    c.access.ensures.outcome

pub returns-clause-fits : goal.returns-clause-fits
returns-clause-fits c = IfOk-weaker c.access.result _ _
    (λ access h op wanted. h op (want-here c.args.procs.now c.index_of-at.result c.args.proc.number c.index-procs-at.result (Do op) c.index_of-at.ensures.value (subst (λ n. c.index_of-at.result < n) (sym c.requires.four) c.index_of-at.ensures.bound) wanted))
    c.access.ensures.fits
