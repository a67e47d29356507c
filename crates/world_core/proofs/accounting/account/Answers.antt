use Rattle.run_laws.proofs.Accounted.{accounts-same}
use Rattle.world_core.proofs.accounting.account.Goals as goal

pub returns-clause-of_a_run : goal.returns-clause-of_a_run
returns-clause-of_a_run c =
    accounts-same c.args.plan.now c.args.events.now _ _ _ _ _ _ c.counted.ensures.link_faults c.counted.ensures.notices c.counted.ensures.marked
    (c.an_account_is_of_its_run.ensures c.args.plan.now c.args.events.now)
