use Rattle.world_runs.proofs.Picking.{one-picked, picked-planned, picked-world}
use Rattle.world_runs.proofs.laws.a_seed_picks_one_run.Goals as goal

pub returns : goal.returns
returns c = record {
  planned = λ s plan seed last setup kept most es is. picked-planned s plan seed last setup most es is kept;
  one = λ s plan seed last es fs a b. one-picked s plan seed last es fs a b;
  leads = λ s plan seed last setup most es is. picked-world s plan seed last setup most es is;
}
