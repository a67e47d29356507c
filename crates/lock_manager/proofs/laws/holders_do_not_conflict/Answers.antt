use Rattle.lock_manager.proofs.Conflicts.{holders-compatible}
use Rattle.lock_manager.proofs.laws.holders_do_not_conflict.Goals as goal

pub returns : goal.returns
returns c = λ table p q u a b kept. holders-compatible p q u table.grants a b kept.compatible
