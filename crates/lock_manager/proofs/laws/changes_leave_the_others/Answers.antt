use Rattle.std.proofs.Common.{◌+◌}
use Rattle.lock_manager.proofs.LookUps.{grant_of-with, grant_of-without, grant_of-without_object}
use Rattle.lock_manager.proofs.laws.changes_leave_the_others.Goals as goal

pub returns : goal.returns
returns c = record {
  granted = λ row table p u. grant_of-with p u (record { row = row; number = table.last + 1 }) table.grants;
  released = λ q v table p u. grant_of-without p q u v table.grants;
  dropped = λ v table p u. grant_of-without_object p u v table.grants;
}
