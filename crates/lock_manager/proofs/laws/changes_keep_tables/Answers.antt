use Rattle.lock_manager.proofs.Keeps.{IsTable-none, IsTable-with_grant, IsTable-without_grant, IsTable-without_grants_on}
use Rattle.lock_manager.proofs.laws.changes_keep_tables.Goals as goal

pub returns : goal.returns
returns c = record { start = IsTable-none; granted = IsTable-with_grant; released = IsTable-without_grant; dropped = IsTable-without_grants_on }
