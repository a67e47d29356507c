use Rattle.version_stamps.proofs.LookUps.{stamp_of-with_stamp, stamp_of-without_stamp}
use Rattle.version_stamps.proofs.laws.changes_leave_the_others.Goals as goal

pub returns-clause-set : goal.returns-clause-set
returns-clause-set c = stamp_of-with_stamp

pub returns-clause-forgotten : goal.returns-clause-forgotten
returns-clause-forgotten c = stamp_of-without_stamp
