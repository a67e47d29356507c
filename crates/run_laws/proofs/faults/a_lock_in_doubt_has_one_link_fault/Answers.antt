use Rattle.std.proofs.Common.{refl}
use Rattle.run_laws.proofs.faults.a_lock_in_doubt_has_one_link_fault.Goals as goal

pub returns : goal.returns
returns c = record { entries = refl; events = refl; told = refl; frames = refl }
