use Rattle.fault_handler.proofs.Fours.{first}
use Rattle.fault_handler.proofs.TransitKeeps.{dirty-writes}
use Rattle.lock_validate.proofs.laws.what_is_changed_has_a_writer.Goals as goal

pub returns : goal.returns
returns c = record { page = λ d u k is. dirty-writes d 1 is first u k; length = λ d u is. is.lengths u }
