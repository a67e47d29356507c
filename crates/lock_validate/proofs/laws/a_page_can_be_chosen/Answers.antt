use Rattle.fault_handler.proofs.Choice.{victim-there, named-there}
use Rattle.lock_validate.proofs.Leaving.{comes_of-finds}
use Rattle.lock_validate.proofs.laws.a_page_can_be_chosen.Goals as goal

pub returns : goal.returns
returns c = record {
  there = λ d p is proc none full. named-there d (victim-there d p is proc none full);
  found = comes_of-finds;
}
