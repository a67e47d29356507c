use Rattle.run_laws.proofs.Placing.{ends-placed}
use Rattle.run_laws.proofs.Rising.{notes-rise}
use Rattle.run_laws.proofs.calls.entries_stand_within_their_operations.Goals as goal

pub returns : goal.returns
returns c = record { ends = ends-placed; rising = λ s cs w e. (notes-rise s cs w e).rising }
