use Rattle.read_laws.proofs.Staying.{stays-while-read}
use Rattle.read_laws.proofs.histories.what_is_read_nobody_writes_meanwhile.Goals as goal

pub returns : goal.returns
returns c = λ opening h legal closed. stays-while-read opening h legal closed
