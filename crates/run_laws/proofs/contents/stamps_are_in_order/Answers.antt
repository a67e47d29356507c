use Rattle.run_laws.proofs.Stamping.{stamped-are}
use Rattle.run_laws.proofs.contents.stamps_are_in_order.Goals as goal

pub returns : goal.returns
returns c = stamped-are
