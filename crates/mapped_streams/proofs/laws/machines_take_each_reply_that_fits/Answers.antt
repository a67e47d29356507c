use Rattle.naming_tree.proofs.Standing.{ready_next}
use Rattle.mapped_streams.proofs.laws.machines_take_each_reply_that_fits.Goals as goal

pub returns : goal.returns
returns c m last op reply e fits = ready_next m last op reply e fits
