use Rattle.dom_history.proofs.Fits.{reply_of-faultless}
use Rattle.dom_history.proofs.laws.replies_have_no_fault.Goals as goal

pub returns : goal.returns
returns c = reply_of-faultless
