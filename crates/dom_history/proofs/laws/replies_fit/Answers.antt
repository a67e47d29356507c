use Rattle.dom_history.proofs.Fits.{reply_of-fits}
use Rattle.dom_history.proofs.Bounds.{answered-fits}
use Rattle.dom_history.proofs.laws.replies_fit.Goals as goal

pub returns-clause-anywhere : goal.returns-clause-anywhere
returns-clause-anywhere c = reply_of-fits

pub returns-clause-after_answers : goal.returns-clause-after_answers
returns-clause-after_answers c = λ opening past is. answered-fits opening is.start past is.answered is.ranges
