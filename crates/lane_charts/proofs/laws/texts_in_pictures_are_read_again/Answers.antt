use Rattle.lane_charts.proofs.Again.{escaped_again, escaped_is_plain}
use Rattle.lane_charts.proofs.laws.texts_in_pictures_are_read_again.Goals as goal

pub returns-clause-plain : goal.returns-clause-plain
returns-clause-plain c = escaped_is_plain

pub returns-clause-again : goal.returns-clause-again
returns-clause-again c = escaped_again
