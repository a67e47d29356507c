use Rattle.lane_charts.proofs.Lines.{next_line, next_names, text_ends}
use Rattle.lane_charts.proofs.laws.texts_in_pictures_do_not_meet.Goals as goal

pub returns-clause-rows : goal.returns-clause-rows
returns-clause-rows c = next_line

pub returns-clause-names : goal.returns-clause-names
returns-clause-names c = next_names

pub returns-clause-width : goal.returns-clause-width
returns-clause-width c = text_ends
