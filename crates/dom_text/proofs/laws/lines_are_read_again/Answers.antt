use Rattle.dom_text.proofs.Again.{line_again, quoted_again}
use Rattle.dom_text.proofs.laws.lines_are_read_again.Goals as goal

pub returns : goal.returns
returns c = record { text = quoted_again; line = line_again }
