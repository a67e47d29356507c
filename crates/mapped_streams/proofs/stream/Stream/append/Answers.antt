use Rattle.mapped_streams.proofs.Beginnings.{append_made, append_begins}
use Rattle.mapped_streams.proofs.stream.Stream.append.Goals as goal

pub returns-clause-made : goal.returns-clause-made
returns-clause-made c = append_made c.args.uid c.new.result c.in_ok-text.text c.args.text.now c.new.ensures c.in_ok-text.ensures

pub returns-clause-left : goal.returns-clause-left
returns-clause-left c = append_begins c.args.uid c.new.result c.in_ok-text.text c.args.text.now c.new.ensures c.in_ok-text.ensures
