use Rattle.mapped_streams.proofs.ReadsServed.{lines_counted}
use Rattle.mapped_streams.proofs.StoresSound.{answered_sound}
use Rattle.mapped_streams.proofs.laws.all_lines_are_counted.Goals as goal

pub returns : goal.returns
returns c a u done = lines_counted a.opening a.proc u a.deeds (answered_sound a.opening a.deeds a.proc a.answered) done
