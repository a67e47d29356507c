use Rattle.mapped_streams.proofs.ReadsServed.{read_whole}
use Rattle.mapped_streams.proofs.StoresSound.{answered_sound}
use Rattle.mapped_streams.proofs.laws.objects_are_read_whole.Goals as goal

pub returns : goal.returns
returns c a u done = read_whole a.opening a.proc u a.deeds (answered_sound a.opening a.deeds a.proc a.answered) done
