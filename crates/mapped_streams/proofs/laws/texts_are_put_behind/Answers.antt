use Rattle.mapped_streams.proofs.AppendsServed.{text_put}
use Rattle.mapped_streams.proofs.StoresSound.{answered_sound}
use Rattle.mapped_streams.proofs.laws.texts_are_put_behind.Goals as goal

pub returns : goal.returns
returns c a u text fits done = text_put a.opening a.proc u text a.deeds (answered_sound a.opening a.deeds a.proc a.answered) fits done
