use Rattle.mapped_streams.proofs.CopiesServed.{mapped_copy}
use Rattle.mapped_streams.proofs.StoresSound.{answered_sound}
use Rattle.mapped_streams.proofs.laws.copies_hold_what_their_sources_hold.Goals as goal

pub returns : goal.returns
returns c a from to m h done = mapped_copy a.opening a.proc from to m a.deeds (answered_sound a.opening a.deeds a.proc a.answered) h.other h.mapped h.empty h.room done
