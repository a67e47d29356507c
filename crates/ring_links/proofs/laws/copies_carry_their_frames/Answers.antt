use Rattle.ring_links.proofs.Carrying.{frame-carried, mark-carried, less-carried}
use Rattle.ring_links.proofs.laws.copies_carry_their_frames.Goals as goal

pub returns : goal.returns
returns g c = record { frame = frame-carried; mark = mark-carried; less = less-carried }
