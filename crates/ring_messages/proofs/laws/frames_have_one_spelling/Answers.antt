use Rattle.ring_messages.proofs.Frames.{one-frame, no-prefix}
use Rattle.ring_messages.proofs.laws.frames_have_one_spelling.Goals as goal

pub returns-clause-one : goal.returns-clause-one
returns-clause-one c = one-frame

pub returns-clause-prefix : goal.returns-clause-prefix
returns-clause-prefix c = no-prefix
