use Rattle.std.proofs.Common.{refl}
use Rattle.ring_messages.specs.Spelling.{spelling}
use Rattle.ring_messages.proofs.Frames.{head-is, frame-head, length-spelling, spelling-bound, first-bound}
use Rattle.ring_messages.proofs.laws.spellings_have_their_parts.Goals as goal

pub returns-clause-head : goal.returns-clause-head
returns-clause-head c = head-is

pub returns-clause-begins : goal.returns-clause-begins
returns-clause-begins c = λ m. frame-head m (spelling m) refl

pub returns-clause-length : goal.returns-clause-length
returns-clause-length c = length-spelling

pub returns-clause-longest : goal.returns-clause-longest
returns-clause-longest c = spelling-bound

pub returns-clause-first : goal.returns-clause-first
returns-clause-first c = first-bound
