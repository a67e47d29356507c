-- The links from the nodes that came so far have dropped what is heard, and the others are as they were.
use Rattle.std.proofs.Common.{◌≡◌, length}
use Rattle.journal_check.proofs.HeardLinks.{AreHeard}
use Rattle.journal_check.proofs.pass.drop_heard.Given as goal

abbrev pub invariant-loop-from : goal.invariant-loop-from
invariant-loop-from g l = (length l.frames.items ≡ length l.initial.frames.items) × AreHeard l.nodes l.at l.node l.from l.initial.frames.items l.frames.items
