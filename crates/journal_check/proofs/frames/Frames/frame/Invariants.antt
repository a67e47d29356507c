-- None of those that came so far has the number.
use Rattle.std.proofs.Common.{◌≡◌, drop}
use Rattle.journal_check.specs.Kept.{live_at}
use Rattle.journal_check.proofs.frames.Frames.frame.Given as goal

abbrev pub invariant-loop-live : goal.invariant-loop-live
invariant-loop-live l = live_at l.index l.live-items ≡ live_at l.index (drop l.live-index l.live-items)
