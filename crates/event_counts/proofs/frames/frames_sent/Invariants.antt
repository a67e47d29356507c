use Rattle.std.proofs.Common.{◌≡◌, ◌≤◌, take}
use Rattle.std.specs.Prelude.{count_by}
use Rattle.event_counts.specs.FrameCounts.{sends}
use Rattle.event_counts.proofs.frames.frames_sent.Given as goal

abbrev pub invariant-loop-view : goal.invariant-loop-view
invariant-loop-view l = (l.count ≤ l.view-index) × (l.count ≡ count_by (sends l.run.plan l.from l.to l.kind l.became) (take l.view-index l.run.events))
