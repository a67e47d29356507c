use Rattle.std.proofs.Common.{◌≡◌, ◌≤◌, take}
use Rattle.std.specs.Prelude.{count_by}
use Rattle.event_counts.specs.FrameCounts.{tells}
use Rattle.event_counts.proofs.frames.frames_noticed.Given as goal

abbrev pub invariant-loop-view : goal.invariant-loop-view
invariant-loop-view l = (l.count ≤ l.view-index) × (l.count ≡ count_by (tells l.from l.to l.kind) (take l.view-index l.run.events))
