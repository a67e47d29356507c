use Rattle.std.proofs.Common.{◌≡◌, ◌++◌, take}
use Rattle.lane_charts.specs.TextCells.{shown}
use Rattle.lane_charts.proofs.cells.put_shown.Given as goal

abbrev pub invariant-loop-byte : goal.invariant-loop-byte
invariant-loop-byte l = l.to ≡ l.initial.to ++ shown (take l.byte-index l.text)
