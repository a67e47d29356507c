use Rattle.std.proofs.Common.{◌≡◌, ◌-◌, ◌++◌, codes, take}
use Rattle.std.specs.List.{flat_map}
use Rattle.lane_charts.specs.TextCells.{worded}
use Rattle.lane_charts.proofs.text.put_names.Given as goal

abbrev pub invariant-loop-name : goal.invariant-loop-name
invariant-loop-name l = l.to ≡ l.fn.to ++ codes "         " ++ flat_map (worded (l.column - 1) 32) (take l.name-index l.lanes)
