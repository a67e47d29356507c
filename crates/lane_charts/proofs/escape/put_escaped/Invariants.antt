use Rattle.std.proofs.Common.{◌≡◌, ◌++◌, take}
use Rattle.lane_charts.specs.Escapes.{escaped_text}
use Rattle.lane_charts.proofs.escape.put_escaped.Given as goal

abbrev pub invariant-loop-byte : goal.invariant-loop-byte
invariant-loop-byte l = l.to ≡ l.initial.to ++ escaped_text (take l.byte-index l.text)
