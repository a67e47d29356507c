use Rattle.std.proofs.Common.{◌≡◌, [], replicate}
use Rattle.lane_charts.proofs.places.KeyedPlaces.new.Given as goal

abbrev pub invariant-loop-key : goal.invariant-loop-key
invariant-loop-key l = l.lists.items ≡ replicate l._key []
