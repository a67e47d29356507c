use Rattle.std.proofs.Common.{◌≡◌, ◌++◌, take}
use Rattle.std.specs.Prelude.{slice_get}
use Rattle.std.specs.List.{flat_map}
use Rattle.lane_charts.specs.Places.{drawn}
use Rattle.lane_charts.specs.TextCharts.{arrow_in}
use Rattle.lane_charts.proofs.text.put_arrows.Given as goal

abbrev pub invariant-loop-place : goal.invariant-loop-place
invariant-loop-place l =
    l.to ≡ l.fn.to ++ flat_map (λ place. drawn (arrow_in l.column l.chart) (slice_get l.chart.arrows place)) (take l.place-index l.places)
