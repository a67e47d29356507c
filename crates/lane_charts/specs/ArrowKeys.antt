-- The row at which an arrow stands.
use Rattle.std.specs.Prelude.{ℕ, Option, Some, None}
use Rattle.lane_charts.specs.declared.chart.Arrow.{Arrow}
use Rattle.lane_charts.specs.declared.chart.Arrival.{Arrival}
use Rattle.lane_charts.specs.declared.chart.Arrival.TheVariants.{Row, Lost, Never}
use Rattle.lane_charts.specs.declared.by_row.Standing.{Standing}
use Rattle.lane_charts.specs.declared.by_row.Standing.TheVariants.{Taken, Failed, Sent}

-- the row that takes an arrow with this end
abbrev pub taker_of : Arrival → Option ℕ
taker_of (Row at) = Some at
taker_of Lost = None
taker_of Never = None

-- the row that sends it, where no row takes it
abbrev pub failing_of : ℕ → Arrival → Option ℕ
failing_of sender (Row at) = None
failing_of sender Lost = Some sender
failing_of sender Never = Some sender

-- the row at which an arrow stands, as one that is taken, that fails, or that is sent
abbrev pub key_as : Standing → Arrow → Option ℕ
key_as Taken a = taker_of a.end
key_as Failed a = failing_of a.sender a.end
key_as Sent a = Some a.sender
