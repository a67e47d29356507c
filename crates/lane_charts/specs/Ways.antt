-- Which way an arrow goes over the lanes.
use Rattle.std.specs.Prelude.{ℕ, nat_lt, if◌then◌else◌}
use Rattle.lane_charts.specs.declared.way.Way.{Way}
use Rattle.lane_charts.specs.declared.way.Way.TheVariants.{Right, Left, Back}

-- from a lane to a lane
abbrev pub way_of : ℕ → ℕ → Way
way_of from to = if nat_lt from to then Right else if nat_lt to from then Left else Back
