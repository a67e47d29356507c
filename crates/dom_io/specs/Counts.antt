-- Counts of faults: a count never falls, and stops at its last value.
use Rattle.std.specs.Prelude.{◌≡◌, ℕ, ◌+◌, ◌-◌, ◌^◌, ◌<◌, ◌⊎◌, min}

-- the last value of a count
abbrev pub last_count : ℕ
last_count = 2 ^ 64 - 1

-- the count rose in the call, or stands at its last value
abbrev pub CountRose : ℕ → ℕ → Type 0
CountRose before now = (before < now) ⊎ (now ≡ last_count)

-- one more, up to the last value
abbrev pub one_more : ℕ → ℕ
one_more count = min (count + 1) last_count
