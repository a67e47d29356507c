-- What waits longest on the link at a place.
use Rattle.std.specs.Prelude.{ℕ, IfSome, IsSomeAnd, List, slice_get}
use Rattle.node_runs.specs.Incomings.{Incoming}
use Rattle.node_core.specs.Receivings.{seen}
use Rattle.world_core.specs.declared.station.LinkFrom.{LinkFrom}

-- it holds of what the oldest entry brings, if there is one
abbrev pub IfOldestAt : ℕ → List LinkFrom → (Incoming → Type 0) → Type 0
IfOldestAt at ins P = IfSome (slice_get ins at) (λ l. IfSome (slice_get l.link.queue 0) (λ e. P (seen e.received)))

-- the link has an entry, and it holds of what the oldest one brings
abbrev pub IsOldestAt : ℕ → List LinkFrom → (Incoming → Type 0) → Type 0
IsOldestAt at ins P = IfSome (slice_get ins at) (λ l. IsSomeAnd (slice_get l.link.queue 0) (λ e. P (seen e.received)))
