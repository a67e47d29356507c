-- Where the next events of logs stand, in numbers that are compared as they are.
use Rattle.std.specs.Prelude.{◌≡◌, ℕ, ◌-◌, ◌^◌, ◌<◌, ◌==◌, nat_lt, Bool, true, false, ◌&&◌, ◌||◌, Option, Some, None, List, length, slice_index_or, All}
use Rattle.dom_history.specs.Events.{Happening}
use Rattle.dom_history.specs.MergedLogs.{next_at}
use Rattle.dom_history.specs.declared.event.NodeLog.{NodeLog}
use Rattle.ring_links.specs.declared.merge.Rank.{Rank}

-- by tick, and of one tick by the number of the node
abbrev pub is_below : Rank → Rank → Bool
is_below a b = nat_lt a.tick b.tick || ((a.tick == b.tick) && nat_lt a.node b.node)

-- that of no event, above each place
abbrev pub no_event : Rank
no_event = record { tick = 2 ^ 64 - 1; node = 2 ^ 8 - 1 }

-- the rank of an event, if there is one, is that of its place
abbrev pub IsRankOf : Option Happening → Rank → Type 0
IsRankOf None r = r ≡ no_event
IsRankOf (Some e) r = (r ≡ record { tick = e.place.tick; node = e.place.node }) × (is_below r no_event ≡ true)

-- the ranks of the logs' next events
pub record AreNext (logs : List NodeLog) (came : List ℕ) (nexts : List Rank) : Type 0 where
  pub same : length nexts ≡ length logs
  pub each : (j : ℕ) → j < length logs → IsRankOf (next_at logs came j) (slice_index_or nexts j no_event)

-- there is an event of this rank, and none of these is below it
pub record IsLeast (nexts : List Rank) (i : ℕ) : Type 0 where
  pub event : is_below (slice_index_or nexts i no_event) no_event ≡ true
  pub least : All (λ r. is_below r (slice_index_or nexts i no_event) ≡ false) nexts
