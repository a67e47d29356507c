-- What came of numbers, counted, and with more of them.
use Rattle.std.specs.Prelude.{ℕ, ◌+◌, min, Option, Some, None, List, [], ◌∷◌}
use Rattle.std.specs.List.{sum_by}
use Rattle.run_outcomes.specs.Tallies.{tallied, rows_tallied, empty_tally}
use Rattle.run_outcomes.specs.Counts.{Gave}
use Rattle.explored_counts.specs.declared.came.CameOf.{CameOf}
use Rattle.explored_counts.specs.declared.came.CameOf.TheVariants.{Answers, LastTick, NoMemory}
use Rattle.explored_counts.specs.declared.seen.Missed.{Missed}
use Rattle.explored_counts.specs.declared.seen.Explored.{Explored}

abbrev pub empty_explored : Explored
empty_explored = record { tally = empty_tally; last_tick = None; no_memory = None }

-- one number more
abbrev pub missed_with : ℕ → Option Missed → Option Missed
missed_with number None = Some (record { count = 1; lowest = number })
missed_with number (Some m) = Some (record { count = m.count + 1; lowest = min number m.lowest })

-- what came of one number more
abbrev pub explored_with : ℕ → CameOf → Explored → Explored
explored_with number (Answers outcome) e = record { tally = tallied number outcome e.tally; last_tick = e.last_tick; no_memory = e.no_memory }
explored_with number LastTick e = record { tally = e.tally; last_tick = missed_with number e.last_tick; no_memory = e.no_memory }
explored_with number NoMemory e = record { tally = e.tally; last_tick = e.last_tick; no_memory = missed_with number e.no_memory }

-- what came of this number and of those that follow it, one after another
abbrev pub explored_from : ℕ → List CameOf → Explored → Explored
explored_from number [] e = e
explored_from number (came ∷ rest) e = explored_from (number + 1) rest (explored_with number came e)

-- the numbers that have no answers for one cause, and more of them
abbrev pub both_missed : Option Missed → Option Missed → Option Missed
both_missed None m = m
both_missed (Some more) None = Some more
both_missed (Some more) (Some m) = Some (record { count = m.count + more.count; lowest = min more.lowest m.lowest })

-- what came of numbers, with what came of more of them
abbrev pub joined : Explored → Explored → Explored
joined more e = record { tally = rows_tallied more.tally.rows e.tally; last_tick = both_missed more.last_tick e.last_tick; no_memory = both_missed more.no_memory e.no_memory }

abbrev pub missed_count : Option Missed → ℕ
missed_count None = 0
missed_count (Some m) = m.count

-- the same of several lists of numbers, one after another
abbrev pub joined_all : List Explored → Explored → Explored
joined_all [] e = e
joined_all (more ∷ rest) e = joined_all rest (joined more e)

-- how many numbers were added
abbrev pub total_of : Explored → ℕ
total_of e = e.tally.added + (missed_count e.last_tick + missed_count e.no_memory)

abbrev pub totals_of : List Explored → ℕ
totals_of parts = sum_by total_of parts

-- the numbers that gave answers, with them; the last one stands first
abbrev pub gave_with : ℕ → CameOf → List Gave → List Gave
gave_with number (Answers outcome) past = record { number = number; outcome = outcome } ∷ past
gave_with number LastTick past = past
gave_with number NoMemory past = past

abbrev pub gave_from : ℕ → List CameOf → List Gave → List Gave
gave_from number [] past = past
gave_from number (came ∷ rest) past = gave_from (number + 1) rest (gave_with number came past)
