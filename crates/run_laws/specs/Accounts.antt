-- An account of a run's events, in which each counts by itself.
use Rattle.std.specs.Prelude.{ℕ, Bool, true, false, Option, Some, None, List, count_by}
use Rattle.dom_history.specs.declared.event.What.{What}
use Rattle.dom_history.specs.declared.event.What.TheVariants.{Notice}
use Rattle.dom_history.specs.declared.event.Sent.{Sent}
use Rattle.dom_history.specs.declared.plan.FateRow.{FateRow}
use Rattle.dom_history.specs.Events.{Happening}
use Rattle.dom_history.specs.Plans.{fate_of}
use Rattle.node_runs.specs.Deliveries.{is_gone}
pub use Rattle.run_laws.specs.LinkFaults.{is_fault_end, link_faults, notices}

-- the event told a process of a frame that is lost or late
abbrev pub is_notice : What → Bool
is_notice (Notice p from to index) = true
is_notice _ = false

-- the frame that was sent, if one was, is lost or late by the plan
abbrev pub is_marked_frame : List FateRow → ℕ → Option Sent → Bool
is_marked_frame plan from None = false
is_marked_frame plan from (Some sent) = is_gone (fate_of plan from sent.to sent.index)

abbrev pub is_marked : List FateRow → Happening → Bool
is_marked plan e = is_marked_frame plan e.place.node e.effects.sent

-- how many of the frames that these events sent are lost or late
abbrev pub marked : List FateRow → List Happening → ℕ
marked plan es = count_by (is_marked plan) es
