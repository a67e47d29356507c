-- The notices of a node whose call is open, and how they are kept turn by turn.
use Rattle.std.specs.Prelude.{ℕ, ◌==◌, Bool, false, not, ◌&&◌, List, ◌++◌, filter, flat_map}
use Rattle.std.specs.List.{list_any}
use Rattle.dom_history.specs.declared.event.What.{What}
use Rattle.dom_history.specs.declared.event.What.TheVariants.{Notice}
use Rattle.dom_history.specs.declared.plan.FateRow.{FateRow}
use Rattle.dom_history.specs.Events.{Happening}
use Rattle.node_runs.specs.Setups.{Setup}
use Rattle.node_runs.specs.Deliveries.{noticed_by}
use Rattle.node_runs.specs.Runs.{World, numbered}
use Rattle.world_runs.specs.Gone.{FrameName, same_frame, gone_by, notice_of, notices_at}
use Rattle.world_runs.specs.Turns.{is_enabled}

abbrev pub open_notices : Setup → List FateRow → World → ℕ → List What
open_notices s plan w n = filter (is_enabled s w n) (notices_at plan w n)

-- it is the notice of this frame
abbrev pub tells_of : What → FrameName → Bool
tells_of (Notice p from to index) f = same_frame (from, to, index) f
tells_of _ f = false

-- it is the notice that the event took at the node
abbrev pub is_done_by : ℕ → Happening → What → Bool
is_done_by n e x = (e.place.node == n) && list_any (tells_of x) (noticed_by e.what)

-- the notice at a node of the frame that the event sent after these, if that is lost or late
abbrev pub notices_by : List FateRow → World → ℕ → Happening → List Happening → List What
notices_by plan w n e older = flat_map (λ f. notice_of n f (numbered f.2 (w.frames f.0 f.1))) (gone_by plan e.place.node e.effects.sent older)

-- the one that was taken goes, that of a frame that was sent comes last, and those stay whose call is open
abbrev pub notices_kept : Setup → List FateRow → World → World → ℕ → Happening → List What
notices_kept s plan old new n e =
    filter (is_enabled s new n) (filter (λ x. not (is_done_by n e x)) (open_notices s plan old n) ++ notices_by plan new n e old.done)
