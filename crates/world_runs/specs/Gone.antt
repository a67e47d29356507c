-- The frames that were lost or are late, and the notices of them.
use Rattle.std.specs.Prelude.{ℕ, ◌+◌, ◌==◌, Bool, true, false, not, ◌&&◌, Option, Some, None, List, [], ◌∷◌, ◌++◌, filter, flat_map}
use Rattle.std.specs.List.{list_any}
use Rattle.dom_history.specs.declared.event.What.{What}
use Rattle.dom_history.specs.declared.event.What.TheVariants.{Notice}
use Rattle.dom_history.specs.declared.event.Sent.{Sent}
use Rattle.dom_history.specs.declared.plan.FateRow.{FateRow}
use Rattle.dom_history.specs.Events.{Happening}
use Rattle.dom_history.specs.Plans.{fate_of}
use Rattle.ring_messages.specs.Frames.{Message, caller_of}
use Rattle.node_runs.specs.Deliveries.{is_gone, noticed_in}
use Rattle.node_runs.specs.Runs.{World, numbered}
use Rattle.world_runs.specs.Sendings.{frames_on}

-- a frame, by its link and its number there
abbrev pub FrameName : Type 0
FrameName = ℕ × ℕ × ℕ

abbrev pub same_frame : FrameName → FrameName → Bool
same_frame f g = (f.0 == g.0) && ((f.1 == g.1) && (f.2 == g.2))

abbrev pub frame_if : Bool → FrameName → List FrameName
frame_if true f = f ∷ []
frame_if false f = []

-- the frame that an event sent after these, if it is lost or late
abbrev pub gone_by : List FateRow → ℕ → Option Sent → List Happening → List FrameName
gone_by plan from None older = []
gone_by plan from (Some sent) older =
    let k = frames_on from sent.to older + 1 in
    frame_if (is_gone (fate_of plan from sent.to k)) (from, sent.to, k)

-- the frames that were lost or are late, in the order in which they were sent
abbrev pub gone_in : List FateRow → List Happening → List FrameName
gone_in plan [] = []
gone_in plan (e ∷ older) = gone_in plan older ++ gone_by plan e.place.node e.effects.sent older

-- a process was told of it
abbrev pub was_told : List Happening → FrameName → Bool
was_told es f = list_any (same_frame f) (noticed_in es)

abbrev pub notice_if : Bool → What → List What
notice_if true what = what ∷ []
notice_if false what = []

-- the notice of a frame at a node, where a process of that node makes the frame's call
abbrev pub notice_of : ℕ → FrameName → Option Message → List What
notice_of n f None = []
notice_of n f (Some m) = notice_if ((caller_of m).node == n) (Notice m.proc f.0 f.1 f.2)

-- the notices of a node, in the order in which their frames were sent
abbrev pub notices_at : List FateRow → World → ℕ → List What
notices_at plan w n =
    flat_map (λ f. notice_of n f (numbered f.2 (w.frames f.0 f.1))) (filter (λ f. not (was_told w.done f)) (gone_in plan w.done))
