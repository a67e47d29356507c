-- Which frames are counted.
use Rattle.std.specs.Prelude.{ℕ, ◌==◌, ◌&&◌, Bool, true, false, Option, Some, None, List}
use Rattle.uid_names.specs.FrameKinds.{kind_number}
use Rattle.uid_names.specs.declared.frame_kind.FrameKind.{FrameKind}
use Rattle.dom_history.specs.Plans.{fate_of}
use Rattle.dom_history.specs.declared.event.Sent.{Sent}
use Rattle.dom_history.specs.declared.event.What.{What}
use Rattle.dom_history.specs.declared.event.What.TheVariants.{Notice}
use Rattle.dom_history.specs.declared.plan.Fate.{Fate}
use Rattle.dom_history.specs.declared.plan.Fate.TheVariants as fates
use Rattle.dom_history.specs.declared.plan.FateRow.{FateRow}
use Rattle.event_views.specs.declared.run.EventView.{EventView}
use Rattle.event_views.specs.declared.run.FrameView.{FrameView}
use Rattle.event_counts.specs.declared.frames.Became.{Became}
use Rattle.event_counts.specs.declared.frames.Became.TheVariants.{Any, Lost, Late, Twice}

-- a fate is what is counted
abbrev pub is_lost : Fate → Bool
is_lost fates.Lose = true
is_lost _ = false

abbrev pub is_late : Fate → Bool
is_late (fates.Late by) = true
is_late _ = false

abbrev pub is_twice : Fate → Bool
is_twice (fates.Twice by) = true
is_twice _ = false

abbrev pub is_so : Became → Fate → Bool
is_so Any fate = true
is_so Lost fate = is_lost fate
is_so Late fate = is_late fate
is_so Twice fate = is_twice fate

-- the frame that a node sent, if it sent one, goes to another, is of a kind, and came to this
abbrev pub is_sent : List FateRow → ℕ → ℕ → FrameKind → Became → Option Sent → Bool
is_sent plan from to kind became None = false
is_sent plan from to kind became (Some s) = (s.to == to) && ((s.kind == kind_number kind) && is_so became (fate_of plan from to s.index))

abbrev pub sends : List FateRow → ℕ → ℕ → FrameKind → Became → EventView → Bool
sends plan from to kind became v = (v.event.place.node == from) && is_sent plan from to kind became v.event.effects.sent

-- an event tells a process of a frame of this kind on this link, that it was lost or is late
abbrev pub is_of_kind : FrameKind → Option FrameView → Bool
is_of_kind kind None = false
is_of_kind kind (Some frame) = kind_number frame.said.kind == kind_number kind

abbrev pub tells_of : ℕ → ℕ → What → Bool
tells_of from to (Notice p a b index) = (a == from) && (b == to)
tells_of from to _ = false

abbrev pub tells : ℕ → ℕ → FrameKind → EventView → Bool
tells from to kind v = tells_of from to v.event.what && is_of_kind kind v.met
