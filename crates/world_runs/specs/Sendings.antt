-- What a node sent on a link: its frames and its marks, in order. Lists of events have the last one first.
use Rattle.std.specs.Prelude.{ℕ, ◌+◌, ◌==◌, Bool, true, false, not, Option, Some, None, List, [], ◌∷◌, ◌++◌}
use Rattle.dom_history.specs.declared.event.What.{What}
use Rattle.dom_history.specs.declared.event.What.TheVariants.{Ready}
use Rattle.dom_history.specs.declared.event.Sent.{Sent}
use Rattle.dom_history.specs.Events.{Happening}

-- a frame, or the mark of a phase
pub data Sending : Type 0 where
  Frame : Sending
  Mark : (phase : ℕ) → Sending

abbrev pub sending_if : Bool → Sending → List Sending
sending_if true x = x ∷ []
sending_if false x = []

-- an event sends one frame at most
abbrev pub frame_to : ℕ → Option Sent → List Sending
frame_to to None = []
frame_to to (Some sent) = sending_if (sent.to == to) Sending.Frame

-- a node's marks go to all nodes but itself
abbrev pub mark_to : ℕ → ℕ → What → List Sending
mark_to from to (Ready phase) = sending_if (not (from == to)) (Sending.Mark phase)
mark_to from to what = []

abbrev pub sent_if : Bool → ℕ → ℕ → Happening → List Sending
sent_if true from to e = mark_to from to e.what ++ frame_to to e.effects.sent
sent_if false from to e = []

-- what an event sent on a link
abbrev pub sent_by : ℕ → ℕ → Happening → List Sending
sent_by from to e = sent_if (e.place.node == from) from to e

-- what was sent on a link, the last first
abbrev pub sendings : ℕ → ℕ → List Happening → List Sending
sendings from to [] = []
sendings from to (e ∷ older) = sent_by from to e ++ sendings from to older

-- how many frames are among them
abbrev pub frames_in : List Sending → ℕ
frames_in [] = 0
frames_in (Sending.Frame ∷ older) = frames_in older + 1
frames_in (Sending.Mark phase ∷ older) = frames_in older

-- how many frames were sent on a link
abbrev pub frames_on : ℕ → ℕ → List Happening → ℕ
frames_on from to es = frames_in (sendings from to es)
