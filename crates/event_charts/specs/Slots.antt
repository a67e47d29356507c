-- The events that are shown by the frames that they take, each frame in a slot, so that those that take one are found without going over all.
-- No public clause cites these, and they decide nothing.
use Rattle.std.specs.Prelude.{ℕ, ◌+◌, ◌*◌, ◌/◌, ◌%◌, ◌^◌, Bool, false, Option, Some, None, List, [], ◌∷◌, length, slice_get}
use Rattle.dom_history.specs.declared.event.What.{What}
use Rattle.dom_history.specs.declared.event.What.TheVariants.{Take}
use Rattle.lane_charts.specs.Places.{AreKeyed, place_if}
use Rattle.event_views.specs.declared.run.EventView.{EventView}

-- how many slots so many events have
abbrev pub slots_for : ℕ → ℕ
slots_for events = events / 2 * 2 + 1

-- the slot of a frame of this number, from a node to another
unfoldable pub slot_of : ℕ → ℕ → ℕ → ℕ → ℕ
slot_of slots from to index = ((index * 64 % 2 ^ 64 + (from * 8 + to)) % 2 ^ 64) % slots

-- the slot of the frame that an event of a node takes
abbrev pub slot_in : ℕ → ℕ → What → Option ℕ
slot_in slots node (Take from index) = Some (slot_of slots from node index)
slot_in slots node _ = None

abbrev pub slot_of_taken : ℕ → EventView → Option ℕ
slot_of_taken slots v = slot_in slots v.event.place.node v.event.what

-- the places are those of these events by the slots of the frames that they take
abbrev pub AreBySlots : List (List ℕ) → List EventView → Type 0
AreBySlots places views = AreKeyed (slot_of_taken (slots_for (length views))) (slots_for (length views)) places views

-- there is something, and it passes
abbrev pub passes : {X : Type 0} → (X → Bool) → Option X → Bool
passes test None = false
passes test (Some x) = test x

-- of these places those of which what is there passes
abbrev pub picked : {X : Type 0} → (X → Bool) → List X → List ℕ → List ℕ
picked test xs [] = []
picked test xs (place ∷ places) = place_if (passes test (slice_get xs place)) place (picked test xs places)
