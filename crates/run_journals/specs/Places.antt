-- Whether each event of a run has its place by the plan, over all frames that were sent in the end. So a frame may be taken, in its place, before
-- the frame is sent behind which it falls. A list of events has the last one first.
use Rattle.std.specs.Prelude.{◌≡◌, ℕ, ◌==◌, Bool, true, false, not, ◌&&◌, Option, Some, None, List, [], ◌∷◌, length, slice_get}
use Rattle.dom_history.specs.declared.event.What.{What}
use Rattle.dom_history.specs.declared.event.What.TheVariants.{Begin, Go, Take, Notice, Ready, Mark}
use Rattle.dom_history.specs.declared.plan.FateRow.{FateRow}
use Rattle.dom_history.specs.Events.{Happening}
use Rattle.dom_history.specs.Plans.{fate_of}
use Rattle.node_runs.specs.Deliveries.{deliveries, takes_on, is_gone}
use Rattle.world_runs.specs.Sendings.{frames_on}
use Rattle.world_runs.specs.Gone.{was_told}

-- how many frames were sent on each link, from a node to a node
abbrev pub Counts : Type 0
Counts = ℕ → ℕ → ℕ

abbrev pub sent_in : List Happening → Counts
sent_in es from to = frames_on from to es

-- the frames of a link in the order of their delivery, its own ones of a node to itself too
abbrev pub delivered_on : List FateRow → Counts → ℕ → ℕ → List ℕ
delivered_on plan sent from to = deliveries (λ i. fate_of plan from to i) (sent from to)

abbrev pub is_this : ℕ → Option ℕ → Bool
is_this index None = false
is_this index (Some other) = index == other

-- the frame is the one that is delivered behind those that were taken from its link before
abbrev pub is_next : List FateRow → Counts → List Happening → ℕ → ℕ → ℕ → Bool
is_next plan sent older from to index = is_this index (slice_get (delivered_on plan sent from to) (length (takes_on from to older)))

-- the frame is lost or late, and nobody was told of it before
abbrev pub is_news : List FateRow → List Happening → ℕ → ℕ → ℕ → Bool
is_news plan older from to index = is_gone (fate_of plan from to index) && not (was_told older (from, to, index))

-- what happens at a node has its place behind these older events
abbrev pub has_place : List FateRow → Counts → List Happening → ℕ → What → Bool
has_place plan sent older node (Begin p) = true
has_place plan sent older node (Go p) = true
has_place plan sent older node (Take from index) = is_next plan sent older from node index
has_place plan sent older node (Notice p from to index) = is_news plan older from to index
has_place plan sent older node (Ready phase) = true
has_place plan sent older node (Mark from phase) = true

abbrev pub keeps_plan : List FateRow → Counts → List Happening → Happening → Bool
keeps_plan plan sent older e = has_place plan sent older e.place.node e.what

-- so does each of these events
abbrev pub AllKeepPlan : List FateRow → Counts → List Happening → Type 0
AllKeepPlan plan sent [] = Unit {0}
AllKeepPlan plan sent (e ∷ older) = (keeps_plan plan sent older e ≡ true) × AllKeepPlan plan sent older
