-- The chart of a run's events: a lane for each node, a row for each event that is shown, and arrows from the row that sent a frame to each that took it.
use Rattle.std.specs.Prelude.{ℕ, ◌+◌, ◌-◌, ◌==◌, ◌&&◌, Bool, true, false, Option, Some, None, List, [], ◌∷◌, ◌++◌, codes, decimal, length, map}
use Rattle.dom_history.specs.Plans.{fate_of}
use Rattle.dom_history.specs.declared.event.Sent.{Sent}
use Rattle.dom_history.specs.declared.event.What.{What}
use Rattle.dom_history.specs.declared.event.What.TheVariants.{Take}
use Rattle.dom_history.specs.declared.plan.Fate.{Fate}
use Rattle.dom_history.specs.declared.plan.Fate.TheVariants as fates
use Rattle.lane_charts.specs.Charts.{Drawing}
use Rattle.lane_charts.specs.Places.{place_if}
use Rattle.lane_charts.specs.declared.chart.ChartRow.{ChartRow}
use Rattle.lane_charts.specs.declared.chart.Arrow.{Arrow}
use Rattle.lane_charts.specs.declared.chart.Arrival.{Arrival}
use Rattle.lane_charts.specs.declared.chart.Arrival.TheVariants.{Row, Lost, Never}
use Rattle.event_views.specs.Runs.{Run}
use Rattle.event_views.specs.Chosen.{is_sent_chosen}
use Rattle.event_views.specs.Labels.{label_of, is_mark, sent_label, sent_title}
use Rattle.event_views.specs.declared.choice.Choice.{Choice}
use Rattle.event_views.specs.declared.run.EventView.{EventView}

-- how many of the events are shown
abbrev pub title_of : ℕ → ℕ → List ℕ
title_of shown all = decimal shown ++ (codes " of " ++ (decimal all ++ codes " events"))

-- the row of an event, in the lane of its node
abbrev pub row_of : Run → EventView → ChartRow
row_of run v = record { tick = v.event.place.tick; lane = v.event.place.node - 1; label = label_of run v; is_mark = is_mark v.event.what }

-- an event takes the frame of this number that came from a node
abbrev pub takes_from : ℕ → ℕ → What → Bool
takes_from from index (Take other number) = (other == from) && (number == index)
takes_from from index _ = false

abbrev pub takes : ℕ → Sent → EventView → Bool
takes from sent v = (v.event.place.node == sent.to) && takes_from from sent.index v.event.what

-- the places of those that take a frame which a node sent, where the first one has the place n
abbrev pub takers : ℕ → ℕ → Sent → List EventView → List ℕ
takers n from sent [] = []
takers n from sent (v ∷ views) = place_if (takes from sent v) n (takers (n + 1) from sent views)

abbrev pub is_late : Fate → Bool
is_late (fates.Late by) = true
is_late _ = false

-- what became of a frame that no row took: it was lost, or it was not taken by any that is shown
abbrev pub not_taken : Fate → Arrival
not_taken fates.Lose = Lost
not_taken _ = Never

-- what becomes of a frame, with whether it is a copy: it ends in each row that took it; all but the first are copies, and so is one that is late
abbrev pub ends_of : Fate → List ℕ → List (Arrival × Bool)
ends_of fate [] = (not_taken fate, false) ∷ []
ends_of fate (row ∷ rows) = (Row row, is_late fate) ∷ map (λ r. (Row r, true)) rows

-- an arrow from the row at a place
abbrev pub arrow_of : Run → ℕ → ℕ → Sent → EventView → Arrival × Bool → Arrow
arrow_of run at from sent v end = record {
  sender = at;
  to = sent.to - 1;
  end = end.0;
  is_copy = end.1;
  label = sent_label run.objects sent v.sent;
  title = sent_title run from sent v.sent;
}

abbrev pub arrows_sent : Run → List EventView → ℕ → EventView → Option Sent → List Arrow
arrows_sent run shown at v None = []
arrows_sent run shown at v (Some sent) =
    map (arrow_of run at v.event.place.node sent v)
    (ends_of (fate_of run.plan v.event.place.node sent.to sent.index) (takers 0 v.event.place.node sent shown))

abbrev pub arrows_if : Bool → List Arrow → List Arrow
arrows_if true arrows = arrows
arrows_if false arrows = []

-- the arrows of the frame that the event at a place sent, if it sent one that is chosen
abbrev pub arrows_at : Choice → Run → List EventView → ℕ → EventView → List Arrow
arrows_at choice run shown at v = arrows_if (is_sent_chosen choice v) (arrows_sent run shown at v v.event.effects.sent)

-- those of all that are shown, from a place on
abbrev pub arrows_from : Choice → Run → List EventView → ℕ → List EventView → List Arrow
arrows_from choice run shown at [] = []
arrows_from choice run shown at (v ∷ views) = arrows_at choice run shown at v ++ arrows_from choice run shown (at + 1) views

-- more arrows behind those of a chart
abbrev pub with_arrows : Drawing → List Arrow → Drawing
with_arrows c more = record c { arrows = c.arrows ++ more }

-- the chart of these events of a run, which are those that are chosen
abbrev pub chart_of : Choice → Run → List EventView → Drawing
chart_of choice run shown = record {
  title = title_of (length shown) (length run.events);
  lanes = run.names;
  rows = map (row_of run) shown;
  arrows = arrows_from choice run shown 0 shown;
}
