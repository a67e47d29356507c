-- What is drawn of a run.
use Rattle.std.specs.Prelude.{ℕ, ◌≡◌, Bool, true, false, None, List}
use Rattle.lane_charts.specs.Charts.{Drawing}
use Rattle.lane_charts.specs.TextCharts.{text_of}
use Rattle.lane_charts.specs.Pictures.{picture_of}
use Rattle.event_views.specs.declared.choice.Choice.{Choice}
use Rattle.event_views.specs.Chosen.{chosen}
use Rattle.event_views.specs.Runs.{Run}
use Rattle.event_charts.specs.ChartsOfRuns.{chart_of}
use Rattle.view_program.specs.declared.asked.Shown.{Shown}
use Rattle.view_program.specs.declared.reading.Said.{Said}
use Rattle.view_program.specs.Saying.{saying}

-- a chart as a picture, or as text of so many characters
abbrev pub drawing : Bool → ℕ → Drawing → List ℕ
drawing true width chart = picture_of chart
drawing false width chart = text_of chart width

-- events are chosen by the ticks and the page that are asked for, and of all objects and commands where none is asked for
pub record IsChoiceOf (shown : Shown) (choice : Choice) : Type 0 where
  pub from : choice.from ≡ shown.from
  pub to : choice.to ≡ shown.to
  pub page : choice.page ≡ shown.page
  pub objects : shown.object ≡ None → choice.object ≡ None
  pub commands : shown.command ≡ None → choice.command ≡ None

-- the events of a run that are chosen, in order and no others, drawn
pub record SaysDrawn (shown : Shown) (width : ℕ) (run : Run) (said : Said) : Type 0 where
  pub choice : Choice
  pub asked : IsChoiceOf shown choice
  pub is : said ≡ saying 0 (drawing shown.is_picture width (chart_of choice run (chosen choice run.events)))
