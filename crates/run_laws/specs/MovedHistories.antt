-- What one event does to the history of a run.
use Rattle.std.specs.Prelude.{◌≡◌}
use Rattle.uid_names.specs.Openings.{Start}
use Rattle.dom_history.specs.Histories.{History}
use Rattle.history_moves.specs.HistoryMoves.{HistoryMoves}
use Rattle.node_runs.specs.Setups.{Setup}
use Rattle.node_runs.specs.Runs.{World}
use Rattle.node_runs.specs.RunHistories.{history_in}

-- it leaves the history as it was, or moves it
pub data IsMovedOrSame (opening : Start) (h new : History) : Type 0 where
  stays : new ≡ h → IsMovedOrSame opening h new
  moves : HistoryMoves opening h new → IsMovedOrSame opening h new

-- so the history of a world is that of the one before, or moved
abbrev pub IsHistoryMoved : Setup → World → World → Type 0
IsHistoryMoved s old new = IsMovedOrSame s.opening (history_in s old) (history_in s new)
