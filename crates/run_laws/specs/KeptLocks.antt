-- An operation that was answered Kept has no act.
use Rattle.std.specs.Prelude.{◌≡◌}
use Rattle.dom_history.specs.declared.op.Reply.TheVariants.{Kept}
use Rattle.node_runs.specs.Setups.{Setup}
use Rattle.node_runs.specs.Notes.{Told}
use Rattle.node_runs.specs.Runs.{World}
use Rattle.node_runs.specs.RunHistories.{all_told}
use Rattle.node_runs.specs.CallsKeep.{EachOf}
use Rattle.run_laws.specs.LastActs.{HasNoAct}

abbrev pub IsKeptWithout : Setup → World → Told → Type 0
IsKeptWithout s w t = t.reply ≡ Kept → HasNoAct s w t.proc t.begun

abbrev pub AreKeptWithout : Setup → World → Type 0
AreKeptWithout s w = EachOf (IsKeptWithout s w) (all_told w.trace)
