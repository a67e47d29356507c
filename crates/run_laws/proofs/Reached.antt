-- What the program of a process did and heard, by the events of a run.
use Rattle.std.proofs.Common.{◌≡◌, ◌≢◌, List, Option, Some, sym, subst, ◌∙◌}
use Rattle.uid_names.specs.Names.{ProcName, IsProcNumber}
use Rattle.dom_history.specs.declared.op.Want.{Want}
use Rattle.dom_history.specs.declared.op.Want.TheVariants.{Phase, Done}
use Rattle.dom_history.specs.Events.{Happening}
use Rattle.node_runs.specs.Setups.{Setup}
use Rattle.node_runs.specs.Runs.{World, world_of}
use Rattle.node_runs.specs.RunHistories.{history_if, history_of}
use Rattle.run_laws.specs.Heard.{AreHeard}
use Rattle.run_laws.proofs.HistoryEntries.{IsReached, reached-in}

-- one that is done waits for no phase
pub done-apart : (want : Want) → want ≡ Done → want ≢ Phase
done-apart want done phase = let f : Done ≡ Phase = sym done ∙ phase in cc

pub reached-of : (s : Setup) (es : List Happening) (w : World) → world_of s es ≡ Some w → AreHeard s w → (p : ProcName) → IsProcNumber p.number → IsReached s (history_of s es) w p
reached-of s es w leads heard p proc = subst (λ (o : Option World). IsReached s (history_if s o) w p) (sym leads) (reached-in s w heard p proc)
