-- Each event of a run keeps an object, takes one write of it, or makes it.
use Rattle.std.proofs.Common.{◌≡◌, ℕ, ◌≤◌, List, ◌∷◌, Some, sym, ap, ◌∙◌}
use Rattle.uid_names.specs.Names.{ObjectName}
use Rattle.node_runs.specs.Setups.{Setup, IsSetup}
use Rattle.node_runs.specs.NodesKeep.{IsTimely}
use Rattle.node_runs.specs.Runs.{World, Choice, then_next, world_after}
use Rattle.node_runs.proofs.Calls.{calls-are}
use Rattle.node_runs.proofs.Decisions.{decisions-are}
use Rattle.node_runs.proofs.Running.{run-keeps}
use Rattle.node_runs.proofs.SettingUp.{setup-procs}
use Rattle.node_runs.proofs.Worlds.{next-is}
use Rattle.run_laws.proofs.HearingRuns.{IsKeptNext}
use Rattle.run_laws.proofs.Replies.{replies-are}
use Rattle.run_laws.specs.Items.{Item}
use Rattle.run_laws.specs.Contents.{content}
use Rattle.run_laws.specs.Stamps.{stamp_at, IsThere}
use Rattle.run_laws.specs.ObjectMoves.{ObjectMove}
use Rattle.run_laws.proofs.ObjectMoves.{object-move, counters-rise, content-stays}

module _ (s : Setup) (setup : IsSetup s) (cs : List Choice) (c : Choice) (old new : World) (before : world_after s cs ≡ Some old) (whole : world_after s (c ∷ cs) ≡ Some new) (timely : IsTimely old) where
  kept-next : IsKeptNext s old c new
  kept-next = record {
    is = next-is s old c new (sym (ap (λ o. then_next s o c) before) ∙ whole);
    kept = (run-keeps s setup cs old before).kept timely;
    calls = calls-are s (setup-procs s setup) cs old before;
    decisions = decisions-are s (setup-procs s setup) cs old before;
    once = (decisions-are s (setup-procs s setup) (c ∷ cs) new whole).once;
    replies = replies-are s cs old before;
  }

  pub each-moves : (u : ObjectName) → ObjectMove old new u
  each-moves = object-move s old c new kept-next

  pub each-stays : (u : ObjectName) → IsThere old u → (t : ℕ) → t ≤ stamp_at old u → (x : Item) → content new.trace u t x ≡ content old.trace u t x
  each-stays u there t most x = content-stays old new each-moves (counters-rise s old c new kept-next) u t x (λ is. most)
