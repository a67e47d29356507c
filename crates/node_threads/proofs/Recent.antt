-- The logs of threads, merged, are a recent run that has ended.
use Rattle.std.proofs.Common.{ℕ, ◌≤◌, List, reverse, sym, ap, subst, ◌∙◌}
use Rattle.std.specs.Prelude.{◌^◌}
use Rattle.dom_history.specs.declared.event.NodeLog.{NodeLog}
use Rattle.dom_history.specs.declared.plan.FateRow.{FateRow}
use Rattle.dom_history.specs.Events.{Happening}
use Rattle.dom_history.specs.Plans.{IsPlan}
use Rattle.node_runs.specs.Setups.{Setup, IsSetup, given}
use Rattle.node_runs.specs.NodeStates.{NodeState, is_ended}
use Rattle.node_runs.specs.NodesKeep.{IsTimely}
use Rattle.node_runs.specs.Runs.{World}
use Rattle.local_runs.specs.LocalRuns.{Own}
use Rattle.local_runs.specs.Merges.{AreOneRun}
use Rattle.node_threads.specs.Ran.{AreEndedRuns, EndsTogether}

pub ends-together : (s : Setup) (plan : List FateRow) (logs : List NodeLog) (owns : ℕ → List Own) (worlds : ℕ → World) → IsSetup s → IsPlan plan → AreEndedRuns s plan logs owns worlds
    → (events : List Happening) → AreOneRun s owns worlds (reverse events) → EndsTogether s plan worlds (reverse events)
ends-together s plan logs owns worlds setup kept are events one =
    let led = one.leads in
    let timely : IsTimely led.0 = λ n. subst (λ (x : NodeState). x.tick ≤ 2 ^ 40) (sym (led.3.nodes n)) (are.timely n) in
    record {
      world = led.0;
      run = record {
        planned = one.planned plan kept are.delivered;
        leads = led.1;
        ended = λ n node. ap (is_ended (given s n)) (led.3.nodes n) ∙ are.ended n node;
      };
      timely = timely;
      recent = one.recent setup are.named_alone led.0 led.1 timely;
      together = led.3;
    }
