use Rattle.std.proofs.Common.{reverse}
use Rattle.local_runs.proofs.merged.merged_logs_are_one_run.Goals as goal

pub returns : goal.returns
returns c logs events merged s owns ws are of =
    let es = reverse events in
    let merge = c.merged_logs_are_a_merge.ensures owns logs events of merged in
    record {
      run = c.local_runs_are_one_run.ensures.run s owns ws es are merge;
      leads = c.local_runs_are_one_run.ensures.leads s owns ws es are merge;
      planned = λ plan kept delivered. c.delivered_local_runs_are_planned.ensures s plan owns ws es are kept delivered merge;
      recent = λ setup named. c.named_local_runs_are_recent.ensures s setup owns ws es are merge named;
    }
