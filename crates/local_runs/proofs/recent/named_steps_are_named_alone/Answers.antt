use Rattle.std.proofs.Common.{sym, ◌∙◌}
use Rattle.local_runs.specs.LocalRuns.{own_event}
use Rattle.local_runs.proofs.Local.{goes-on}
use Rattle.local_runs.proofs.recent.named_steps_are_named_alone.Goals as goal

pub returns : goal.returns
returns c = record {
  begins = λ s n. tt;
  goes_on = λ s n own w is named what incoming step e steps. goes-on s n own w is named (own_event n what incoming step) (e ∙ sym steps);
}
