use Rattle.world_runs.proofs.Ending.{an-end, one-end, one-last, not-both, turn-low, turns-few}
use Rattle.world_runs.proofs.laws.turns_end.Goals as goal

pub returns : goal.returns
returns c = record {
  either = λ s plan setup seed last least most. an-end s setup plan seed last least most;
  one = λ s plan seed last w v a b. one-end s plan seed last w v a b;
  first = λ s plan seed last n m a b. one-last s plan seed last n m a b;
  not_both = λ s plan seed last n w a b. not-both s plan seed last n w a b;
  just = λ s plan setup last most cs old new choice before below now n. turn-low s setup plan last most cs old new choice before below now n;
  few = λ s plan setup cs w e. turns-few s setup plan cs w e;
}
