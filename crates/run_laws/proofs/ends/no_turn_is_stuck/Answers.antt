use Rattle.run_laws.proofs.AllEnded.{none-enabled}
use Rattle.run_laws.proofs.NoneStuck.{no-call, none-stuck}
use Rattle.run_laws.proofs.Stuck.{no-notice}
use Rattle.run_laws.proofs.ends.no_turn_is_stuck.Goals as goal

pub returns : goal.returns
returns c = record {
  notices = λ s plan setup w none n node. no-notice s setup plan w none n node;
  calls = λ s plan setup cs w e timely none. no-call s setup plan cs w e timely none;
  ended = λ s plan setup cs w e timely none. none-stuck s setup plan cs w e timely none;
  just = none-enabled;
}
