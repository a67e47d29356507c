use Rattle.run_laws.proofs.FirstWaiting.{takes-enabled}
use Rattle.run_laws.proofs.ends.what_waits_first_on_a_link_is_enabled.Goals as goal

pub returns : goal.returns
returns c = λ s plan setup cs w e timely n node alive. takes-enabled s setup plan cs w e timely n alive
