use Rattle.std.proofs.Common.{refl}
use Rattle.dom_history.specs.Follows.{starts, passed}
use Rattle.dom_history.proofs.laws.phases_alone_end.Goals as goal

pub returns : goal.returns
returns c = λ ask asked finished. record {
  nothing_open = refl;
  all_done = λ p. record { heard = _; phase = _; reaches = passed starts asked; finished = finished };
}
