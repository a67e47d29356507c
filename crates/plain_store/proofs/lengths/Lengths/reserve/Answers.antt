use Rattle.std.proofs.Common.{◌∙◌, ℕ, ap}
use Rattle.std.specs.Prelude.{Option, unwrap_or}
use Rattle.plain_store.proofs.lengths.Lengths.reserve.Goals as goal

pub returns-clause-held : goal.returns-clause-held
returns-clause-held c = λ opening past held. record {
  lengths = λ u. ap (λ (o : Option ℕ). unwrap_or o 0) (c.reserve.ensures.entries.2 u) ∙ held.lengths u;
}
