use Rattle.std.proofs.Common.{◌∙◌}
use Rattle.plain_store.proofs.objects.ObjectTable.reserve.Goals as goal

pub returns-clause-held : goal.returns-clause-held
returns-clause-held c = λ opening past held. record {
  made = c.reserve.ensures.items ∙ held.made;
  deleted = λ u. c.reserve-2.ensures.keys.2 u ∙ held.deleted u;
}
