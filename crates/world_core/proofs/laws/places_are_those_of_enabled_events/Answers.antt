use Rattle.world_core.proofs.Choosing.{all-places, one-place}
use Rattle.world_core.proofs.laws.places_are_those_of_enabled_events.Goals as goal

pub returns : goal.returns
returns g c = record {
  all = λ made s x w few stands. all-places g.P.Program.wants g.P.Program.becomes made s x w few stands;
  one = λ made s x w few stands place i own y c is there here. one-place g.P.Program.wants g.P.Program.becomes made s x w few stands place i own y c is there here;
}
