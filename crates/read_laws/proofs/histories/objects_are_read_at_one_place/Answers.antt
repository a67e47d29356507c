use Rattle.read_laws.proofs.OnePlace.{of-one_place}
use Rattle.read_laws.proofs.histories.objects_are_read_at_one_place.Goals as goal

pub returns : goal.returns
returns c = λ opening h legal closed p u newer items older stand carries. of-one_place opening p u h newer items older legal closed stand carries
