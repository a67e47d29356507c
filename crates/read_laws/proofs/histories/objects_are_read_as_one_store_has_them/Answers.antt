use Rattle.read_laws.proofs.Reading.{loads-tell, whole-loaded}
use Rattle.read_laws.proofs.histories.objects_are_read_as_one_store_has_them.Goals as goal

pub returns : goal.returns
returns c = record {
  loads = λ opening h legal p u newer items older is carries. loads-tell opening p u h newer items older legal is carries;
  whole = λ opening h legal p u newer items older bytes is carries ends. whole-loaded opening p u h newer items older bytes legal is carries ends;
}
