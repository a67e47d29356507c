use Rattle.run_laws.proofs.ContentEvents.{each-moves, each-stays}
use Rattle.run_laws.proofs.contents.an_object_changes_by_a_write_that_is_taken.Goals as goal

pub returns : goal.returns
returns c = record { objects = each-moves; contents = each-stays }
