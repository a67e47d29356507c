use Rattle.uid_names.proofs.Codes.{mode_of_letter-letter, mode_of_letter-found, mode_of_code-code, mode_of_code-found, object_of_code-code, object_of_code-found}
use Rattle.uid_names.proofs.laws.modes_are_read_as_they_are_written.Goals as goal

pub returns : goal.returns
returns c = record { letter = mode_of_letter-letter; letters = mode_of_letter-found; code = mode_of_code-code; codes = mode_of_code-found; object = object_of_code-code; objects = object_of_code-found }
