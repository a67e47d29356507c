use Rattle.uid_names.proofs.UidTexts.{number_of-injective, text_of-injective}
use Rattle.uid_names.proofs.laws.names_are_one_to_one.Goals as goal

pub returns-clause-text : goal.returns-clause-text
returns-clause-text c = λ u v nu nv same. number_of-injective u v nu nv (text_of-injective u v nu nv same)
