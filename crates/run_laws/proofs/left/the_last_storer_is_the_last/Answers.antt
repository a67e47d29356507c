use Rattle.std.proofs.Common.{refl}
use Rattle.run_laws.proofs.left.the_last_storer_is_the_last.Goals as goal

pub returns : goal.returns
returns c = λ opening. record { before = refl; put = refl; behind = refl; none = refl; byte = refl; first_end = refl; second_end = refl; length = refl }
