use Rattle.test_journals.proofs.TwoNames.{two_names}
use Rattle.test_journals.proofs.journals.names.Goals as goal

pub from_list-requires : goal.from_list-requires
from_list-requires c = rw (c.in_ok-a.ensures, c.in_ok-b.ensures) two_names
