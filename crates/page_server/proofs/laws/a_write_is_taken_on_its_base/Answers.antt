use Rattle.page_server.proofs.Writes.{page-taken, length-taken, taken}
use Rattle.page_server.proofs.laws.a_write_is_taken_on_its_base.Goals as goal

pub returns : goal.returns
returns c = record { page = page-taken; length = length-taken; taken = taken }
