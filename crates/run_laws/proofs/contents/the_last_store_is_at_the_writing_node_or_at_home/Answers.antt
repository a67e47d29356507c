use Rattle.run_laws.proofs.StoresAre.{stores-are}
use Rattle.run_laws.proofs.contents.the_last_store_is_at_the_writing_node_or_at_home.Goals as goal

pub returns : goal.returns
returns c = stores-are
