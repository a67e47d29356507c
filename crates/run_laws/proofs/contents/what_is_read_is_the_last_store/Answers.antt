use Rattle.run_laws.proofs.StoresAre.{reads-are}
use Rattle.run_laws.proofs.contents.what_is_read_is_the_last_store.Goals as goal

pub returns : goal.returns
returns c = reads-are
