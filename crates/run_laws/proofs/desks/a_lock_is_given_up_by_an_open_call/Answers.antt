use Rattle.run_laws.proofs.Released.{node-released}
use Rattle.run_laws.proofs.desks.a_lock_is_given_up_by_an_open_call.Goals as goal

pub returns : goal.returns
returns c = node-released
