use Rattle.run_laws.proofs.StoresAre.{reads-are}
use Rattle.run_laws.proofs.DeskReplies.{desks-reply}
use Rattle.run_laws.proofs.moves.desks_reply_as_one_store_does.Goals as goal

pub returns : goal.returns
returns c = desks-reply reads-are
