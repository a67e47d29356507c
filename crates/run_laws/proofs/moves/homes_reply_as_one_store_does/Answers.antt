use Rattle.run_laws.proofs.NotedEffects.{effects-noted}
use Rattle.run_laws.proofs.HomeReplies.{homes-reply}
use Rattle.run_laws.proofs.moves.homes_reply_as_one_store_does.Goals as goal

pub returns : goal.returns
returns c = homes-reply effects-noted
