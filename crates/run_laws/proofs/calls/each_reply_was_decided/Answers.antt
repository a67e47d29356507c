use Rattle.run_laws.proofs.Replies.{replies-are}
use Rattle.run_laws.proofs.calls.each_reply_was_decided.Goals as goal

pub returns : goal.returns
returns c = replies-are
