use Rattle.page_frames.proofs.PoolLemmas.{ContainsKey-taken, pool_of-without}
use Rattle.page_frames.proofs.pool.Frames.give_back.Goals as goal

pub remove-requires : goal.remove-requires
remove-requires c = ContainsKey-taken c.self.inside.count c.self.inside.numbers c.self.inside.pages.items c.args.self.now c.self.view_is c.frame.inside.key c.args.frame c.frame.view_is c.requires

pub returns : goal.returns
returns c = pool_of-without c.self.inside.count c.self.inside.numbers c.self.inside.pages.items c.args.self.now c.self.view_is c.remove.new.self c.frame.inside.key c.args.frame c.frame.view_is c.remove.ensures.updates
