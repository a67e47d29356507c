use Rattle.page_frames.proofs.PoolLemmas.{ContainsKey-taken, pool_of-flags}
use Rattle.page_frames.proofs.pool.Frames.set_flags.Goals as goal

pub index_mut-requires : goal.index_mut-requires
index_mut-requires c = ContainsKey-taken c.self.inside.count c.self.inside.numbers c.self.inside.pages.items c.args.self.now c.self.view_is c.frame.inside.key c.args.frame c.frame.view_is c.requires

pub returns : goal.returns
returns c = pool_of-flags c.self.inside.count c.self.inside.numbers c.self.inside.pages.items c.args.self.now c.self.view_is c.frame.inside.key c.args.frame c.args.flags c.frame.view_is c.requires
