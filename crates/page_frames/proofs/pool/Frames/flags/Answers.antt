use Rattle.page_frames.proofs.PoolLemmas.{ContainsKey-taken, flags-fields}
use Rattle.page_frames.proofs.pool.Frames.flags.Goals as goal

pub index-requires : goal.index-requires
index-requires c = ContainsKey-taken c.self.inside.count c.self.inside.numbers c.self.inside.pages.items c.args.self.now c.self.view_is c.frame.inside.key c.args.frame c.frame.view_is c.requires

pub returns : goal.returns
returns c = flags-fields c.self.inside.count c.self.inside.numbers c.self.inside.pages.items c.args.self.now c.self.view_is c.frame.inside.key c.args.frame c.index.result.now c.frame.view_is c.index.ensures
