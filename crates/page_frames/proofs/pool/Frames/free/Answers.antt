use Rattle.std.proofs.Common.{refl}
use Rattle.page_frames.proofs.PoolLemmas.{free_count-fields, IsPool-fields}
use Rattle.page_frames.proofs.pool.Frames.free.Goals as goal

pub returns-clause-value : goal.returns-clause-value
returns-clause-value c = rw (c.len.ensures, free_count-fields c.self.inside.count c.self.inside.numbers c.self.inside.pages.items c.args.self.now c.self.view_is) refl

pub returns-clause-pool : goal.returns-clause-pool
returns-clause-pool c = IsPool-fields c.self.inside.count c.self.inside.numbers c.self.inside.pages.items c.args.self.now c.self.view_is c.self.invariant
