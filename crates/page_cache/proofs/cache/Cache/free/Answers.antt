use Rattle.page_cache.proofs.CacheLemmas.{IsCache-sound}
use Rattle.page_cache.proofs.cache.Cache.free.Goals as goal

pub returns-clause-cache : goal.returns-clause-cache
returns-clause-cache c = rw (← c.self.view_is) (IsCache-sound c.self.inside.pool c.self.inside.reserved c.self.inside.order.entries c.self.inside.order.cap c.self.inside.index.entries c.self.invariant.0)
