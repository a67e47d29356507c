use Rattle.std.proofs.Common.{◌∙◌, map}
use Rattle.uid_names.proofs.Somes.{IsSome-mapped}
use Rattle.page_cache.specs.Caches.{page_at}
use Rattle.page_cache.specs.Insides.{seen}
use Rattle.page_cache.proofs.CacheLemmas.{IsCache-sound, frame-ordered, page_in-ordered, IsFrame-ordered, IfNone-mapped}
use Rattle.page_cache.proofs.cache.Cache.find.Goals as goal

pub returns-clause-frame : goal.returns-clause-frame
returns-clause-frame c = rw (← c.self.view_is) (c.copied.ensures ∙ c.peek.ensures ∙ frame-ordered c.self.inside.pool c.self.inside.reserved c.self.inside.order.entries c.self.inside.order.cap c.self.inside.index.entries c.self.invariant.0 (record { uid = c.args.uid; page = c.args.page }))

pub returns-clause-resident : goal.returns-clause-resident
returns-clause-resident c =
    rw (← c.self.view_is, c.copied.ensures, c.peek.ensures, frame-ordered c.self.inside.pool c.self.inside.reserved c.self.inside.order.entries c.self.inside.order.cap c.self.inside.index.entries c.self.invariant.0 (record { uid = c.args.uid; page = c.args.page }))
    (IsSome-mapped (λ r. r.frame) (page_at (map (seen c.self.inside.pool) c.self.inside.order.entries) c.args.uid c.args.page))

pub returns-clause-absent : goal.returns-clause-absent
returns-clause-absent c =
    rw (← c.self.view_is, c.copied.ensures, c.peek.ensures, frame-ordered c.self.inside.pool c.self.inside.reserved c.self.inside.order.entries c.self.inside.order.cap c.self.inside.index.entries c.self.invariant.0 (record { uid = c.args.uid; page = c.args.page }))
    (IfNone-mapped (λ r. r.frame) (page_at (map (seen c.self.inside.pool) c.self.inside.order.entries) c.args.uid c.args.page))

pub returns-clause-in_it : goal.returns-clause-in_it
returns-clause-in_it c = rw (← c.self.view_is, c.copied.ensures, c.peek.ensures) (page_in-ordered c.self.inside.pool c.self.inside.reserved c.self.inside.order.entries c.self.inside.order.cap c.self.inside.index.entries c.self.invariant.0 (record { uid = c.args.uid; page = c.args.page }))

pub returns-clause-is_frame : goal.returns-clause-is_frame
returns-clause-is_frame c = rw (← c.self.view_is, c.copied.ensures, c.peek.ensures) (IsFrame-ordered c.self.inside.pool c.self.inside.reserved c.self.inside.order.entries c.self.inside.order.cap c.self.inside.index.entries c.self.invariant.0 (record { uid = c.args.uid; page = c.args.page }))

pub returns-clause-cache : goal.returns-clause-cache
returns-clause-cache c = rw (← c.self.view_is) (IsCache-sound c.self.inside.pool c.self.inside.reserved c.self.inside.order.entries c.self.inside.order.cap c.self.inside.index.entries c.self.invariant.0)
