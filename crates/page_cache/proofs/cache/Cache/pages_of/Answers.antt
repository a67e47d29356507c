use Rattle.std.proofs.Common.{◌∙◌, map}
use Rattle.page_cache.specs.Caches.{is_of}
use Rattle.page_cache.specs.Numbers.{numbers}
use Rattle.page_cache.specs.Insides.{seen}
use Rattle.page_cache.proofs.NumberLemmas.{rising-same}
use Rattle.page_cache.proofs.IndexLemmas.{page_of, part_of, copies-part_of, IsFrom-part_of}
use Rattle.page_cache.proofs.cache.Cache.pages_of.Goals as goal

pub returns : goal.returns
returns c =
    let index = c.self.inside.index.entries in
    let slots = c.self.inside.order.entries in
    rw (← c.self.view_is)
    (c.from_vec.ensures ∙ c.in_ok-items.ensures.pages
    ∙ rising-same (numbers (is_of c.args.uid) (map (seen c.self.inside.pool) slots)) (map page_of (part_of c.args.uid index)) (IsFrom-part_of c.args.uid index c.in_ok-items.ensures.ordered)
    (copies-part_of c.self.inside.pool index slots c.self.invariant.0.indexed c.self.invariant.0.numbered c.args.uid))
