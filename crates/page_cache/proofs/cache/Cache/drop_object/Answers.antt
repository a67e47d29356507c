use Rattle.std.proofs.Common.{ap, sym, ◌∙◌}
use Rattle.page_cache.proofs.CacheLemmas.{without_object-without_page, without_object-none, length-without_page, cache_from_fields}
use Rattle.page_cache.proofs.cache.Cache.drop_object.Goals as goal

pub loop-page-smaller : goal.loop-page-smaller
loop-page-smaller c = rw c.remove.ensures (length-without_page c.loop-page.self.pages c.args.uid c.in-Some.page c.in-Some.ensures.resident)

pub loop-page-preserved : goal.loop-page-preserved
loop-page-preserved c = record {
  frames = ap (λ x. x.frames) c.remove.ensures ∙ c.loop-page.invariant.frames;
  reserved = ap (λ x. x.reserved) c.remove.ensures ∙ c.loop-page.invariant.reserved;
  pages = rw c.remove.ensures (without_object-without_page c.loop-page.self.pages c.args.uid c.in-Some.page ∙ c.loop-page.invariant.pages);
}

pub returns : goal.returns
returns c =
    cache_from_fields c.loop-page.self _ _ _ c.loop-page.invariant.frames c.loop-page.invariant.reserved
    (sym (without_object-none c.loop-page.self.pages c.args.uid c.in_default.ensures.none) ∙ c.loop-page.invariant.pages)
