use Rattle.std.proofs.Common.{◌≡◌, ◌≤◌, ◌∙◌, refl, arith}
use Rattle.std.specs.NonZero.{non_zero_usize_get}
use Rattle.page_cache.proofs.CacheLemmas.{IsSound-empty}
use Rattle.page_cache.proofs.cache.Cache.new.Goals as goal

pub invariant_of-result : goal.invariant_of-result
invariant_of-result c =
    let places : non_zero_usize_get c.in-Some.places ≡ c.args.frames = c.in-Some.ensures ∙ c.from.ensures in
    let enough : c.args.frames ≤ non_zero_usize_get c.in-Some.places = omega arith in
    rw (c.in-Ok.ensures, c.in_ok-order.ensures)
    (IsSound-empty c.args.frames (non_zero_usize_get c.in-Some.places) c.new-in-Ok.result.entries c.requires.few c.requires.many enough c.new-in-Ok.ensures.empty, refl)
