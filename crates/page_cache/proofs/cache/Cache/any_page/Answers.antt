use Rattle.std.proofs.Common.{◌≡◌, ◌∙◌, ap, sym}
use Rattle.std.specs.BTreeMap.Range.{entries_between}
use Rattle.page_cache.specs.Insides.{name_cmp}
use Rattle.page_cache.proofs.IndexLemmas.{part_of, none-part_of, IsResident-part_of}
use Rattle.page_cache.proofs.cache.Cache.any_page.Goals as goal

pub returns-in_err-name-clause-none : goal.returns-in_err-name-clause-none
returns-in_err-name-clause-none c =
    let index = c.self.inside.index.entries in
    let part : c.range.result ≡ part_of c.args.uid index = c.range.ensures.between tt ∙ ap (λ ends. entries_between name_cmp ends.0 ends.1 index) c.names_of.ensures in
    rw (c.from_residual.ensures, ← c.self.view_is)
    (none-part_of c.self.inside.pool index c.self.inside.order.entries c.self.invariant.0.indexed c.self.invariant.0.numbered c.args.uid (sym part ∙ c.in_err-name.ensures.steps.0))

pub returns-clause-resident : goal.returns-clause-resident
returns-clause-resident c =
    let index = c.self.inside.index.entries in
    let part : c.range.result ≡ part_of c.args.uid index = c.range.ensures.between tt ∙ ap (λ ends. entries_between name_cmp ends.0 ends.1 index) c.names_of.ensures in
    rw (← c.self.view_is)
    (IsResident-part_of c.self.inside.pool index c.self.inside.order.entries c.self.invariant.0.indexed c.self.invariant.0.numbered c.args.uid (c.in_ok-name.name.now, c.in_ok-name.field-0-1.now) c.next.new.self (sym part ∙ c.in_ok-name.ensures.steps))
