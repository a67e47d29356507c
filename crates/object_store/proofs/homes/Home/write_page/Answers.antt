use Rattle.std.proofs.Common.{ap, ◌∙◌, get_or}
use Rattle.object_store.specs.HomeStates.{after_page}
use Rattle.object_store.specs.Kept.{IsAttr}
use Rattle.object_store.proofs.RowLemmas.{IsAttr-get_or}
use Rattle.object_store.proofs.Closings.{page_written, on-success}
use Rattle.object_store.proofs.homes.Home.write_page.Goals as goal

pub page_write-requires-clause-low : goal.page_write-requires-clause-low
page_write-requires-clause-low g c =
    let stands = rw (← c.self.view_is) at c.in-Some.ensures in
    let range : IsAttr (get_or c.self.inside.objects.items c.in-Some.at c.index.result.now).attr = IsAttr-get_or _ c.self.inside.objects.items c.in-Some.at c.index.result.now stands.within c.self.invariant.0.rows in
    rw c.index.ensures range.stamp_low

pub invariant_of-self-2 : goal.invariant_of-self-2
invariant_of-self-2 g c =
    let stands = rw (← c.self.view_is) at c.in-Some.ensures in
    let put = rw c.counter.ensures.value at (on-success c.put.result c.put.ensures.ok c.if-is_err.ensures.value) in
    (page_written _ c.args.uid c.in-Some.at c.self.inside.taken c.args.page c.args.base c.in_ok-stamp.stamp c.args.bytes.now c.index.result.now c.index_mut.result.now _
    c.self.invariant.0 c.self.invariant.1 stands c.index.ensures c.index_mut.ensures.value c.told-bytes c.in_ok-stamp.ensures.rule put).1

pub returns-clause-ok : goal.returns-clause-ok
returns-clause-ok g c =
    let stands = rw (← c.self.view_is) at c.in-Some.ensures in
    let put = rw c.counter.ensures.value at (on-success c.put.result c.put.ensures.ok c.if-is_err.ensures.value) in
    (page_written _ c.args.uid c.in-Some.at c.self.inside.taken c.args.page c.args.base c.in_ok-stamp.stamp c.args.bytes.now c.index.result.now c.index_mut.result.now _
    c.self.invariant.0 c.self.invariant.1 stands c.index.ensures c.index_mut.ensures.value c.told-bytes c.in_ok-stamp.ensures.rule put).0
    ∙ ap (λ home. after_page home c.args.uid.counter c.args.page c.args.bytes.now) c.self.view_is

pub returns-clause-kept : goal.returns-clause-kept
returns-clause-kept g c = (invariant_of-self-2 g c).0
