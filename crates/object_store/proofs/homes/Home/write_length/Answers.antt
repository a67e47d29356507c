use Rattle.std.proofs.Common.{ap, ◌∙◌, get_or}
use Rattle.object_store.specs.HomeStates.{after_length}
use Rattle.object_store.specs.Kept.{IsAttr}
use Rattle.object_store.proofs.RowLemmas.{IsAttr-get_or}
use Rattle.object_store.proofs.Closings.{length_written}
use Rattle.object_store.proofs.homes.Home.write_length.Goals as goal

pub length_write-requires-clause-low : goal.length_write-requires-clause-low
length_write-requires-clause-low g c =
    let stands = rw (← c.self.view_is) at c.in-Some.ensures in
    let range : IsAttr (get_or c.self.inside.objects.items c.in-Some.at c.index.result.now).attr = IsAttr-get_or _ c.self.inside.objects.items c.in-Some.at c.index.result.now stands.within c.self.invariant.0.rows in
    rw c.index.ensures range.stamp_low

pub invariant_of-self : goal.invariant_of-self
invariant_of-self g c =
    let stands = rw (← c.self.view_is) at c.in-Some.ensures in
    (length_written _ c.args.uid c.in-Some.at c.self.inside.taken c.args.length c.args.base c.in_ok-stamp.stamp c.index.result.now c.index_mut.result.now c.self.invariant.0 c.self.invariant.1
    stands c.index.ensures c.index_mut.ensures.value c.in_ok-stamp.ensures.rule).1

pub returns-clause-ok : goal.returns-clause-ok
returns-clause-ok g c =
    let stands = rw (← c.self.view_is) at c.in-Some.ensures in
    (length_written _ c.args.uid c.in-Some.at c.self.inside.taken c.args.length c.args.base c.in_ok-stamp.stamp c.index.result.now c.index_mut.result.now c.self.invariant.0 c.self.invariant.1
    stands c.index.ensures c.index_mut.ensures.value c.in_ok-stamp.ensures.rule).0
    ∙ ap (λ home. after_length home c.args.uid.counter c.args.length) c.self.view_is

pub returns-clause-kept : goal.returns-clause-kept
returns-clause-kept g c = (invariant_of-self g c).0
