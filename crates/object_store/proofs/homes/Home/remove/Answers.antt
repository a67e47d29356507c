use Rattle.std.proofs.Common.{ap, ◌∙◌}
use Rattle.object_store.specs.HomeStates.{after_remove}
use Rattle.object_store.proofs.Closings.{removed}
use Rattle.object_store.proofs.homes.Home.remove.Goals as goal

pub invariant_of-self : goal.invariant_of-self
invariant_of-self g c =
    let stands = rw (← c.self.view_is) at c.in-Some.ensures in
    let dropped = rw c.counter.ensures.value at c.drop_object.ensures in
    (removed _ c.args.uid c.in-Some.at c.self.inside.taken c.remove-row.result c.remove-row.new.self.items _ c.self.invariant.0 c.self.invariant.1
    stands c.remove-row.ensures.value c.remove-row.ensures.items dropped).1

pub returns-clause-ok : goal.returns-clause-ok
returns-clause-ok g c =
    let stands = rw (← c.self.view_is) at c.in-Some.ensures in
    let dropped = rw c.counter.ensures.value at c.drop_object.ensures in
    (removed _ c.args.uid c.in-Some.at c.self.inside.taken c.remove-row.result c.remove-row.new.self.items _ c.self.invariant.0 c.self.invariant.1
    stands c.remove-row.ensures.value c.remove-row.ensures.items dropped).0
    ∙ ap (λ home. after_remove home c.args.uid.counter) c.self.view_is

pub returns-clause-kept : goal.returns-clause-kept
returns-clause-kept g c = (invariant_of-self g c).0
