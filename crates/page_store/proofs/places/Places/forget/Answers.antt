use Rattle.page_store.proofs.PlacedLemmas.{placed_of-forgotten, IfSome-places}
use Rattle.page_store.proofs.places.Places.forget.Goals as goal

pub returns-clause-others : goal.returns-clause-others
returns-clause-others c =
    rw (← c.self.view_is) (placed_of-forgotten c.self.inside.objects.entries c.remove.new.self.entries c.self.invariant c.remove.ensures.unique c.args.counter c.remove.ensures.updates.0)

pub returns-clause-own : goal.returns-clause-own
returns-clause-own c = rw (← c.self.view_is) (IfSome-places c.self.inside.objects.entries c.self.invariant c.args.counter c.remove.result c.remove.ensures.value)
