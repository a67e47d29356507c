use Rattle.object_store.proofs.RowLemmas.{IsAttr-get_or}
use Rattle.object_store.proofs.homes.Home.look.Goals as goal

pub returns-in-Some-clause-ranges : goal.returns-in-Some-clause-ranges
returns-in-Some-clause-ranges g c =
    let stands = rw (← c.self.view_is) at c.in-Some.ensures in
    rw c.index.ensures (IsAttr-get_or _ c.self.inside.objects.items c.in-Some.at c.index.result.now stands.within c.self.invariant.0.rows)
