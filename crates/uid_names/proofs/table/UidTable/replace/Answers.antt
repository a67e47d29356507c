use Rattle.std.proofs.Common.{◌≡◌, set}
use Rattle.uid_names.specs.Tables.{with_row}
use Rattle.uid_names.proofs.Tables.{set-with_row, AreRising-with_row}
use Rattle.uid_names.proofs.table.UidTable.replace.Given.{Over}
use Rattle.uid_names.proofs.table.UidTable.replace.Goals as goal

-- the row takes the place of the one that was there
replaced : (g : Over) (c : goal.After-self-1 g) → set c.self.inside.rows.items c.in-Ok.at c.args.row ≡ with_row g.R.UidRow.name c.args.row c.self.inside.rows.items
replaced g c = set-with_row g.R.UidRow.name c.args.row c.uid.result c.uid.ensures c.self.inside.rows.items c.deref.result.now c.deref.ensures.value c.self.invariant c.in-Ok.at c.in-Ok.ensures.place c.in-Ok.ensures.found

pub invariant_of-self : goal.invariant_of-self
invariant_of-self g c = rw (replaced g c) (AreRising-with_row g.R.UidRow.name c.args.row c.self.inside.rows.items c.self.invariant)

pub returns : goal.returns
returns g c = rw (← c.self.view_is) (replaced g c)
