use Rattle.std.proofs.Common.{◌≡◌, ◌∙◌, set}
use Rattle.uid_names.specs.Tables.{with_row}
use Rattle.uid_names.proofs.Tables.{set-with_row, insert-with_row, AreRising-with_row}
use Rattle.uid_names.proofs.table.UidTable.set.Given.{Over}
use Rattle.uid_names.proofs.table.UidTable.set.Goals as goal

-- the row takes the place of the one that was there
replaced : (g : Over) (c : goal.After-self-1 g) → set c.self.inside.rows.items c.in-Ok.at c.args.row ≡ with_row g.R.UidRow.name c.args.row c.self.inside.rows.items
replaced g c = set-with_row g.R.UidRow.name c.args.row c.uid.result c.uid.ensures c.self.inside.rows.items c.deref.result.now c.deref.ensures.value c.self.invariant c.in-Ok.at c.in-Ok.ensures.place c.in-Ok.ensures.found

pub invariant_of-self : goal.invariant_of-self
invariant_of-self g c = rw (replaced g c) (AreRising-with_row g.R.UidRow.name c.args.row c.self.inside.rows.items c.self.invariant)

-- or goes in where there was none
inserted : (g : Over) (c : goal.In_ok-insert-in-Err g) → c.insert.new.self.items ≡ with_row g.R.UidRow.name c.args.row c.self.inside.rows.items
inserted g c = c.in_ok-insert-in-Err.ensures.items ∙ insert-with_row g.R.UidRow.name c.args.row c.uid.result c.uid.ensures c.self.inside.rows.items c.deref.result.now c.deref.ensures.value c.in-Err.at c.in-Err.ensures.place c.in-Err.ensures.found

pub invariant_of-self-in-Continue-1 : goal.invariant_of-self-in-Continue-1
invariant_of-self-in-Continue-1 g c = rw (inserted g c) (AreRising-with_row g.R.UidRow.name c.args.row c.self.inside.rows.items c.self.invariant)

pub returns-in-Ok-clause-set : goal.returns-in-Ok-clause-set
returns-in-Ok-clause-set g c = rw (← c.self.view_is) (replaced g c)

pub returns-in_ok-insert-in-Err-clause-set : goal.returns-in_ok-insert-in-Err-clause-set
returns-in_ok-insert-in-Err-clause-set g c = rw (← c.self.view_is) (inserted g c)
