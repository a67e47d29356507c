use Rattle.std.proofs.Common.{◌≡◌, ◌∙◌, true, false, sym}
use Rattle.std.specs.Prelude.{is_some}
use Rattle.uid_names.specs.Tables.{row_of}
use Rattle.uid_names.proofs.Tables.{remove-place_of, without_row-none}
use Rattle.uid_names.proofs.table.UidTable.forget.Goals as goal

pub returns-in-Ok : goal.returns-in-Ok
returns-in-Ok g c =
    let name = g.R.UidRow.name in
    let rows = c.self.inside.rows.items in
    let found : is_some (row_of name c.args.uid rows) ≡ true = sym (rw c.deref.ensures.value at c.in-Ok.ensures.found) in
    rw (← c.self.view_is) (c.remove.ensures.items ∙ rw (c.in-Ok.ensures.place, c.deref.ensures.value) (remove-place_of name c.args.uid rows c.self.invariant found))

pub returns-in_default : goal.returns-in_default
returns-in_default g c =
    let name = g.R.UidRow.name in
    let rows = c.self.inside.rows.items in
    let none : is_some (row_of name c.args.uid rows) ≡ false = sym (rw c.deref.ensures.value at c.in_default.ensures.found) in
    rw (← c.self.view_is) (sym (without_row-none name c.args.uid rows none))
