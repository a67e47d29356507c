use Rattle.std.proofs.Common.{◌≡◌, ◌<◌, true, length, sym}
use Rattle.std.specs.Prelude.{is_some}
use Rattle.uid_names.specs.Tables.{row_of, place_of}
use Rattle.uid_names.proofs.Tables.{row_of-found}
use Rattle.uid_names.proofs.table.UidTable.of.Goals as goal

pub returns-in-Ok : goal.returns-in-Ok
returns-in-Ok g c =
    let name = g.R.UidRow.name in
    let rows = c.self.inside.rows.items in
    let found : is_some (row_of name c.args.uid rows) ≡ true = sym (rw c.deref.ensures.value at c.in-Ok.ensures.found) in
    let place : c.in-Ok.at ≡ place_of name c.args.uid rows = rw c.deref.ensures.value at c.in-Ok.ensures.place in
    let below : c.in-Ok.at < length rows = rw c.deref.ensures.value at c.in-Ok.ensures.bound in
    rw (← c.self.view_is) (sym (row_of-found name c.args.uid rows c.self.invariant c.in-Ok.at c.index.result.now place below c.index.ensures found))
