use Rattle.std.proofs.Common.{ap, sym, ◌∙◌}
use Rattle.page_store.specs.Volumes.{page_of}
use Rattle.page_store.specs.Rows.{StandsAt, WouldStandAt}
use Rattle.page_store.proofs.Listed.{page_of-StandsAt, page_of-WouldStandAt}
use Rattle.page_store.proofs.list_pages.ListPagesPages.find.Goals as goal

pub returns-in-Ok : goal.returns-in-Ok
returns-in-Ok c =
    let rows = c.self.inside.rows.items in
    let found : StandsAt rows (c.args.counter, c.args.page) c.in-Ok.at = rw c.as_slice.ensures.value at c.in-Ok.ensures in
    sym (ap (λ row. row.bytes) c.index.ensures
    ∙ page_of-StandsAt rows c.args.counter c.args.page c.in-Ok.at _ c.self.invariant found
    ∙ ap (λ v. page_of v c.args.counter c.args.page) c.self.view_is)

pub returns-in-Err : goal.returns-in-Err
returns-in-Err c =
    let rows = c.self.inside.rows.items in
    let found : WouldStandAt rows (c.args.counter, c.args.page) c.in-Err.field-0 = rw c.as_slice.ensures.value at c.in-Err.ensures in
    sym (page_of-WouldStandAt rows c.args.counter c.args.page c.in-Err.field-0 c.self.invariant found
    ∙ ap (λ v. page_of v c.args.counter c.args.page) c.self.view_is)
