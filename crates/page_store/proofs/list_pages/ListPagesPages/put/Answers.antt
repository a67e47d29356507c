use Rattle.std.proofs.Common.{ap, ◌∙◌}
use Rattle.page_store.specs.Rows.{StandsAt, WouldStandAt, volume_of}
use Rattle.page_store.proofs.Listed.{put-StandsAt, put-WouldStandAt}
use Rattle.page_store.proofs.list_pages.ListPagesPages.put.Goals as goal

pub invariant_of-self : goal.invariant_of-self
invariant_of-self c =
    let found : StandsAt c.self.inside.rows.items (c.args.counter, c.args.page) c.in-Ok.at = rw c.as_slice.ensures.value at c.in-Ok.ensures in
    let both = put-StandsAt c.self.inside.rows.items c.args.counter c.args.page c.args.bytes.now c.in-Ok.at c.index_mut.result.now c.self.invariant found in
    rw c.index_mut.ensures.value both.0

pub invariant_of-self-in-Err : goal.invariant_of-self-in-Err
invariant_of-self-in-Err c =
    let found : WouldStandAt c.self.inside.rows.items (c.args.counter, c.args.page) c.in-Err.at = rw c.as_slice.ensures.value at c.in-Err.ensures in
    rw c.in_ok-insert-in-Err.ensures.items (put-WouldStandAt c.self.inside.rows.items _ c.in-Err.at c.self.invariant found).0

pub returns-in-Ok-clause-ok : goal.returns-in-Ok-clause-ok
returns-in-Ok-clause-ok c =
    let found : StandsAt c.self.inside.rows.items (c.args.counter, c.args.page) c.in-Ok.at = rw c.as_slice.ensures.value at c.in-Ok.ensures in
    let both = put-StandsAt c.self.inside.rows.items c.args.counter c.args.page c.args.bytes.now c.in-Ok.at c.index_mut.result.now c.self.invariant found in
    rw (← c.self.view_is, c.index_mut.ensures.value) both.1

pub returns-in_ok-insert-in-Err-clause-ok : goal.returns-in_ok-insert-in-Err-clause-ok
returns-in_ok-insert-in-Err-clause-ok c =
    let found : WouldStandAt c.self.inside.rows.items (c.args.counter, c.args.page) c.in-Err.at = rw c.as_slice.ensures.value at c.in-Err.ensures in
    rw (← c.self.view_is)
    (ap volume_of c.in_ok-insert-in-Err.ensures.items ∙ (put-WouldStandAt c.self.inside.rows.items _ c.in-Err.at c.self.invariant found).1)
