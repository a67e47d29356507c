use Rattle.std.proofs.Common.{rules}
use Rattle.std.proofs.lemmas.Fn.{filter_same}
use Rattle.page_store.specs.Rows.{name_of}
use Rattle.page_store.proofs.Listed.{dropped}
use Rattle.page_store.specs.Volumes.{is_other}
use Rattle.page_store.proofs.list_pages.ListPagesPages.drop_object.Goals as goal

pub invariant_of-self : goal.invariant_of-self
invariant_of-self c =
    let kept = filter_same _ (λ row. is_other c.args.counter (name_of row)) _ (λ x b f k. search rules) _ _ c.retain.ensures.filtered in
    (dropped _ _ c.args.counter c.self.invariant kept).0

pub returns : goal.returns
returns c =
    let kept = filter_same _ (λ row. is_other c.args.counter (name_of row)) _ (λ x b f k. search rules) _ _ c.retain.ensures.filtered in
    rw (← c.self.view_is) (dropped _ _ c.args.counter c.self.invariant kept).1
