use Rattle.std.proofs.Common.{rules, ◌≡◌, ◌+◌, ◌-◌, ◌/◌, ◌%◌, length, arith, true, refl, ap, sym, ◌∙◌}
use Rattle.std.specs.Prelude.{replicate}
use Rattle.std.specs.HashMap.{get}
use Rattle.uid_names.specs.Names.{same_uid}
use Rattle.uid_names.specs.declared.limits.TheConstants.{PAGE_BYTES}
use Rattle.uid_names.proofs.Orders.{same_uid_is}
use Rattle.plain_store.specs.KeptPages.{same_page, page_in}
use Rattle.plain_store.proofs.PageBytes.{stored-byte}
use Rattle.plain_store.proofs.pages.Pages.store.Goals as goal

pub returns-clause-ok : goal.returns-clause-ok
returns-clause-ok c = λ v o.
    let l : length c.page-page.result ≡ PAGE_BYTES = search rules in
    let k : c.args.offset % PAGE_BYTES + length c.args.bytes.now - c.args.offset % PAGE_BYTES ≡ length c.args.bytes.now = omega arith in
    let was : same_uid c.args.uid v ≡ true → c.args.offset / PAGE_BYTES ≡ o / PAGE_BYTES → page_in c.args.self.now v (o / PAGE_BYTES) ≡ c.page-page.result =
    λ same number. ap (λ u. page_in c.args.self.now u (o / PAGE_BYTES)) (sym (same_uid_is c.args.uid v same)) ∙ ap (page_in c.args.self.now c.args.uid) (sym number) ∙ sym c.page-page.ensures in
    rw (c.in_ok-insert.ensures.updates.0 (v, o / PAGE_BYTES), c.copy_from_slice.ensures.after)
    (stored-byte (same_uid c.args.uid v) _ (get same_page c.args.self.now.pages (v, o / PAGE_BYTES)) c.page-page.result (replicate PAGE_BYTES 0) c.args.bytes.now c.args.offset o _ c.requires l k refl was)
