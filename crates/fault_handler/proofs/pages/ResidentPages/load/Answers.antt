use Rattle.std.proofs.Common.{◌∙◌, ap, sym, refl, map}
use Rattle.std.specs.Option.{option_map}
use Rattle.page_cache.specs.Caches.{page_at}
use Rattle.fault_handler.specs.Unseen.{bare}
use Rattle.fault_handler.proofs.PageLists.{page_at-used}
use Rattle.fault_handler.proofs.Shown.{bytes-shown, absent-shown, used-shown, used-absent, taken-there, taken-absent, same_paged}
use Rattle.fault_handler.proofs.Marks.{marked-used}
use Rattle.fault_handler.proofs.pages.ResidentPages.load.Goals as goal

pub returns-clause-bytes : goal.returns-clause-bytes
returns-clause-bytes c =
    let pages = c.self.inside.cache.pages in
    let same = ap (λ n. page_at n.pages c.args.uid c.args.page) c.use_page.ensures.pages ∙ page_at-used pages c.args.uid c.args.page c.args.uid c.args.page in
    let has = bytes-shown pages c.args.uid c.args.page ∙ ap (option_map (λ r. r.bytes)) (sym (c.in-Some.ensures.in_it ∙ same)) ∙ c.bytes.ensures in
    rw (← c.self.view_is) (taken-there _ c.args.start c.args.count c.bytes.result.now c.copied-bytes.result has c.copied-bytes.ensures)

pub returns-clause-used : goal.returns-clause-used
returns-clause-used c = rw (← c.self.view_is, c.use_page.ensures.pages) (same_paged _ _ _ _ _ _ _ refl (sym (used-shown c.self.inside.cache.pages c.args.uid c.args.page)) refl)

pub returns-in_default-clause-bytes : goal.returns-in_default-clause-bytes
returns-in_default-clause-bytes c = rw (← c.self.view_is) (taken-absent c.self.inside.cache.pages c.args.uid c.args.page c.args.start c.args.count c.in_default.ensures.absent)

pub returns-in_default-clause-absent : goal.returns-in_default-clause-absent
returns-in_default-clause-absent c = rw (← c.self.view_is) (absent-shown c.self.inside.cache.pages c.args.uid c.args.page c.in_default.ensures.absent)

pub returns-in_default-clause-left : goal.returns-in_default-clause-left
returns-in_default-clause-left c = rw (← c.self.view_is, c.use_page.ensures.pages) (same_paged _ _ _ _ _ _ _ refl (ap (map bare) (used-absent c.self.inside.cache.pages c.args.uid c.args.page c.in_default.ensures.absent)) refl)

pub invariant_of-self : goal.invariant_of-self
invariant_of-self c = rw c.use_page.ensures.pages (record { four = c.self.invariant.four; marked = marked-used c.self.inside.moving c.self.inside.cache.pages c.self.invariant.marked c.args.uid c.args.page })

pub invariant_of-self-2 : goal.invariant_of-self-2
invariant_of-self-2 c = rw c.use_page.ensures.pages (record { four = c.self.invariant.four; marked = marked-used c.self.inside.moving c.self.inside.cache.pages c.self.invariant.marked c.args.uid c.args.page })
