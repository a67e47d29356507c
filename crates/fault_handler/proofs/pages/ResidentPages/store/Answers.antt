use Rattle.std.proofs.Common.{◌≡◌, ◌∙◌, ap, sym, map, refl, List}
use Rattle.page_cache.specs.Caches.{Resident, Cached, IsResident, page_at}
use Rattle.page_cache.specs.Changes.{used}
use Rattle.fault_handler.specs.ShownPages.{written, changed_page}
use Rattle.fault_handler.specs.Unseen.{bare}
use Rattle.fault_handler.proofs.Shown.{resident-found, IsResident-shown, IsResident-used, IsSome-is, None-is, absent-shown, used-absent, used-shown, named_by, changed_page-shown, same_paged}
use Rattle.fault_handler.proofs.Marks.{marked-used, marked-same}
use Rattle.fault_handler.proofs.pages.ResidentPages.store.Goals as goal
use Rattle.fault_handler.proofs.pages.ResidentPages.store.Goals.{After-write}

-- the page was used, and changed in its frame
named : (c : After-write) → c.write.new.cache ≡ record c.self.inside.cache { pages = changed_page c.args.uid c.args.page (written c.args.start c.args.bytes.now) (used c.self.inside.cache.pages c.args.uid c.args.page) }
named c =
    let pages = c.self.inside.cache.pages in
    let resident = resident-found pages c.args.uid c.args.page c.in-Some.frame c.in-Some.ensures.frame in
    let after : IsResident c.use_page.new.self.pages c.args.uid c.args.page = rw c.use_page.ensures.pages (IsResident-used pages c.args.uid c.args.page resident) in
    let change = written c.args.start c.args.bytes.now in
    c.write.ensures
    ∙ ap {A = List Resident} (λ ps. record c.use_page.new.self { pages = ps }) (named_by c.use_page.new.self c.use_page.ensures.cache c.args.uid c.args.page c.in-Some.frame c.in-Some.ensures.in_it change change (λ r there. refl) (page_at c.use_page.new.self.pages c.args.uid c.args.page) refl after)
    ∙ ap {A = Cached} (λ n. record n { pages = changed_page c.args.uid c.args.page change n.pages }) c.use_page.ensures.pages

pub invariant_of-self : goal.invariant_of-self
invariant_of-self c =
    rw (named c)
    (record {
      four = c.self.invariant.four;
      marked = marked-same c.self.inside.moving (used c.self.inside.cache.pages c.args.uid c.args.page) (marked-used c.self.inside.moving c.self.inside.cache.pages c.self.invariant.marked c.args.uid c.args.page) c.args.uid c.args.page (written c.args.start c.args.bytes.now) (λ r is. is);
    })

pub invariant_of-self-in-None : goal.invariant_of-self-in-None
invariant_of-self-in-None c = rw c.use_page.ensures.pages (record { four = c.self.invariant.four; marked = marked-used c.self.inside.moving c.self.inside.cache.pages c.self.invariant.marked c.args.uid c.args.page })

pub returns-in-Some-clause-resident : goal.returns-in-Some-clause-resident
returns-in-Some-clause-resident c =
    rw (← c.self.view_is)
    (IsSome-is _ (IsResident-shown c.self.inside.cache.pages c.args.uid c.args.page (resident-found c.self.inside.cache.pages c.args.uid c.args.page c.in-Some.frame c.in-Some.ensures.frame)))

pub returns-in-Some-clause-stored : goal.returns-in-Some-clause-stored
returns-in-Some-clause-stored c =
    let pages = c.self.inside.cache.pages in
    let change = written c.args.start c.args.bytes.now in
    rw (← c.self.view_is, named c)
    (same_paged _ _ _ _ _ _ _ refl (changed_page-shown c.args.uid c.args.page change change (λ r. refl) (used pages c.args.uid c.args.page) ∙ ap (changed_page c.args.uid c.args.page change) (sym (used-shown pages c.args.uid c.args.page))) refl)

pub returns-in-None-clause-resident : goal.returns-in-None-clause-resident
returns-in-None-clause-resident c = rw (← c.self.view_is) (None-is _ (absent-shown c.self.inside.cache.pages c.args.uid c.args.page c.in-None.ensures.absent))

pub returns-in-None-clause-absent : goal.returns-in-None-clause-absent
returns-in-None-clause-absent c = rw (← c.self.view_is) (absent-shown c.self.inside.cache.pages c.args.uid c.args.page c.in-None.ensures.absent)

pub returns-in-None-clause-left : goal.returns-in-None-clause-left
returns-in-None-clause-left c = rw (← c.self.view_is, c.use_page.ensures.pages) (same_paged _ _ _ _ _ _ _ refl (ap (map bare) (used-absent c.self.inside.cache.pages c.args.uid c.args.page c.in-None.ensures.absent)) refl)
