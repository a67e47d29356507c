use Rattle.std.proofs.Common.{◌≡◌, ◌∙◌, ap, map, refl}
use Rattle.page_cache.specs.Caches.{page_at}
use Rattle.page_cache.specs.Changes.{changed_in}
use Rattle.fault_handler.specs.ShownPages.{changed_page, written}
use Rattle.fault_handler.specs.Unseen.{bare}
use Rattle.fault_handler.proofs.Shown.{IsResident-unshown, named_by, changed_page-shown, same_paged}
use Rattle.fault_handler.proofs.Marks.{marked-same}
use Rattle.fault_handler.proofs.pages.ResidentPages.store_in_place.Goals as goal
use Rattle.fault_handler.proofs.pages.ResidentPages.store_in_place.Goals.{After-write}

pub frame_of-frame-requires : goal.frame_of-frame-requires
frame_of-frame-requires c = IsResident-unshown c.self.inside.cache.pages c.args.uid c.args.page (rw (← c.self.view_is) at c.requires.resident)

-- the frame is that of the page
named : (c : After-write) → changed_in c.frame_of-frame.result (written c.args.start c.args.bytes.now) c.self.inside.cache.pages ≡ changed_page c.args.uid c.args.page (written c.args.start c.args.bytes.now) c.self.inside.cache.pages
named c =
    named_by c.self.inside.cache c.frame_of-frame.ensures.cache c.args.uid c.args.page c.frame_of-frame.result c.frame_of-frame.ensures.in_it (written c.args.start c.args.bytes.now) (written c.args.start c.args.bytes.now) (λ r there. refl) (page_at c.self.inside.cache.pages c.args.uid c.args.page) refl
    (IsResident-unshown c.self.inside.cache.pages c.args.uid c.args.page (rw (← c.self.view_is) at c.requires.resident))

pub invariant_of-self : goal.invariant_of-self
invariant_of-self c =
    rw (c.write.ensures, named c)
    (record { four = c.self.invariant.four; marked = marked-same c.self.inside.moving c.self.inside.cache.pages c.self.invariant.marked c.args.uid c.args.page (written c.args.start c.args.bytes.now) (λ r is. is) })

pub returns : goal.returns
returns c =
    rw (← c.self.view_is, c.write.ensures)
    (same_paged _ _ _ _ _ _ _ refl (ap (map bare) (named c) ∙ changed_page-shown c.args.uid c.args.page (written c.args.start c.args.bytes.now) (written c.args.start c.args.bytes.now) (λ r. refl) c.self.inside.cache.pages) refl)
