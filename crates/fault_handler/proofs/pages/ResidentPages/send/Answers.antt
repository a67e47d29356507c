use Rattle.std.proofs.Common.{◌≡◌, ◌-◌, ◌∙◌, ap, map, refl, List, arith}
use Rattle.page_cache.specs.Caches.{Resident}
use Rattle.fault_handler.specs.ShownPages.{changed_page, as_sent}
use Rattle.fault_handler.specs.Unseen.{bare, marked_sent}
use Rattle.fault_handler.specs.Transits.{going}
use Rattle.fault_handler.proofs.Fours.{length-put}
use Rattle.fault_handler.proofs.Shown.{IsResident-unshown, flags_set, changed_page-shown, same_paged}
use Rattle.fault_handler.proofs.Marks.{marked-sent}
use Rattle.fault_handler.proofs.pages.ResidentPages.send.Goals as goal
use Rattle.fault_handler.proofs.pages.ResidentPages.send.Goals.{After-index-self-index_of}

pub frame_of-frame-requires : goal.frame_of-frame-requires
frame_of-frame-requires c = IsResident-unshown c.self.inside.cache.pages c.args.uid c.args.page (rw (← c.self.view_is) at c.requires.resident)

-- the flags are set of the page
named : (c : After-index-self-index_of) → c.set_flags.new.self ≡ record c.self.inside.cache { pages = changed_page c.args.uid c.args.page marked_sent c.self.inside.cache.pages }
named c =
    c.set_flags.ensures
    ∙ ap {A = List Resident} (λ pages. record c.self.inside.cache { pages = pages })
    (flags_set c.self.inside.cache c.frame_of-frame.ensures.cache c.args.uid c.args.page c.frame_of-frame.result c.frame_of-frame.ensures.in_it
    (IsResident-unshown c.self.inside.cache.pages c.args.uid c.args.page (rw (← c.self.view_is) at c.requires.resident)) c.flags-flags.result _ c.flags-flags.ensures marked_sent (λ r is. rw is refl))

pub invariant_of-self : goal.invariant_of-self
invariant_of-self c =
    let at : c.index_of.result ≡ c.args.proc.number - 1 = omega arith in
    let asked = rw (← c.self.view_is) at c.requires in
    rw (at, named c)
    (record {
      four = length-put c.self.inside.moving c.args.proc.number (going c.args.uid c.args.page) c.self.invariant.four;
      marked = marked-sent c.self.inside.moving c.self.inside.cache.pages c.self.invariant.marked c.args.proc.number c.args.uid c.args.page c.self.invariant.four (omega arith, omega arith) asked.alone;
    })

pub returns : goal.returns
returns c =
    let at : c.index_of.result ≡ c.args.proc.number - 1 = omega arith in
    rw (← c.self.view_is, at, named c)
    (same_paged _ _ _ _ _ _ _ refl (changed_page-shown c.args.uid c.args.page marked_sent as_sent (λ r. refl) c.self.inside.cache.pages) refl)
