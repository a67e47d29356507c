use Rattle.std.proofs.Common.{◌≡◌, ap}
use Rattle.page_cache.specs.Changes.{used}
use Rattle.fault_handler.specs.Desks.{DeskState}
use Rattle.fault_handler.specs.Changes.{with_used}
use Rattle.fault_handler.specs.Insides.{desk_of}
use Rattle.fault_handler.proofs.PageKeeps.{IsDesk-with_stored}
use Rattle.fault_handler.proofs.desk.Desk.store_in_place.Goals as goal

pub invariant_of-self : goal.invariant_of-self
invariant_of-self c =
    let last : with_used (desk_of c.self.inside) c.args.uid c.args.page ≡ desk_of c.self.inside = rw (← c.self.view_is) at c.requires.last in
    let same : used c.self.inside.pages.cache.pages c.args.uid c.args.page ≡ c.self.inside.pages.cache.pages = ap (λ (d : DeskState). d.cache.pages) last in
    let kept = IsDesk-with_stored (desk_of c.self.inside) c.args.uid c.args.page c.args.start c.args.bytes.now c.args.proc.number c.self.invariant c.kept.ensures.process c.requires.within (rw (← c.self.view_is) at c.requires.writes) in
    rw c.store_in_place.ensures (rw same at kept)
