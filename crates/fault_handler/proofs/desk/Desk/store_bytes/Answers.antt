use Rattle.fault_handler.specs.Invariant.{IsDesk}
use Rattle.fault_handler.specs.Insides.{desk_of}
use Rattle.fault_handler.specs.Unseen.{Paged}
use Rattle.fault_handler.proofs.Shown.{stored-keeps}
use Rattle.fault_handler.proofs.PageKeeps.{IsDesk-with_stored}
use Rattle.fault_handler.proofs.desk.Desk.store_bytes.Goals as goal

pub invariant_of-self : goal.invariant_of-self
invariant_of-self c =
    stored-keeps (λ (paged : Paged). IsDesk (record (desk_of c.self.inside) { cache = paged.cache; moving = paged.moving })) c.self.inside.pages c.store.new.self _ c.store.result c.self.invariant
    (IsDesk-with_stored (desk_of c.self.inside) c.args.uid c.args.page c.args.start c.args.bytes.now c.args.proc.number c.self.invariant c.kept.ensures.process c.requires.within (rw (← c.self.view_is) at c.requires.writes))
    c.store.ensures.stored c.store.ensures.left
