use Rattle.fault_handler.specs.Invariant.{IsDesk}
use Rattle.fault_handler.specs.Insides.{desk_of}
use Rattle.fault_handler.specs.Unseen.{Paged}
use Rattle.fault_handler.proofs.Shown.{loaded-keeps}
use Rattle.fault_handler.proofs.PageKeeps.{IsDesk-with_used}
use Rattle.fault_handler.proofs.desk.Desk.load_page.Goals as goal

pub invariant_of-self : goal.invariant_of-self
invariant_of-self c =
    loaded-keeps (λ (paged : Paged). IsDesk (record (desk_of c.self.inside) { cache = paged.cache; moving = paged.moving })) c.self.inside.pages c.load.new.self c.args.uid c.args.page c.load.result c.self.invariant
    (IsDesk-with_used (desk_of c.self.inside) c.args.uid c.args.page c.self.invariant) c.load.ensures.used c.load.ensures.left
