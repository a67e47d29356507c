use Rattle.std.proofs.Common.{refl, sym}
use Rattle.fault_handler.proofs.Shown.{without_page-shown, same_paged}
use Rattle.fault_handler.proofs.Marks.{marked-without}
use Rattle.fault_handler.proofs.pages.ResidentPages.remove.Goals as goal

pub invariant_of-self : goal.invariant_of-self
invariant_of-self c = rw c.remove.ensures (record { four = c.self.invariant.four; marked = marked-without c.self.inside.moving c.self.inside.cache.pages c.self.invariant.marked c.args.uid c.args.page })

pub returns : goal.returns
returns c = rw (← c.self.view_is, c.remove.ensures) (same_paged _ _ _ _ _ _ _ refl (sym (without_page-shown c.self.inside.cache.pages c.args.uid c.args.page)) refl)
