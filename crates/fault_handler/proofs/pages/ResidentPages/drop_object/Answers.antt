use Rattle.std.proofs.Common.{refl, sym}
use Rattle.fault_handler.proofs.Shown.{without_object-shown, same_paged}
use Rattle.fault_handler.proofs.Marks.{marked-without_object}
use Rattle.fault_handler.proofs.pages.ResidentPages.drop_object.Goals as goal

pub invariant_of-self : goal.invariant_of-self
invariant_of-self c = rw c.drop_object.ensures (record { four = c.self.invariant.four; marked = marked-without_object c.self.inside.moving c.self.inside.cache.pages c.self.invariant.marked c.args.uid })

pub returns : goal.returns
returns c = rw (← c.self.view_is, c.drop_object.ensures) (same_paged _ _ _ _ _ _ _ refl (sym (without_object-shown c.self.inside.cache.pages c.args.uid)) refl)
