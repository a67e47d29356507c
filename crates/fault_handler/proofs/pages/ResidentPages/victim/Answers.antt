use Rattle.std.proofs.Common.{◌∙◌, sym}
use Rattle.fault_handler.proofs.Shown.{IfSome-named}
use Rattle.fault_handler.proofs.Marks.{named-shown}
use Rattle.fault_handler.proofs.pages.ResidentPages.victim.Goals as goal

pub returns-clause-victim : goal.returns-clause-victim
returns-clause-victim c = rw (← c.self.view_is) (c.victim.ensures.victim ∙ sym (named-shown c.self.inside.moving c.self.inside.cache.pages c.self.invariant.marked))

pub returns-clause-resident : goal.returns-clause-resident
returns-clause-resident c = rw (← c.self.view_is) (IfSome-named c.self.inside.cache.pages c.victim.result c.victim.ensures.resident)
