use Rattle.std.proofs.Common.{◌∙◌, sym}
use Rattle.fault_handler.proofs.Shown.{dirty_page-shown, IfSome-resident}
use Rattle.fault_handler.proofs.pages.ResidentPages.dirty_of.Goals as goal

pub returns-clause-lowest : goal.returns-clause-lowest
returns-clause-lowest c = rw (← c.self.view_is) (c.dirty_of.ensures.lowest ∙ sym (dirty_page-shown c.self.inside.cache.pages c.args.uid))

pub returns-clause-resident : goal.returns-clause-resident
returns-clause-resident c = rw (← c.self.view_is) (IfSome-resident c.self.inside.cache.pages c.args.uid c.dirty_of.result c.dirty_of.ensures.resident)
