use Rattle.std.proofs.Common.{◌∙◌}
use Rattle.fault_handler.proofs.Shown.{bytes-shown, IsResident-unshown}
use Rattle.fault_handler.proofs.pages.ResidentPages.bytes.Goals as goal

pub frame_of-requires : goal.frame_of-requires
frame_of-requires c = IsResident-unshown c.self.inside.cache.pages c.args.uid c.args.page (rw (← c.self.view_is) at c.requires)

pub returns : goal.returns
returns c = rw (← c.self.view_is) (bytes-shown c.self.inside.cache.pages c.args.uid c.args.page ∙ rw c.frame_of.ensures.in_it at c.bytes.ensures)
