use Rattle.fault_handler.proofs.Shown.{resident_pages-shown}
use Rattle.fault_handler.proofs.pages.ResidentPages.pages_of.Goals as goal

pub returns : goal.returns
returns c = rw (← c.self.view_is, resident_pages-shown c.self.inside.cache.pages c.args.uid) c.pages_of.ensures
