use Rattle.std.proofs.Common.{◌∙◌, ap, sym, refl}
use Rattle.std.specs.Option.{option_map}
use Rattle.fault_handler.proofs.Shown.{dirty-shown, dirty-of, absent-shown}
use Rattle.fault_handler.proofs.pages.ResidentPages.is_dirty.Goals as goal

pub returns-in-Some : goal.returns-in-Some
returns-in-Some c = rw (← c.self.view_is) (sym (dirty-shown c.self.inside.cache.pages c.args.uid c.args.page ∙ dirty-of _ _ (rw c.in-Some.ensures.in_it at c.flags.ensures)))

pub returns-in-None : goal.returns-in-None
returns-in-None c = rw (← c.self.view_is, absent-shown c.self.inside.cache.pages c.args.uid c.args.page c.in-None.ensures.absent) refl
