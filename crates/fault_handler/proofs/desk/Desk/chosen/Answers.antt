use Rattle.std.proofs.Common.{◌∙◌, sym}
use Rattle.fault_handler.specs.Insides.{desk_of}
use Rattle.fault_handler.proofs.Reached.{no-victim, chosen-one}
use Rattle.fault_handler.proofs.Choice.{victim-there}
use Rattle.fault_handler.proofs.desk.Desk.chosen.Goals as goal

pub unreachable-requires-in-None : goal.unreachable-requires-in-None
unreachable-requires-in-None c =
    let asked = rw (← c.self.view_is) at c.requires in
    let there = victim-there (desk_of c.self.inside) c.args.proc.number c.self.invariant c.kept.ensures.process asked.idle.no_page asked.full in
    no-victim c.self.inside.pages.moving c.self.inside.pages.cache.pages there (sym c.in-None.is ∙ c.victim.ensures.victim)

pub returns-clause-chosen : goal.returns-clause-chosen
returns-clause-chosen c = rw (← c.self.view_is) (chosen-one c.self.inside.pages.moving c.self.inside.pages.cache.pages c.in-Some.name.0 c.in-Some.name.1 c.self.invariant.pages.once (sym c.in-Some.is ∙ c.victim.ensures.victim)).0

pub returns-clause-still : goal.returns-clause-still
returns-clause-still c = rw (← c.self.view_is) (chosen-one c.self.inside.pages.moving c.self.inside.pages.cache.pages c.in-Some.name.0 c.in-Some.name.1 c.self.invariant.pages.once (sym c.in-Some.is ∙ c.victim.ensures.victim)).1
