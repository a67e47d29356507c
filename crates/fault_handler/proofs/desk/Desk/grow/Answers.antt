use Rattle.std.proofs.Common.{◌≡◌, ◌∙◌, sym, true}
use Rattle.fault_handler.specs.Entries.{keeps_writing}
use Rattle.fault_handler.specs.Desks.{entry_at}
use Rattle.fault_handler.specs.Insides.{desk_of}
use Rattle.fault_handler.proofs.Fours.{any-at}
use Rattle.fault_handler.proofs.KnownRows.{known-grown}
use Rattle.fault_handler.proofs.KnownKeeps.{IsDesk-with_end}
use Rattle.fault_handler.proofs.desk.Desk.grow.Goals as goal

pub replace-requires : goal.replace-requires
replace-requires c = rw c.grown.ensures (known-grown c.args.uid c.self.inside.known c.in-Some.known c.args.end (sym c.of.ensures ∙ c.in-Some.is))

pub invariant_of-self : goal.invariant_of-self
invariant_of-self c =
    let writes : keeps_writing (entry_at (desk_of c.self.inside).entries c.args.proc.number c.args.uid) ≡ true = rw (← c.self.view_is) at c.requires.writes in
    let kept = IsDesk-with_end (desk_of c.self.inside) c.args.uid c.args.end c.self.invariant c.requires.within (any-at (λ q. keeps_writing (entry_at (desk_of c.self.inside).entries q c.args.uid)) c.args.proc.number c.kept.ensures.process writes) in
    rw (c.replace.ensures, c.grown.ensures) (rw (sym c.of.ensures ∙ c.in-Some.is) at kept)
