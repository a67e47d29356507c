use Rattle.std.proofs.Common.{◌∙◌, sym, true}
use Rattle.fault_handler.specs.Insides.{desk_of}
use Rattle.fault_handler.proofs.KnownRows.{known-sent}
use Rattle.fault_handler.proofs.KnownKeeps.{IsDesk-with_length_done}
use Rattle.fault_handler.proofs.desk.Desk.length_taken.Goals as goal

pub replace-requires : goal.replace-requires
replace-requires c = rw c.sent.ensures (known-sent c.args.uid c.self.inside.known c.in-Some.known c.args.length (sym c.of.ensures ∙ c.in-Some.is))

pub invariant_of-self : goal.invariant_of-self
invariant_of-self c =
    let kept = IsDesk-with_length_done (desk_of c.self.inside) c.args.uid c.args.length true c.self.invariant in
    rw (c.replace.ensures, c.sent.ensures) (rw (sym c.of.ensures ∙ c.in-Some.is) at kept)
