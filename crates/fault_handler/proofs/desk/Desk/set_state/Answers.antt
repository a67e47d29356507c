use Rattle.std.proofs.Common.{◌≡◌, ◌-◌, ◌∙◌, ◌<◌, [], length, ap, arith}
use Rattle.std.proofs.lemmas.List.{get_or_default}
use Rattle.fault_handler.specs.Entries.{entries_after}
use Rattle.fault_handler.specs.Insides.{desk_of}
use Rattle.fault_handler.proofs.LockKeeps.{IsDesk-with_state}
use Rattle.fault_handler.proofs.desk.Desk.set_state.Goals as goal

pub invariant_of-self : goal.invariant_of-self
invariant_of-self c =
    let at : c.index_of.result ≡ c.args.proc.number - 1 = omega arith in
    let below : c.index_of.result < length c.self.inside.entries = omega (arith, c.self.invariant.four.entries) in
    let changed = c.set_state.ensures ∙ ap (entries_after c.args.uid c.args.state c.args.grant) (get_or_default c.self.inside.entries c.index_of.result _ [] below) in
    let asked = rw (← c.self.view_is) at c.requires in
    rw (changed, at)
    (IsDesk-with_state (desk_of c.self.inside) c.args.proc.number c.args.uid c.args.state c.args.grant c.self.invariant (omega arith, omega arith) asked.given_up asked.seen asked.grant asked.home)
