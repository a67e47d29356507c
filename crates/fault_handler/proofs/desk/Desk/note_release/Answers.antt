use Rattle.std.proofs.Common.{◌≡◌, ◌-◌, ◌∙◌, ◌<◌, [], length, ap, arith}
use Rattle.std.proofs.lemmas.List.{get_or_default}
use Rattle.fault_handler.specs.Entries.{entries_noted}
use Rattle.fault_handler.specs.Insides.{desk_of}
use Rattle.fault_handler.proofs.LockKeeps.{IsDesk-with_note}
use Rattle.fault_handler.proofs.desk.Desk.note_release.Goals as goal

pub invariant_of-self : goal.invariant_of-self
invariant_of-self c =
    let at : c.index_of.result ≡ c.args.proc.number - 1 = omega arith in
    let below : c.index_of.result < length c.self.inside.entries = omega (arith, c.self.invariant.four.entries) in
    let noted = c.note.ensures ∙ ap (entries_noted c.args.uid) (get_or_default c.self.inside.entries c.index_of.result _ [] below) in
    let asked = rw (← c.self.view_is) at c.requires in
    rw (noted, at)
    (IsDesk-with_note (desk_of c.self.inside) c.args.proc.number c.args.uid c.self.invariant (omega arith, omega arith) asked.other asked.dirty asked.still asked.changed)
