use Rattle.std.proofs.Common.{◌≡◌, ◌-◌, ◌∙◌, ◌<◌, ◌≤◌, [], length, ap, arith}
use Rattle.std.proofs.lemmas.List.{get_or_default}
use Rattle.uid_names.specs.Segments.{segments}
use Rattle.address_map.specs.Maps.{with_mapping}
use Rattle.address_map.proofs.Changes.{IsLayout-mappings_after}
use Rattle.fault_handler.specs.Desks.{maps_of}
use Rattle.fault_handler.specs.Invariant.{IsProc}
use Rattle.fault_handler.specs.Insides.{desk_of}
use Rattle.fault_handler.proofs.LockKeeps.{IsDesk-with_maps}
use Rattle.fault_handler.proofs.desk.Desk.map_room.Goals as goal

pub invariant_of-self : goal.invariant_of-self
invariant_of-self c =
    let at : c.index_of.result ≡ c.args.proc.number - 1 = omega arith in
    let proc : IsProc c.args.proc.number = (omega arith, omega arith) in
    let below : c.index_of.result < length c.self.inside.maps = omega (arith, c.self.invariant.four.maps) in
    let least : 1 ≤ c.args.room = c.requires.least in
    let some : 1 ≤ segments c.args.room = omega arith in
    let mappings = maps_of (desk_of c.self.inside) c.args.proc.number in
    let mapped = c.map.ensures.mapped ∙ ap (with_mapping c.args.uid (segments c.args.room)) (get_or_default c.self.inside.maps c.index_of.result _ [] below) in
    rw (mapped, at)
    (IsDesk-with_maps (desk_of c.self.inside) c.args.proc.number _ c.self.invariant proc
    (IsLayout-mappings_after c.args.uid (segments c.args.room) mappings (c.self.invariant.maps c.args.proc.number proc) some))
