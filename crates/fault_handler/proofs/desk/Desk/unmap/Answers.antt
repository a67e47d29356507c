use Rattle.std.proofs.Common.{◌≡◌, ◌-◌, ◌∙◌, ◌<◌, [], length, ap, arith}
use Rattle.std.proofs.lemmas.List.{get_or_default}
use Rattle.address_map.specs.Mappings.{without_mapping}
use Rattle.address_map.proofs.Keeps.{IsLayout-without_mapping}
use Rattle.fault_handler.specs.Desks.{maps_of}
use Rattle.fault_handler.specs.Invariant.{IsProc}
use Rattle.fault_handler.specs.Insides.{desk_of}
use Rattle.fault_handler.proofs.LockKeeps.{IsDesk-with_maps}
use Rattle.fault_handler.proofs.desk.Desk.unmap.Goals as goal

pub invariant_of-self : goal.invariant_of-self
invariant_of-self c =
    let at : c.index_of.result ≡ c.args.proc.number - 1 = omega arith in
    let proc : IsProc c.args.proc.number = (omega arith, omega arith) in
    let below : c.index_of.result < length c.self.inside.maps = omega (arith, c.self.invariant.four.maps) in
    let unmapped = c.unmap.ensures.unmapped ∙ ap (without_mapping c.args.uid) (get_or_default c.self.inside.maps c.index_of.result _ [] below) in
    let mappings = maps_of (desk_of c.self.inside) c.args.proc.number in
    rw (unmapped, at) (IsDesk-with_maps (desk_of c.self.inside) c.args.proc.number (without_mapping c.args.uid mappings) c.self.invariant proc (IsLayout-without_mapping c.args.uid mappings (c.self.invariant.maps c.args.proc.number proc)))
