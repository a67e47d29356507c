use Rattle.std.proofs.Common.{◌≤◌, true, Ok, Err, ℕ, refl, sym, ap, subst, ◌∙◌}
use Rattle.uid_names.specs.declared.limits.TheConstants.{MAX_ROOM}
use Rattle.dom_history.specs.declared.op.Reply.{Reply}
use Rattle.address_map.specs.declared.map.MapRefusal.TheVariants.{TooManyMaps, NoSegment}
use Rattle.fault_handler.specs.Lengths.{known_of}
use Rattle.fault_handler.specs.Accesses.{map_by}
use Rattle.fault_handler.proofs.Beginning.{room-held, room-known}
use Rattle.fault_handler.proofs.Locally.{held-as, refused-by, map-answered}
use Rattle.fault_handler.proofs.desk.Desk.map.Goals as goal

pub map_room-requires : goal.map_room-requires
map_room-requires c =
    let d = c.args.self.now in
    let held = held-as c.lock_state.ensures c.is_held.ensures c.if-not-is_held.false in
    record {
      least = subst (λ (r : ℕ). 1 ≤ r) (sym c.room_of-room.ensures) (room-held d c.args.proc.number c.kept.ensures.desk c.kept.ensures.process c.requires.idle c.args.uid held);
      greatest = subst (λ (r : ℕ). r ≤ MAX_ROOM) (sym c.room_of-room.ensures) (room-known (known_of c.args.uid d.known) (c.kept.ensures.desk.known.rows c.args.uid));
    }

pub returns-then-not-is_held : goal.returns-then-not-is_held
returns-then-not-is_held c = record {
  outcome =
      refused-by c.args.proc.number c.args.self.now _ Reply.NoLock refl (ap (map_by c.args.self.now c.args.proc.number c.args.uid) (held-as c.lock_state.ensures c.is_held.ensures c.if-not-is_held.true));
  replied = tt;
}

pub returns-in-Ok : goal.returns-in-Ok
returns-in-Ok c = record {
  outcome =
      map-answered c.args.self.now c.args.proc.number c.args.uid c.map_room.new.self c.room_of-room.result (Ok (c.in-Ok.address, c.in-Ok.fresh))
      (held-as c.lock_state.ensures c.is_held.ensures c.if-not-is_held.false) c.room_of-room.ensures c.map_room.ensures.mapped c.in-Ok.ensures.answer;
  replied = tt;
}

pub returns-in-Err-TooManyMaps : goal.returns-in-Err-TooManyMaps
returns-in-Err-TooManyMaps c = record {
  outcome =
      map-answered c.args.self.now c.args.proc.number c.args.uid c.map_room.new.self c.room_of-room.result (Err TooManyMaps)
      (held-as c.lock_state.ensures c.is_held.ensures c.if-not-is_held.false) c.room_of-room.ensures c.map_room.ensures.mapped
      (sym (ap Err c.in-Err-TooManyMaps.field-0-is) ∙ c.in-Err-TooManyMaps.ensures.answer);
  replied = tt;
}

pub returns-in-Err-NoSegment : goal.returns-in-Err-NoSegment
returns-in-Err-NoSegment c = record {
  outcome =
      map-answered c.args.self.now c.args.proc.number c.args.uid c.map_room.new.self c.room_of-room.result (Err NoSegment)
      (held-as c.lock_state.ensures c.is_held.ensures c.if-not-is_held.false) c.room_of-room.ensures c.map_room.ensures.mapped
      (sym (ap Err c.in-Err-NoSegment.field-0-is) ∙ c.in-Err-NoSegment.ensures.answer);
  replied = tt;
}
