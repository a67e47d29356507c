-- Each version can write what the first can, and none more than there is.
use Rattle.std.proofs.Common.{◌≡◌, ℕ, ◌≤◌, Bool, true, false, refl, arith}
use Rattle.std.specs.Prelude.{◌==◌, if◌then◌else◌}
use Rattle.uid_names.specs.Wires.{wire_room}
use Rattle.uid_names.specs.declared.limits.TheConstants.{FIRST_ROOM, MAX_ROOM}

pub wire_room-least : (wire : ℕ) → FIRST_ROOM ≤ wire_room wire
unfolding wire_room
wire_room-least wire = by (wire == 1)
  where
    by : (b : Bool) → FIRST_ROOM ≤ (if b then FIRST_ROOM else MAX_ROOM)
    by true = omega arith
    by false = omega arith

pub wire_room-most : (wire : ℕ) → wire_room wire ≤ MAX_ROOM
unfolding wire_room
wire_room-most wire = by (wire == 1)
  where
    by : (b : Bool) → (if b then FIRST_ROOM else MAX_ROOM) ≤ MAX_ROOM
    by true = omega arith
    by false = omega arith

-- version 2 can write each room
pub second-writes-all : wire_room 2 ≡ MAX_ROOM
unfolding wire_room
second-writes-all = refl

-- and version 1 those of the first scripts
pub first-writes : wire_room 1 ≡ FIRST_ROOM
unfolding wire_room
first-writes = refl
