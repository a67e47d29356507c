-- The two versions in which scripts and frames are written.
use Rattle.std.specs.Prelude.{ℕ, ◌≤◌, ◌==◌, if◌then◌else◌}
use Rattle.uid_names.specs.declared.limits.TheConstants.{FIRST_ROOM, MAX_ROOM}

-- the number of a version
abbrev pub IsWire : ℕ → Type 0
IsWire wire = (1 ≤ wire) × (wire ≤ 2)

-- the greatest room that a version can write, in pages
unfoldable pub wire_room : ℕ → ℕ
wire_room wire = if wire == 1 then FIRST_ROOM else MAX_ROOM
