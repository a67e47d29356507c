-- The ranges of rooms, of pages by their numbers, and of lengths.
use Rattle.std.specs.Prelude.{ℕ, ◌≤◌, ◌<◌}
use Rattle.uid_names.specs.declared.limits.TheConstants.{MAX_ROOM, MAX_LENGTH}

-- a room of an object, in pages
abbrev pub IsRoom : ℕ → Type 0
IsRoom room = (1 ≤ room) × (room ≤ MAX_ROOM)

-- the number of a page in its object
abbrev pub IsPageNumber : ℕ → Type 0
IsPageNumber page = page < MAX_ROOM

-- a length of an object, in bytes
abbrev pub IsLength : ℕ → Type 0
IsLength n = n ≤ MAX_LENGTH
