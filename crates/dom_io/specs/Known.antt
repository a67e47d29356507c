-- Bytes that a source has left and that a sink holds, where they are told.
use Rattle.std.specs.Prelude.{◌≡◌, ℕ, ◌<◌, ◌≤◌, List, take, drop, length, Option, Some, None}
use Rattle.std.specs.Io.KnownBytes.{prepend_known, append_known}

-- at most so many bytes were taken from the front of what was left, and the rest is left
abbrev pub TakesAtMost : ℕ → Option (List ℕ) → Option (List ℕ) → Type 0
TakesAtMost most before now = (taken : List ℕ) × (length taken ≤ most) × (before ≡ prepend_known taken now)

-- more bytes than the limit are left
abbrev pub Exceeds : Option (List ℕ) → ℕ → Type 0
Exceeds None limit = Unit {0}
Exceeds (Some left) limit = limit < length left

-- what is left once so many bytes are taken
abbrev pub left_after : ℕ → Option (List ℕ) → Option (List ℕ)
left_after count None = None
left_after count (Some left) = Some (drop count left)

-- some of the first bytes were added at the end of what is held
abbrev pub AppendsPrefix : Option (List ℕ) → Option (List ℕ) → List ℕ → Type 0
AppendsPrefix before now bytes = (count : ℕ) × (count ≤ length bytes) × (now ≡ append_known before (take count bytes))
