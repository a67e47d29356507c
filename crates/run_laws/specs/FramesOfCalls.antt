-- Which frames are of a call.
use Rattle.std.specs.Prelude.{◌≡◌, ℕ, Option, Some, None}
use Rattle.uid_names.specs.Names.{ProcName}
use Rattle.ring_messages.specs.Frames.{Message, caller_of}

-- the frame is of this call of the process: its request, or a reply to it
abbrev pub IsOfCall : ProcName → ℕ → Option Message → Type 0
IsOfCall p number None = ⊥
IsOfCall p number (Some m) = (caller_of m ≡ p) × (m.number ≡ number)
