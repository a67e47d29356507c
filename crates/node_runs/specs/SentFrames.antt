-- Frames as nodes send them.
use Rattle.std.specs.Prelude.{◌≡◌, ℕ}
use Rattle.uid_names.specs.Names.{IsName}
use Rattle.ring_messages.specs.declared.body.Body.{Body}
use Rattle.ring_messages.specs.declared.body.Body.TheVariants as bodies
use Rattle.ring_messages.specs.Frames.{Message, IsInRange}
use Rattle.node_runs.specs.Incomings.{Incoming}
use Rattle.node_runs.specs.Runs.{World}
use Rattle.node_runs.specs.CallsKeep.{EachOf}

-- what tells of an object that was made names one
abbrev pub IsNamedBody : Body → Type 0
IsNamedBody (bodies.Made u) = IsName u
IsNamedBody _ = Unit {0}

-- a frame as nodes send them
pub record IsFrame (m : Message) : Type 0 where
  pub range : IsInRange m
  pub named : IsNamedBody m.body

abbrev pub IsIncoming : Incoming → Type 0
IsIncoming (Incoming.Frame m) = IsFrame m
IsIncoming incoming = Unit {0}

-- each frame that was ever sent is one
abbrev pub AreFrames : World → Type 0
AreFrames w = (from to : ℕ) → EachOf IsFrame (w.frames from to)

-- what is received is of a version, where it is a frame
abbrev pub IsOfWire : ℕ → Incoming → Type 0
IsOfWire wire (Incoming.Frame m) = m.version ≡ wire
IsOfWire wire incoming = Unit {0}

-- each frame that was ever sent is of this version
abbrev pub AreOfWire : ℕ → World → Type 0
AreOfWire wire w = (from to : ℕ) → EachOf (λ (m : Message). m.version ≡ wire) (w.frames from to)
