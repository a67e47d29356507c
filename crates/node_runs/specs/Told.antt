-- What a program was told, and that what it wants then is in its ranges.
use Rattle.std.specs.Prelude.{[], ◌∷◌}
use Rattle.dom_history.specs.declared.op.Want.{Want}
use Rattle.dom_history.specs.Follows.{Heard}
use Rattle.dom_history.specs.Programs.{FitsWant}
use Rattle.dom_history.specs.Ranges.{IsWant, AreNamedReplies}

-- what a program heard fits what it wanted, each time
abbrev pub AreFitting : (Heard → Want) → Heard → Type 0
AreFitting asks [] = Unit {0}
AreFitting asks (told ∷ before) = FitsWant (asks before) told × AreFitting asks before

-- what a program wants is in its ranges, where it was told what fits, and of no object but real ones
abbrev pub AreWantsInRange : (Heard → Want) → Type 0
AreWantsInRange asks = (heard : Heard) → AreFitting asks heard → AreNamedReplies heard → IsWant (asks heard)
