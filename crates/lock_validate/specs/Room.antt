-- Whether room can be made where a load or store needs it.
use Rattle.std.specs.Prelude.{◌≡◌, Some, IsSome}
use Rattle.fault_handler.specs.Accesses.{Accessed}
use Rattle.fault_handler.specs.Victims.{Victim, MayMakeRoom, named_victim}

-- a page is named to make room, and it may make it
abbrev pub FindsRoom : Accessed → Type 0
FindsRoom (Accessed.Settled m) = Unit {0}
FindsRoom (Accessed.NeedsRoom d task) = IsSome (named_victim d) × ((victim : Victim) → named_victim d ≡ Some victim → MayMakeRoom d victim)
