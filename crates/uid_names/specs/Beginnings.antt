-- From which openings a store can begin.
use Rattle.std.specs.Prelude.{◌≡◌, ℕ, ◌+◌, ◌≤◌, ◌==◌, List, [], ◌∷◌, filter, sum_by}
use Rattle.uid_names.specs.Openings.{Start}
use Rattle.uid_names.specs.declared.opening.Object.{Object}
use Rattle.uid_names.specs.declared.limits.TheConstants.{ENTRY_ROOM, VOLUME_ROOM}
use Rattle.uid_names.specs.declared.mode.ObjKind.TheVariants.{Directory}

-- a node's entry directory, which has the counter 1
abbrev pub entry_directory : ℕ → Object
entry_directory node = record { uid = record { counter = 1; home = node }; kind = Directory; room = ENTRY_ROOM }

-- the objects of a home
abbrev pub at_home : ℕ → List Object → List Object
at_home home objects = filter (λ o. o.uid.home == home) objects

-- counters n, n + 1 and so on, in order
abbrev pub AreNumbered : ℕ → List Object → Type 0
AreNumbered n [] = Unit {0}
AreNumbered n (o ∷ rest) = (o.uid.counter ≡ n) × AreNumbered (n + 1) rest

-- the declared objects of a home from which it can begin: their counters follow that of the entry directory,
-- and they fit the volume beside it
pub record CanHomeBegin (own : List Object) : Type 0 where
  pub counters : AreNumbered 2 own
  pub fits : ENTRY_ROOM + sum_by (λ o. o.room) own ≤ VOLUME_ROOM

-- an opening from which each home can begin
pub record CanBegin (opening : Start) : Type 0 where
  pub homes : (home : ℕ) → CanHomeBegin (at_home home opening.objects)
