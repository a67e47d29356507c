-- A grant tells the room of its object, as long as that is there, and a length within it.
use Rattle.std.specs.Prelude.{◌≡◌, ℕ, ◌*◌, ◌≤◌, true, is_some}
use Rattle.uid_names.specs.Names.{ObjectName}
use Rattle.uid_names.specs.declared.limits.TheConstants.{PAGE_BYTES}
use Rattle.object_store.specs.Objects.{room_of}
use Rattle.object_store.specs.HomeStates.{HomeState, attr_of}
use Rattle.ring_messages.specs.Bodies.{Ask, Answer}
use Rattle.node_runs.specs.Notes.{Note}
use Rattle.node_runs.specs.Runs.{Noted, World}
use Rattle.node_runs.specs.CallsKeep.{EachOf}

-- no other object comes under the name: its counter was given
pub record IsRoomOf (home : HomeState) (u : ObjectName) (pages length : ℕ) : Type 0 where
  pub given : u.counter ≤ home.greatest
  pub room : is_some (attr_of home u) ≡ true → room_of (attr_of home u) ≡ pages
  pub within : length ≤ PAGE_BYTES * pages

abbrev pub GrantTells : HomeState → ObjectName → Answer → Type 0
GrantTells home u (Answer.Granted grant stamp kind room length) = IsRoomOf home u room length
GrantTells home u answer = Unit {0}

abbrev pub AskTells : HomeState → Ask → Answer → Type 0
AskTells home (Ask.Lock u m) answer = GrantTells home u answer
AskTells home ask answer = Unit {0}

abbrev pub TellsRoom : HomeState → Note → Type 0
TellsRoom home (Note.Decided p number ask answer) = AskTells home ask answer
TellsRoom home note = Unit {0}

-- each grant, by the home as it is now
abbrev pub AreRoomsTold : World → Type 0
AreRoomsTold w = EachOf (λ (j : Noted). TellsRoom (w.nodes j.place.node).side.home j.note) w.trace
