-- Which events have a line, which bytes are the journal of which events, and where bytes are none.
use Rattle.std.specs.Prelude.{ℕ, ◌≡◌, ◌≢◌, ◌+◌, ◌<◌, ◌≤◌, ◌^◌, IsTrue, Option, Some, None, IfSome, List, [], ◌∷◌, ◌++◌, All, length}
use Rattle.uid_names.specs.Names.{ObjectName, IsName}
use Rattle.uid_names.specs.declared.limits.TheConstants.{MAX_NODES}
use Rattle.uid_names.specs.declared.ids.Place.{Place}
use Rattle.dom_history.specs.Events.{Happening, IsEvent}
use Rattle.dom_history.specs.Histories.{place_lt}
use Rattle.dom_history.specs.declared.event.What.{What}
use Rattle.dom_history.specs.declared.event.What.TheVariants.{Begin, Go, Take, Notice, Ready, Mark}
use Rattle.dom_history.specs.declared.event.Sent.{Sent}
use Rattle.dom_history.specs.declared.event.Effects.{Effects}
use Rattle.journal_text.specs.Lines.{IsNamed, line, journal}

-- one of the nodes, which has a name
pub record IsNode (names : List (List ℕ)) (node : ℕ) : Type 0 where
  pub low : 1 ≤ node
  pub high : node ≤ MAX_NODES
  pub named : IsNamed names node

-- the index of a frame on its link, the number of a call, or a tick
abbrev pub IsCount : ℕ → Type 0
IsCount n = n < 2 ^ 64

-- what the types of the fields keep, and that each node has a name
abbrev pub IsWhatOf : List (List ℕ) → What → Type 0
IsWhatOf names (Begin p) = Unit {0}
IsWhatOf names (Go p) = Unit {0}
IsWhatOf names (Take from index) = IsNode names from × IsCount index
IsWhatOf names (Notice p from to index) = IsNode names from × (IsNode names to × IsCount index)
IsWhatOf names (Ready phase) = phase < 2 ^ 32
IsWhatOf names (Mark from phase) = IsNode names from × (phase < 2 ^ 32)

abbrev pub IsPage : ObjectName × ℕ → Type 0
IsPage page = IsName page.0 × (page.1 < 2 ^ 32)

pub record IsSent (names : List (List ℕ)) (s : Sent) : Type 0 where
  pub to : IsNode names s.to
  pub index : IsCount s.index
  pub number : IsCount s.number

-- the effects have a text
pub record AreWritten (names : List (List ℕ)) (e : Effects) : Type 0 where
  pub dropped : All IsPage e.dropped
  pub sent : IfSome e.sent (IsSent names)

-- the event has a line
pub record IsWritten (names : List (List ℕ)) (e : Happening) : Type 0 where
  pub tick : IsCount e.place.tick
  pub node : IsNode names e.place.node
  pub what : IsWhatOf names e.what
  pub effects : AreWritten names e.effects
  pub event : IsEvent e

-- the place is above the one before, if there is one
abbrev pub IsAbove : Option Place → Place → Type 0
IsAbove None place = Unit {0}
IsAbove (Some before) place = IsTrue (place_lt before place)

-- each place is above the one before it
abbrev pub RiseFrom : Option Place → List Happening → Type 0
RiseFrom before [] = Unit {0}
RiseFrom before (e ∷ events) = IsAbove before e.place × RiseFrom (Some e.place) events

-- the last place
abbrev pub last_from : Option Place → List Happening → Option Place
last_from before [] = before
last_from before (e ∷ events) = last_from (Some e.place) events

-- the bytes are the journal of these events
pub record IsJournal (names : List (List ℕ)) (bytes : List ℕ) (events : List Happening) : Type 0 where
  pub text : bytes ≡ journal names events
  pub written : All (IsWritten names) events
  pub rising : RiseFrom None events

-- bytes begin with no line of an event that is above a place
abbrev pub BeginWithNoLine : List (List ℕ) → Option Place → List ℕ → Type 0
BeginWithNoLine names before bytes = (e : Happening) (behind : List ℕ) → IsWritten names e → IsAbove before e.place → bytes ≢ line names e ++ behind

-- this line of the bytes, counted from 1, is the first that is no line or whose place is not above the one before
pub record IsBadLine (names : List (List ℕ)) (bytes : List ℕ) (n : ℕ) : Type 0 where
  pub good : List Happening
  pub rest : List ℕ
  pub text : bytes ≡ journal names good ++ rest
  pub written : All (IsWritten names) good
  pub rising : RiseFrom None good
  pub line : n ≡ length good + 1
  pub some : 0 < length rest
  pub bad : BeginWithNoLine names (last_from None good) rest
