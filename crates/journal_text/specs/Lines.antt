-- The line of each event in a journal.
use Rattle.std.specs.Prelude.{ℕ, List, [], ◌++◌, codes, decimal, Option, Some, None, IsSome, IfSome}
use Rattle.std.specs.List.{flat_map}
use Rattle.uid_names.specs.Names.{ObjectName}
use Rattle.uid_names.specs.Texts.{text_of}
use Rattle.uid_names.specs.FrameKinds.{kind_name, kind_of_number}
use Rattle.uid_names.specs.declared.frame_kind.FrameKind.{FrameKind}
use Rattle.uid_names.specs.declared.ids.Place.{Place}
use Rattle.dom_history.specs.Events.{Happening}
use Rattle.dom_history.specs.EndWords.{word_text}
use Rattle.dom_history.specs.NodeTexts.{name_of}
use Rattle.node_texts.specs.Texts.{node_text}
use Rattle.dom_history.specs.declared.end_word.EndWord.{EndWord}
use Rattle.dom_history.specs.declared.event.What.{What}
use Rattle.dom_history.specs.declared.event.What.TheVariants.{Begin, Go, Take, Notice, Ready, Mark}
use Rattle.dom_history.specs.declared.event.Sent.{Sent}
use Rattle.dom_history.specs.declared.event.Effects.{Effects}

abbrev pub name_in : Option FrameKind → List ℕ
name_in None = []
name_in (Some kind) = kind_name kind

-- the name of the kind that has this number
unfoldable pub kind_text : ℕ → List ℕ
kind_text number = name_in (kind_of_number number)

-- a node, and a number behind it
abbrev pub numbered_text : List (List ℕ) → ℕ → ℕ → List ℕ
numbered_text names node number = node_text names node ++ (codes " " ++ decimal number)

-- what an event is
abbrev pub what_text : List (List ℕ) → What → List ℕ
what_text names (Begin p) = codes "begin " ++ decimal p
what_text names (Go p) = codes "go " ++ decimal p
what_text names (Take from index) = codes "take " ++ numbered_text names from index
what_text names (Notice p from to index) = codes "notice " ++ (decimal p ++ (codes " " ++ (node_text names from ++ (codes " " ++ numbered_text names to index))))
what_text names (Ready phase) = codes "ready " ++ decimal phase
what_text names (Mark from phase) = codes "mark " ++ numbered_text names from phase

-- a page that was dropped
abbrev pub drop_text : ObjectName × ℕ → List ℕ
drop_text page = codes "; drop " ++ (text_of page.0 ++ (codes " " ++ decimal page.1))

-- the frame that was sent
abbrev pub sent_text : List (List ℕ) → Option Sent → List ℕ
sent_text names None = []
sent_text names (Some s) = codes "; send " ++ (numbered_text names s.to s.index ++ (codes " " ++ (kind_text s.kind ++ (codes " " ++ decimal s.number))))

-- the process whose operation ended
abbrev pub ended_text : Option (ℕ × EndWord) → List ℕ
ended_text None = []
ended_text (Some (p, word)) = codes "; end " ++ (decimal p ++ (codes " " ++ word_text word))

abbrev pub effects_text : List (List ℕ) → Effects → List ℕ
effects_text names effects = flat_map drop_text effects.dropped ++ (sent_text names effects.sent ++ ended_text effects.ended)

-- where an event stands
abbrev pub place_text : List (List ℕ) → Place → List ℕ
place_text names place = decimal place.tick ++ (codes " " ++ (node_text names place.node ++ codes " "))

-- the line of an event, with its end
abbrev pub line : List (List ℕ) → Happening → List ℕ
line names e = place_text names e.place ++ (what_text names e.what ++ (effects_text names e.effects ++ codes "\n"))

-- the lines of events
abbrev pub journal : List (List ℕ) → List Happening → List ℕ
journal names events = flat_map (line names) events

-- a node that has a name
abbrev pub IsNamed : List (List ℕ) → ℕ → Type 0
IsNamed names node = IsSome (name_of names node)

abbrev pub NamesWhat : List (List ℕ) → What → Type 0
NamesWhat names (Begin p) = Unit {0}
NamesWhat names (Go p) = Unit {0}
NamesWhat names (Take from index) = IsNamed names from
NamesWhat names (Notice p from to index) = IsNamed names from × IsNamed names to
NamesWhat names (Ready phase) = Unit {0}
NamesWhat names (Mark from phase) = IsNamed names from

-- each node that the event names has a name
pub record Names (names : List (List ℕ)) (e : Happening) : Type 0 where
  pub place : IsNamed names e.place.node
  pub what : NamesWhat names e.what
  pub sent : IfSome e.effects.sent (λ s. IsNamed names s.to)
