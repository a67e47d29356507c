-- What an object held at a stamp: what the write last taken at or below that stamp left there. It never changes, since each write that is
-- taken later has a greater stamp.
use Rattle.std.specs.Prelude.{ℕ, ◌==◌, nat_le, Bool, true, false, ◌&&◌, if◌then◌else◌, Option, Some, None, List, [], ◌∷◌, unwrap_or}
use Rattle.uid_names.specs.Names.{ObjectName, same_uid}
use Rattle.ring_messages.specs.Bodies.{Ask, Answer}
use Rattle.node_runs.specs.Notes.{Note}
use Rattle.node_runs.specs.Runs.{Noted}
use Rattle.run_laws.specs.Items.{Item, Value, same_item, blank, Write, write_of}

abbrev pub value_if : Bool → Write → Option Value
value_if true w = Some w.value
value_if false w = None

-- what an answer to a write left of an item, at or below a stamp
abbrev pub left_by : ObjectName → Item → ℕ → Option Write → Answer → Option Value
left_by u x s (Some w) (Answer.Stored t) = value_if (same_uid w.uid u && (same_item w.item x && nat_le t s)) w
left_by u x s w answer = None

abbrev pub left_at : ObjectName → Item → ℕ → Note → Option Value
left_at u x s (Note.Decided p number ask answer) = left_by u x s (write_of ask) answer
left_at u x s note = None

abbrev pub left_if : Bool → ObjectName → Item → ℕ → Note → Option Value
left_if true u x s note = left_at u x s note
left_if false u x s note = None

-- by the notes of its home
abbrev pub content : List Noted → ObjectName → ℕ → Item → Value
content [] u s x = blank x
content (j ∷ older) u s x = unwrap_or (left_if (j.place.node == u.home) u x s j.note) (content older u s x)

-- the stamp that was told with a grant of u, 0 where it was not given
abbrev pub told_with : ObjectName → ℕ → Ask → Answer → Option ℕ
told_with u grant (Ask.Lock v m) (Answer.Granted g s kind room n) = if same_uid v u && (g == grant) then Some s else None
told_with u grant ask answer = None

abbrev pub granted_at : ObjectName → ℕ → Note → Option ℕ
granted_at u grant (Note.Decided p number ask answer) = told_with u grant ask answer
granted_at u grant note = None

abbrev pub granted_if : Bool → ObjectName → ℕ → Note → Option ℕ
granted_if true u grant note = granted_at u grant note
granted_if false u grant note = None

abbrev pub since : List Noted → ObjectName → ℕ → ℕ
since [] u grant = 0
since (j ∷ older) u grant = unwrap_or (granted_if (j.place.node == u.home) u grant j.note) (since older u grant)
