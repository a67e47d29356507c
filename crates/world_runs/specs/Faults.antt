-- The replies that link faults gave, and the notices that led to them.
use Rattle.std.specs.Prelude.{◌≡◌, ℕ, ◌+◌, ◌≤◌, ◌==◌, Bool, true, false, ◌&&◌, Option, Some, None, List, [], ◌∷◌, ◌++◌, length, filter}
use Rattle.uid_names.specs.Names.{ProcName, same_proc}
use Rattle.dom_history.specs.declared.event.What.{What}
use Rattle.dom_history.specs.declared.event.What.TheVariants.{Notice}
use Rattle.dom_history.specs.Events.{Happening}
use Rattle.ring_messages.specs.Frames.{Message}
use Rattle.node_runs.specs.Notes.{Note}
use Rattle.node_runs.specs.RunHistories.{is_fault}
use Rattle.node_runs.specs.Runs.{Noted, World, numbered}

-- a call: its process, and its number there
pub record CallName : Type 0 where
  pub proc : ProcName
  pub number : ℕ

abbrev pub same_call : CallName → CallName → Bool
same_call c d = same_proc c.proc d.proc && (c.number == d.number)

abbrev pub call_if : Bool → CallName → List CallName
call_if true c = c ∷ []
call_if false c = []

-- the call that a link fault ended, by what its event left
abbrev pub fault_by : Note → List CallName
fault_by (Note.Ended t) = call_if (is_fault t.reply) (record { proc = t.proc; number = t.number })
fault_by _ = []

-- the calls that link faults ended: one for each reply that a link fault gave
abbrev pub faults_in : List Noted → List CallName
faults_in [] = []
faults_in (x ∷ older) = fault_by x.note ++ faults_in older

-- what was done at the desk had no such reply
abbrev pub IsFaultlessNote : Note → Type 0
IsFaultlessNote (Note.Did p phase op reply) = is_fault reply ≡ false
IsFaultlessNote _ = Unit {0}

abbrev pub call_of_frame : ProcName → Option Message → Option CallName
call_of_frame p None = None
call_of_frame p (Some m) = Some (record { proc = p; number = m.number })

-- the call of whose frame the event tells
abbrev pub told_call : World → ℕ → What → Option CallName
told_call w n (Notice p from to index) = call_of_frame (record { node = n; number = p }) (numbered index (w.frames from to))
told_call w n _ = None

abbrev pub is_that_call : CallName → Option CallName → Bool
is_that_call c None = false
is_that_call c (Some d) = same_call c d

-- the event is a notice of this call
abbrev pub tells_call : World → CallName → Happening → Bool
tells_call w c e = is_that_call c (told_call w e.place.node e.what)

-- how many notices of a call there were
abbrev pub notices_of : World → CallName → ℕ
notices_of w c = length (filter (tells_call w c) w.done)

-- no event's tick is above the number of events up to it
abbrev pub AreCounted : List Happening → Type 0
AreCounted [] = Unit {0}
AreCounted (e ∷ older) = (e.place.tick ≤ length older + 1) × AreCounted older
