-- The entries of a run's history, note by note: what a note adds depends only on what processes were told.
use Rattle.std.specs.Prelude.{Bool, true, false, not, Option, Some, None, List, [], ◌∷◌, ◌++◌}
use Rattle.uid_names.specs.declared.ids.Place.{Place}
use Rattle.dom_history.specs.declared.op.Op.{Op}
use Rattle.dom_history.specs.declared.op.Entry.{Entry}
use Rattle.node_runs.specs.Notes.{Told, Note}
use Rattle.node_runs.specs.Runs.{Noted}
use Rattle.node_runs.specs.RunHistories.{is_fault, settled_op, ended_at, ended_by}

-- the entry of an operation that an answer or a link fault ended, where it stands
abbrev pub entry_of : Place → Told → Entry
entry_of x t = record { place = x; proc = t.proc; phase = t.phase; op = t.op; reply = t.reply }

abbrev pub entry_if : Bool → Place → Told → List Entry
entry_if true x t = entry_of x t ∷ []
entry_if false x t = []

-- at the Begin of an operation, where a link fault ended it
abbrev pub begun_entry : Place → Option Told → List Entry
begun_entry x None = []
begun_entry x (Some t) = entry_if (is_fault t.reply) x t

-- at the decision of its last call, where the process was told of it
abbrev pub decided_entry : Place → Option Op → Option Told → List Entry
decided_entry x None told = []
decided_entry x (Some op) None = []
decided_entry x (Some op) (Some t) = entry_if (not (is_fault t.reply)) x t

abbrev pub entries_at : List Told → Place → Note → List Entry
entries_at told x Note.Nothing = []
entries_at told x (Note.Began p op) = begun_entry x (ended_at p x told)
entries_at told x (Note.Did p phase op reply) = record { place = x; proc = p; phase = phase; op = op; reply = reply } ∷ []
entries_at told x (Note.Ended t) = []
entries_at told x (Note.Decided p number ask answer) = decided_entry x (settled_op x.node ask) (ended_by p number told)

abbrev pub noted_entries : List Told → List Noted → List Entry
noted_entries told [] = []
noted_entries told (m ∷ older) = entries_at told m.place m.note ++ noted_entries told older
