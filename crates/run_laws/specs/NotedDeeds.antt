-- What the notes of a run told each process, in the order in which it was told.
use Rattle.std.specs.Prelude.{◌≡◌, ℕ, List, [], ◌∷◌, ◌++◌}
use Rattle.dom_history.specs.declared.deed.Deed.{Deed}
use Rattle.dom_history.specs.Histories.{told, entries}
use Rattle.dom_history.specs.StoreEffects.{own}
use Rattle.fault_handler.specs.Invariant.{IsProc}
use Rattle.node_runs.specs.Setups.{Setup}
use Rattle.node_runs.specs.Notes.{Note}
use Rattle.node_runs.specs.Runs.{Noted, World}
use Rattle.node_runs.specs.RunHistories.{history_in}
use Rattle.run_laws.specs.DecidedReplies.{proc_at}

abbrev pub note_deeds : Note → List Deed
note_deeds (Note.Did p phase op reply) = record { proc = p; op = op; reply = reply } ∷ []
note_deeds (Note.Ended t) = record { proc = t.proc; op = t.op; reply = t.reply } ∷ []
note_deeds note = []

-- what processes were told, the newest first
abbrev pub noted_deeds : List Noted → List Deed
noted_deeds [] = []
noted_deeds (j ∷ older) = note_deeds j.note ++ noted_deeds older

-- of each process they are those of the history, where entries stand by place
abbrev pub AreDeedsTold : Setup → World → Type 0
AreDeedsTold s w = (n p : ℕ) → IsProc p → own (proc_at n p) (told (entries (history_in s w).items)) ≡ own (proc_at n p) (noted_deeds w.trace)
