-- A program with phases, and what it heard.
use Rattle.std.specs.Prelude.{ℕ, Some, None, List, [], ◌∷◌, length, map}
use Rattle.dom_history.specs.declared.op.Op.{Op}
use Rattle.dom_history.specs.declared.op.Op.TheVariants.{Lock, Unlock}
use Rattle.dom_history.specs.declared.op.Reply.{Reply}
use Rattle.dom_history.specs.declared.op.Reply.TheVariants.{Fine, Bytes, Made, NotHeld}
use Rattle.dom_history.specs.declared.op.Want.{Want}
use Rattle.dom_history.specs.declared.op.Want.TheVariants.{Do, Phase}
use Rattle.dom_history.specs.declared.op.Entry.{Entry}
use Rattle.dom_history.specs.Follows.{Heard}
use Rattle.uid_names.specs.declared.mode.Mode.TheVariants.{Read}
use Rattle.node_runs.specs.RunHistories.{history_of}
use Rattle.node_runs.specs.FirstRun as one
use Rattle.run_laws.specs.HeardOf.{own_entries, heard_of}

-- it unlocks in phase 2, locks in phase 4, and ends in phase 5
abbrev pub wants : List Want
wants = Phase ∷ Do (Unlock one.x) ∷ Phase ∷ Phase ∷ Do (Lock one.x Read) ∷ Phase ∷ []

abbrev pub asks : Heard → Want
asks heard = one.nth_or_done wants (length heard)

abbrev pub entry : ℕ → ℕ → Op → Reply → Entry
entry tick phase op reply = record { place = record { tick = tick; node = 1 }; proc = one.p; phase = phase; op = op; reply = reply }

abbrev pub entries : List Entry
entries = entry 7 4 (Lock one.x Read) Fine ∷ entry 3 2 (Unlock one.x) NotHeld ∷ []

abbrev pub heard : Heard
heard = None ∷ Some Fine ∷ None ∷ None ∷ Some NotHeld ∷ None ∷ []

-- what the process of the first run heard
abbrev pub first_heard : Heard
first_heard = map Some (Fine ∷ Bytes one.hi ∷ Fine ∷ Fine ∷ Made one.x ∷ [])

abbrev pub heard_in_first : Heard
heard_in_first = heard_of (one.setup.asks one.p) one.setup.phases (own_entries (history_of one.setup one.events) one.p)
