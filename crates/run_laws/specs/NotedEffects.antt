-- What the notes of a run did to the one store: what was done at desks, and what homes decided. It only grows.
use Rattle.std.specs.Prelude.{◌≡◌, ℕ, List, [], ◌∷◌, ◌++◌}
use Rattle.dom_history.specs.StoreEffects.{StoreEffect, store_effect}
use Rattle.node_runs.specs.Notes.{Note}
use Rattle.node_runs.specs.Runs.{Noted, World}
use Rattle.node_runs.specs.RunHistories.{settled_op, change_reply}
use Rattle.run_laws.specs.DecidedEffects.{effect_if}
use Rattle.run_laws.specs.HistoryHomes.{past_then}

-- the effects of a note of this node
abbrev pub note_effects : ℕ → Note → List StoreEffect
note_effects node (Note.Did p phase op reply) = store_effect p op reply
note_effects node (Note.Decided p number ask answer) = effect_if p (settled_op node ask) (change_reply answer)
note_effects node note = []

-- the effects of notes, the newest first
abbrev pub noted_past : List Noted → List StoreEffect
noted_past [] = []
noted_past (j ∷ older) = note_effects j.place.node j.note ++ noted_past older

-- at each place they are those of the history of the whole run
abbrev pub AreEffectsNoted : World → Type 0
AreEffectsNoted w = (newer older : List Noted) → w.trace ≡ newer ++ older → past_then w older ≡ noted_past older
