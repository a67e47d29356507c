-- What homes decided, as effects on the one store: the changes of objects and of locks.
use Rattle.std.specs.Prelude.{ℕ, Bool, true, false, Option, Some, None, List, [], ◌∷◌, ◌++◌, filter}
use Rattle.uid_names.specs.Names.{ProcName}
use Rattle.dom_history.specs.declared.op.Op.{Op}
use Rattle.dom_history.specs.declared.op.Reply.{Reply}
use Rattle.dom_history.specs.StoreEffects.{StoreEffect, Makes, TakesLock, FreesLock, Deletes, store_effect}
use Rattle.node_runs.specs.Notes.{Note}
use Rattle.node_runs.specs.Runs.{Noted}
use Rattle.node_runs.specs.RunHistories.{settled_op, change_reply}

-- the effects that homes decide on: not those of stores and mappings
abbrev pub is_of_home : StoreEffect → Bool
is_of_home (Makes object) = true
is_of_home (TakesLock p u m) = true
is_of_home (FreesLock p u) = true
is_of_home (Deletes p u) = true
is_of_home _ = false

abbrev pub home_effects : List StoreEffect → List StoreEffect
home_effects past = filter is_of_home past

abbrev pub effect_if : ProcName → Option Op → Option Reply → List StoreEffect
effect_if p (Some op) (Some reply) = store_effect p op reply
effect_if p _ _ = []

-- the effect of a decision
abbrev pub noted_effect : ℕ → Note → List StoreEffect
noted_effect home (Note.Decided p number ask answer) = effect_if p (settled_op home ask) (change_reply answer)
noted_effect home note = []

abbrev pub decided_effects : List Noted → List StoreEffect
decided_effects [] = []
decided_effects (m ∷ older) = noted_effect m.place.node m.note ++ decided_effects older
