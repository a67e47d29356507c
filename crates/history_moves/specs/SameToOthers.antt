-- What stays the same when an entry comes to stand at an earlier place.
use Rattle.std.specs.Prelude.{ℕ, ◌≡◌, false, List, [], ◌∷◌, ◌++◌}
use Rattle.uid_names.specs.Names.{ProcName, same_proc}
use Rattle.uid_names.specs.Openings.{Start}
use Rattle.uid_names.specs.declared.ids.Place.{Place}
use Rattle.dom_history.specs.declared.op.Reply.{Reply}
use Rattle.dom_history.specs.declared.op.Entry.{Entry}
use Rattle.dom_history.specs.StoreEffects.{StoreEffect, store_effect, store_effects}
use Rattle.dom_history.specs.Histories.{Item, Answered, Acted, Pending, deeds, before_op}
use Rattle.history_moves.specs.HistoryMoves.{entry_of, act_of}

-- what was done
abbrev pub done_in : List Item → List StoreEffect
done_in items = store_effects (deeds items)

-- the entry changes nothing
abbrev pub HasNoEffect : Entry → Type 0
HasNoEffect e = store_effect e.proc e.op e.reply ≡ []

-- all but p meet the same
abbrev pub OthersMeetTheSame : Start → ProcName → List Item → List Item → Type 0
OthersMeetTheSame opening p old new = (q : ProcName) → same_proc q p ≡ false → before_op opening new q ≡ before_op opening old q

-- it holds of the items before and after an entry without effects is put in
abbrev pub AtEachPutIn : (Entry → List Item → List Item → Type 0) → Type 0
AtEachPutIn P = (behind before : List Item) → (e : Entry) → HasNoEffect e → P e (behind ++ before) (behind ++ Answered e ∷ before)

-- it holds of the items before and after a process is told what its home did
abbrev pub AtEachTelling : (Pending → List Item → List Item → Type 0) → Type 0
AtEachTelling P =
    (behind before : List Item) → (o : Pending) → (y : Place) → (phase : ℕ) → (reply : Reply)
    → P o (behind ++ Acted (act_of o y reply) ∷ before) (behind ++ Answered (entry_of o y phase reply) ∷ before)
