-- What others meet stays as it was.
use Rattle.std.proofs.Common.{◌≡◌, false, ℕ, List, [], ◌∷◌, ◌++◌, refl}
use Rattle.uid_names.specs.Names.{ProcName, same_proc}
use Rattle.uid_names.specs.Openings.{Start}
use Rattle.uid_names.specs.declared.ids.Place.{Place}
use Rattle.dom_history.specs.declared.op.Reply.{Reply}
use Rattle.dom_history.specs.declared.op.Entry.{Entry}
use Rattle.dom_history.specs.StoreEffects.{store_effects, store_effect}
use Rattle.dom_history.specs.Histories.{Item, Answered, Acted, Pending, History, deeds, before_op}
use Rattle.history_moves.specs.Behind.{IsAlikeBut}
use Rattle.history_moves.specs.HistoryMoves.{entry_of, act_of, told_to, HistoryMoves, begins, does, finishes, acts, faults, is_told, hears, done_by}
use Rattle.history_moves.specs.Asking.{MayAsk, HomeSays, MayFail}
use Rattle.dom_history.specs.Legal.{IsAllowed}
use Rattle.history_moves.proofs.Asking.{asked-reply, failed-allowed}
use Rattle.history_moves.proofs.Faults.{fault-none}
use Rattle.history_moves.proofs.Behind.{store_effects-behind, heard-behind}
use Rattle.history_moves.proofs.PutIn.{alike-with}
use Rattle.history_moves.proofs.Told.{alike-told}
use Rattle.std.proofs.Common.{inl}

-- over two pasts that are alike, others meet the same
meets-alike : (opening : Start) (p : ProcName) (old new : List Item) → IsAlikeBut p old new → (behind : List Item) (q : ProcName) → same_proc q p ≡ false → before_op opening (behind ++ new) q ≡ before_op opening (behind ++ old) q
meets-alike opening p old new alike behind q other = rw (store_effects-behind p old new alike behind, heard-behind p old new alike q other behind) refl

module _ (opening : Start) (behind before : List Item) where
  -- an entry without effects changes nothing that was done
  pub done-put_in : (e : Entry) → store_effect e.proc e.op e.reply ≡ [] → store_effects (deeds (behind ++ Answered e ∷ before)) ≡ store_effects (deeds (behind ++ before))
  done-put_in e none = store_effects-behind e.proc before (Answered e ∷ before) (alike-with e before none) behind

  pub meets-put_in : (e : Entry) → store_effect e.proc e.op e.reply ≡ [] → (q : ProcName) → same_proc q e.proc ≡ false → before_op opening (behind ++ Answered e ∷ before) q ≡ before_op opening (behind ++ before) q
  meets-put_in e none q other = meets-alike opening e.proc before (Answered e ∷ before) (alike-with e before none) behind q other

  module _ (o : Pending) (y : Place) (phase : ℕ) (reply : Reply) where
    -- nor does an entry in the place of an act
    pub done-told : store_effects (deeds (behind ++ Answered (entry_of o y phase reply) ∷ before)) ≡ store_effects (deeds (behind ++ Acted (act_of o y reply) ∷ before))
    done-told = store_effects-behind o.proc (Acted (act_of o y reply) ∷ before) (Answered (entry_of o y phase reply) ∷ before) (alike-told opening [] [] o y phase reply before) behind

    pub meets-told : (q : ProcName) → same_proc q o.proc ≡ false → before_op opening (behind ++ Answered (entry_of o y phase reply) ∷ before) q ≡ before_op opening (behind ++ Acted (act_of o y reply) ∷ before) q
    meets-told q other = meets-alike opening o.proc (Acted (act_of o y reply) ∷ before) (Answered (entry_of o y phase reply) ∷ before) (alike-told opening [] [] o y phase reply before) behind q other

-- where a process may ask, what the home says is its reply
pub asked-allowed : (opening : Start) (before : List Item) (o : Pending) (reply : Reply) → MayAsk (told_to o before) o.op → HomeSays opening (store_effects (deeds before)) o.proc o.op reply → IsAllowed (before_op opening before o.proc) o.proc o.op reply
asked-allowed opening before o reply ask says = inl (asked-reply opening (store_effects (deeds before)) (told_to o before) o.proc o.op reply ask says)

-- and a link fault may answer in its place
pub fault-allowed : (opening : Start) (before : List Item) (o : Pending) (reply : Reply) → MayAsk (told_to o before) o.op → MayFail (told_to o before) o.op reply → IsAllowed (before_op opening before o.proc) o.proc o.op reply
fault-allowed opening before o reply ask fail = failed-allowed opening (store_effects (deeds before)) (told_to o before) o.proc o.op reply ask fail

-- a move adds at the end alone
pub done-moved : (opening : Start) (h new : History) → (move : HistoryMoves opening h new) → store_effects (deeds new.items) ≡ done_by move ++ store_effects (deeds h.items)
done-moved opening _ _ (begins items left right o may) = refl
done-moved opening _ _ (does h e may) = refl
done-moved opening _ _ (finishes items left right o x phase reply may) = refl
done-moved opening _ _ (acts h a may) = refl
done-moved opening _ _ (faults behind before left right o phase reply may) = done-put_in opening behind before (entry_of o o.begun phase reply) (fault-none o.proc o.op reply may.fault)
done-moved opening _ _ (is_told behind before left right o y phase reply may) = done-told opening behind before o y phase reply
done-moved opening _ _ (hears behind before left right o x phase reply may) = done-put_in opening behind before (entry_of o x phase reply) may.no_effect
