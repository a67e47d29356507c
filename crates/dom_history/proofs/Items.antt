-- Items of a history: their deeds and their entries, and that what acts was decided by a home.
use Rattle.std.proofs.Common.{◌≡◌, List, [], ◌∷◌, ◌++◌, refl, ap}
use Rattle.std.specs.Prelude.{All, IsTrue}
use Rattle.std.proofs.lemmas.List.Elements.{All-head, All-tail}
use Rattle.uid_names.specs.Names.{ProcName}
use Rattle.uid_names.specs.Openings.{Start}
use Rattle.dom_history.specs.declared.op.Op.{Op}
use Rattle.dom_history.specs.declared.op.Op.TheVariants.{New, Lock, Unlock, Delete}
use Rattle.dom_history.specs.declared.op.Reply.{Reply}
use Rattle.dom_history.specs.StoreEffects.{StoreEffect}
use Rattle.dom_history.specs.Histories.{Item, Answered, Acted, deeds, told, entries}
use Rattle.dom_history.specs.Legal.{MayAct, is_of_home}
use Rattle.dom_history.specs.Runs.{IsEntry}

-- where none acts, all that was decided was told
pub deeds-no_acts : (items : List Item) → All IsEntry items → deeds items ≡ told (entries items)
deeds-no_acts [] h = refl
deeds-no_acts (Answered e ∷ past) h = ap (λ ds. record { proc = e.proc; op = e.op; reply = e.reply } ∷ ds) (deeds-no_acts past (All-tail IsEntry (Answered e) past h))
deeds-no_acts (Acted a ∷ past) h = absurd (All-head IsEntry (Acted a) past h)

-- the entries of joined lists
pub entries-append : (xs ys : List Item) → entries (xs ++ ys) ≡ entries xs ++ entries ys
entries-append [] ys = refl
entries-append (Answered e ∷ xs) ys = ap (λ es. e ∷ es) (entries-append xs ys)
entries-append (Acted a ∷ xs) ys = entries-append xs ys

-- what acts was decided by a home
pub act_of_home : (opening : Start) (past : List StoreEffect) (p : ProcName) (op : Op) (reply : Reply) → MayAct opening past p op reply → IsTrue (is_of_home opening op reply)
act_of_home opening past p (New home kind room) reply h = rw h.1 refl
act_of_home opening past p (Lock u m) reply h = rw h.0 refl
act_of_home opening past p (Unlock u) reply h = rw h refl
act_of_home opening past p (Delete u) reply h = rw h.0 refl
act_of_home opening past p _ reply h = absurd h
