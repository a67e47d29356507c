-- What stands in the object, and who holds its lock.
use Rattle.std.proofs.Common.{◌≡◌, ℕ, zero, suc, ◌<◌, Bool, true, false, Option, Some, None, List, [], ◌∷◌, refl, sym, ◌∙◌, ap, subst}
use Rattle.std.specs.Prelude.{All, ◌^◌, if◌then◌else◌, nat_lt, not, ◌&&◌, find}
use Rattle.std.specs.Int.{w64, to_le_bytes}
use Rattle.std.proofs.lemmas.List.Elements.{All-head, All-tail}
use Rattle.std.proofs.lemmas.Nat.{from_le_bytes-to_le_bytes_8}
use Rattle.uid_names.specs.Names.{ProcName, ObjectName, same_proc, same_uid}
use Rattle.uid_names.specs.Modes.{modes_clash}
use Rattle.uid_names.specs.Rows.{is_in_conflict, same_row}
use Rattle.uid_names.specs.declared.lock_row.LockRow.{LockRow}
use Rattle.uid_names.specs.declared.mode.Mode.{Mode}
use Rattle.uid_names.proofs.Finds.{find-all_fail, find-passes}
use Rattle.uid_names.proofs.Orders.{same_proc_is}
use Rattle.dom_history.specs.declared.op.Reply.{Reply}
use Rattle.dom_history.specs.declared.op.Reply.TheVariants.{Fine, Bytes, PastEnd, TooMany, NoObject}
use Rattle.dom_history.specs.declared.op.Spot.TheVariants.{Of}
use Rattle.dom_history.specs.Bytes.{length_of, bytes_from}
use Rattle.dom_history.specs.Locks.{holds, mode_in, rows}
use Rattle.dom_history.specs.Replies.{conflict_or_fine}
use Rattle.dom_history.specs.StoreEffects.{StoreEffect, TakesLock, FreesLock, Writes}
use Rattle.dom_history.proofs.Tables.{holds-rows}
use Rattle.count_up.specs.Counters.{number_in}
use Rattle.count_up.specs.Starting.{object, start}

-- this number stands in the object, which is empty where it is 0
abbrev pub Number : ℕ → List StoreEffect → Type 0
Number zero past = length_of start past object ≡ 0
Number (suc k) past = (length_of start past object ≡ 8) × (bytes_from start past object 0 8 ≡ to_le_bytes w64 (suc k))

-- what a load of it is answered under a lock
abbrev pub load_of : List StoreEffect → Reply
load_of past = if nat_lt (length_of start past object) 8 then PastEnd else Bytes (bytes_from start past object 0 8)

pub is_loaded : (n : ℕ) (past : List StoreEffect) → n < 2 ^ 64 → Number n past → number_in (Some (load_of past)) ≡ Some n
is_loaded zero past few is = rw is refl
is_loaded (suc k) past few is = rw is.0 (ap (λ bytes. number_in (Some (Bytes bytes))) is.1 ∙ ap Some (from_le_bytes-to_le_bytes_8 (suc k) few))

pub is_stored : (n : ℕ) (past : List StoreEffect) (p : ProcName) → Number n past → Number (suc n) (Writes p (Of object 0) (to_le_bytes w64 (suc n)) ∷ past)
is_stored zero past p is = (rw is refl, refl)
is_stored (suc k) past p is = (rw is.0 refl, refl)

pub number_locked : (n : ℕ) (past : List StoreEffect) (p : ProcName) (u : ObjectName) (m : Mode) → Number n past → Number n (TakesLock p u m ∷ past)
number_locked zero past p u m is = is
number_locked (suc k) past p u m is = is

pub number_freed : (n : ℕ) (past : List StoreEffect) (p : ProcName) (u : ObjectName) → Number n past → Number n (FreesLock p u ∷ past)
number_freed zero past p u is = is
number_freed (suc k) past p u is = is

-- a lock that is granted meets no row in conflict
pub is_granted : (many here : Bool) (found : Option LockRow) → (if many then TooMany else if not here then NoObject else conflict_or_fine found) ≡ Fine → found ≡ None
is_granted true here found is = absurd (cc is)
is_granted false false found is = absurd (cc is)
is_granted false true None is = refl
is_granted false true (Some row) is = absurd (cc is)

-- what holds of no row does not hold of one that is found
fails_at : (test other : LockRow → Bool) (xs : List LockRow) (row : LockRow) → All (λ x. test x ≡ false) xs → find other xs ≡ Some row → test row ≡ false
fails_at test other [] row fail is = absurd (cc is)
fails_at test other (x ∷ xs) row fail is = by_test (other x) is (fails_at test other xs row (All-tail (λ y. test y ≡ false) x xs fail))
  where
    by_test : (b : Bool) → (if b then Some x else find other xs) ≡ Some row → (find other xs ≡ Some row → test row ≡ false) → test row ≡ false
    by_test true here further = subst (λ y. test y ≡ false) (cc here) (All-head (λ y. test y ≡ false) x xs fail)
    by_test false there further = further there

-- so no other process holds the object in conflict with it
pub no_conflict : (p q : ProcName) (m n : Mode) (past : List StoreEffect) → find (is_in_conflict p object m) (rows 1 past) ≡ None → same_proc p q ≡ false → holds q object past ≡ Some n → modes_clash p m q n ≡ false
no_conflict p q m n past none apart held = by_row (find (same_row q object) (rows 1 past)) refl
  where
    of_row : (row : LockRow) → find (same_row q object) (rows 1 past) ≡ Some row → row.mode ≡ n → modes_clash p m q n ≡ false
    of_row row found mode =
        let own = find-passes (same_row q object) (rows 1 past) row found in
        let theirs : q ≡ row.proc = same_proc_is q row.proc (both (same_proc q row.proc) (same_uid object row.uid) own).0 in
        let here : same_uid object row.uid ≡ true = (both (same_proc q row.proc) (same_uid object row.uid) own).1 in
        let fails : is_in_conflict p object m row ≡ false = fails_at (is_in_conflict p object m) (same_row q object) (rows 1 past) row (find-all_fail (is_in_conflict p object m) (rows 1 past) none) found in
        at_row row.proc row.mode theirs mode (rw here at fails)
      where
        both : (a b : Bool) → (a && b) ≡ true → (a ≡ true) × (b ≡ true)
        both true true is = (refl, refl)
        both true false is = absurd (cc is)
        both false b is = absurd (cc is)

        at_row : (r : ProcName) (k : Mode) → q ≡ r → k ≡ n → (not (same_proc p r) && modes_clash p m r k) ≡ false → modes_clash p m q n ≡ false
        at_row r k same mode_is fails = let now = rw (← same, mode_is) at fails in rw apart at now

    by_row : (o : Option LockRow) → find (same_row q object) (rows 1 past) ≡ o → modes_clash p m q n ≡ false
    by_row None is = absurd (cc (sym held ∙ (holds-rows q object past ∙ ap mode_in is)))
    by_row (Some row) is = of_row row is (cc (sym held ∙ (holds-rows q object past ∙ ap mode_in is)))
