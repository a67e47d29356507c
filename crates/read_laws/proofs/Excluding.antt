-- In every history of one store two processes hold one object at a time only in modes that do not clash.
use Rattle.std.proofs.Common.{◌≡◌, Bool, true, false, not, cond, Option, Some, None, List, [], ◌∷◌, ◌++◌, inl, inr, refl, sym, subst, ◌∙◌, if◌then◌else◌}
use Rattle.std.specs.Prelude.{find, ◌&&◌}
use Rattle.std.proofs.lemmas.Bool.{and_parts, false≢true}
use Rattle.std.proofs.lemmas.Option.{none-some, same_Some}
use Rattle.uid_names.specs.Modes.{modes_clash}
use Rattle.uid_names.specs.Names.{ObjectName, ProcName, same_proc, same_uid}
use Rattle.uid_names.specs.Openings.{Start}
use Rattle.uid_names.specs.Rows.{is_in_conflict, same_row}
use Rattle.uid_names.specs.declared.lock_row.LockRow.{LockRow}
use Rattle.uid_names.specs.declared.mode.Mode.{Mode}
use Rattle.uid_names.proofs.Codes.{modes_clash-sym}
use Rattle.uid_names.proofs.Orders.{same_proc-sym, same_proc_is, same_row_is, same_uid_is}
use Rattle.dom_history.specs.declared.op.Op.{Op}
use Rattle.dom_history.specs.declared.op.Op.TheVariants.{Delete, Lock, Map, New, Store, Unlock, Unmap}
use Rattle.dom_history.specs.declared.op.Reply.{Reply}
use Rattle.dom_history.specs.declared.op.Reply.TheVariants.{AlreadyHeld, At, Fine, Made, NoObject, TooMany, Unsettled}
use Rattle.dom_history.specs.Histories.{Acted, Answered, Item, Pending, before_op}
use Rattle.dom_history.specs.Legal.{AreLegal, IsAllowed, MayAct}
use Rattle.dom_history.specs.Locks.{holds, mode_in, rows}
use Rattle.dom_history.specs.Objects.{is_present}
use Rattle.dom_history.specs.Replies.{conflict_or_fine, reply_of, unlock_state}
use Rattle.dom_history.specs.StoreEffects.{Deletes, FreesLock, StoreEffect, TakesLock, store_effect}
use Rattle.dom_history.proofs.Tables.{holds-rows}
use Rattle.dom_history.proofs.HeldObjects.{home-clear, still-held}
use Rattle.read_laws.specs.Loads.{done}
use Rattle.read_laws.proofs.Faults.{among-faults, no-fault}

-- what one finds the other would have found
found-by : {X : Type 0} (P C : X → Bool) (y x : X) (rest : List X) → (find P rest ≡ Some x → find C rest ≡ None → (P x ≡ true) × (C x ≡ false)) → (b c : Bool) → P y ≡ b → C y ≡ c
    → cond b (Some y) (find P rest) ≡ Some x → cond c (Some y) (find C rest) ≡ None → (P x ≡ true) × (C x ≡ false)
found-by P C y x rest later true false here clear found none = let same = same_Some y x found in (subst (λ z. P z ≡ true) same here, subst (λ z. C z ≡ false) same clear)
found-by P C y x rest later false false here clear found none = later found none
found-by P C y x rest later b true here clear found none = absurd (none-some y (sym none))

found-clear : {X : Type 0} (P C : X → Bool) (xs : List X) (x : X) → find P xs ≡ Some x → find C xs ≡ None → (P x ≡ true) × (C x ≡ false)
found-clear P C [] x found none = absurd (none-some x found)
found-clear P C (y ∷ xs) x found none = found-by P C y x xs (λ f n. found-clear P C xs x f n) (P y) (C y) refl refl found none

no-conflict : (named mine clash : Bool) → named ≡ true → mine ≡ false → named && (not mine && clash) ≡ false → clash ≡ false
no-conflict true false clash named mine none = none
no-conflict true true clash named mine none = absurd (false≢true (sym mine))
no-conflict false mine clash named other none = absurd (false≢true named)

-- a lock is granted beside those of others alone that it does not clash with
row-clear : (past : List StoreEffect) (a : ProcName) (v : ObjectName) (k n : Mode) (q : ProcName) → find (is_in_conflict a v k) (rows v.home past) ≡ None → holds q v past ≡ Some n → same_proc a q ≡ false → modes_clash a k q n ≡ false
row-clear past a v k n q none held apart = by_found (find (same_row q v) (rows v.home past)) refl (sym (holds-rows q v past) ∙ held)
  where
    by_found : (found : Option LockRow) → find (same_row q v) (rows v.home past) ≡ found → mode_in found ≡ Some n → modes_clash a k q n ≡ false
    by_found None is mode = absurd (none-some n mode)
    by_found (Some row) is mode =
        let clear = found-clear (same_row q v) (is_in_conflict a v k) (rows v.home past) row is none in
        let of = same_row_is q v row clear.0 in
        let named = (and_parts (same_proc q row.proc) (same_uid v row.uid) clear.0).1 in
        let other : same_proc a row.proc ≡ false = subst (λ (p : ProcName). same_proc a p ≡ false) of.0 apart in
        let beside = no-conflict (same_uid v row.uid) (same_proc a row.proc) (modes_clash a k row.proc row.mode) named other clear.1 in
        subst (λ (p : ProcName). modes_clash a k p n ≡ false) (sym of.0) (subst (λ (o : Mode). modes_clash a k row.proc o ≡ false) (same_Some row.mode n mode) beside)

-- two processes that hold one object do so in modes that go together
abbrev pub AreApart : List StoreEffect → Type 0
AreApart past = (p q : ProcName) (u : ObjectName) (m n : Mode) → same_proc p q ≡ false → holds p u past ≡ Some m → holds q u past ≡ Some n → modes_clash p m q n ≡ false

-- a lock is granted
module _ (past : List StoreEffect) (a : ProcName) (v : ObjectName) (k : Mode) (none : find (is_in_conflict a v k) (rows v.home past) ≡ None) (apart : AreApart past) where
  by-tests : (p q : ProcName) (u : ObjectName) (m n : Mode) → same_proc p q ≡ false → (b c : Bool) → same_proc p a && same_uid u v ≡ b → same_proc q a && same_uid u v ≡ c
      → (if b then Some k else holds p u past) ≡ Some m → (if c then Some k else holds q u past) ≡ Some n → modes_clash p m q n ≡ false
  by-tests p q u m n other true true mine yours held_p held_q =
      let first = (and_parts (same_proc p a) (same_uid u v) mine).0 in
      let second = same_proc_is q a (and_parts (same_proc q a) (same_uid u v) yours).0 in
      absurd (false≢true (sym other ∙ subst (λ (x : ProcName). same_proc p x ≡ true) (sym second) first))
  by-tests p q u m n other true false mine yours held_p held_q =
      let parts = and_parts (same_proc p a) (same_uid u v) mine in
      let is = same_proc_is p a parts.0 in
      let here : holds q v past ≡ Some n = subst (λ (w : ObjectName). holds q w past ≡ Some n) (same_uid_is u v parts.1) held_q in
      let from : same_proc a q ≡ false = subst (λ (x : ProcName). same_proc x q ≡ false) is other in
      let beside : modes_clash a m q n ≡ false = subst (λ (o : Mode). modes_clash a o q n ≡ false) (same_Some k m held_p) (row-clear past a v k n q none here from) in
      subst (λ (x : ProcName). modes_clash x m q n ≡ false) (sym is) beside
  by-tests p q u m n other false true mine yours held_p held_q =
      let parts = and_parts (same_proc q a) (same_uid u v) yours in
      let is = same_proc_is q a parts.0 in
      let here : holds p v past ≡ Some m = subst (λ (w : ObjectName). holds p w past ≡ Some m) (same_uid_is u v parts.1) held_p in
      let from : same_proc a p ≡ false = same_proc-sym a p ∙ subst (λ (x : ProcName). same_proc p x ≡ false) is other in
      let beside : modes_clash a n p m ≡ false = subst (λ (o : Mode). modes_clash a o p m ≡ false) (same_Some k n held_q) (row-clear past a v k m p none here from) in
      modes_clash-sym p m q n ∙ subst (λ (x : ProcName). modes_clash x n p m ≡ false) (sym is) beside
  by-tests p q u m n other false false mine yours held_p held_q = apart p q u m n other held_p held_q

  taken-apart : AreApart (TakesLock a v k ∷ past)
  taken-apart p q u m n other held_p held_q = by-tests p q u m n other (same_proc p a && same_uid u v) (same_proc q a && same_uid u v) refl refl held_p held_q

-- a lock is given up
freed-apart : (past : List StoreEffect) (a : ProcName) (v : ObjectName) → AreApart past → AreApart (FreesLock a v ∷ past)
freed-apart past a v apart p q u m n other held_p held_q =
    apart p q u m n other (still-held (same_proc p a && same_uid u v) (holds p u past) m held_p) (still-held (same_proc q a && same_uid u v) (holds q u past) n held_q)

deleted-apart : (past : List StoreEffect) (a : ProcName) (v : ObjectName) → AreApart past → AreApart (Deletes a v ∷ past)
deleted-apart past a v apart p q u m n other held_p held_q =
    apart p q u m n other (still-held (same_proc p a && same_uid u v) (holds p u past) m held_p) (still-held (same_proc q a && same_uid u v) (holds q u past) n held_q)

-- no lock of another clashes with one that is granted
abbrev IsGrantedClear : List StoreEffect → ProcName → Op → Reply → Type 0
IsGrantedClear past p op reply = (u : ObjectName) (m : Mode) → op ≡ Lock u m → reply ≡ Fine → find (is_in_conflict p u m) (rows u.home past) ≡ None

effect-apart : (past : List StoreEffect) (p : ProcName) (op : Op) (reply : Reply) → IsGrantedClear past p op reply → AreApart past → AreApart (store_effect p op reply ++ past)
effect-apart past p (New home kind room) (Made u) clear apart = apart
effect-apart past p (Lock u m) Fine clear apart = taken-apart past p u m (clear u m refl refl) apart
effect-apart past p (Unlock u) Fine clear apart = freed-apart past p u apart
effect-apart past p (Delete u) Fine clear apart = deleted-apart past p u apart
effect-apart past p (Store spot bytes) Fine clear apart = apart
effect-apart past p (Map u) (At a true) clear apart = apart
effect-apart past p (Unmap u) Fine clear apart = apart
effect-apart past p _ _ clear apart = apart

-- what a home grants
lock-clear : (x y z there : Bool) (found : Option LockRow) → Fine ≡ (if x then AlreadyHeld else if y then Unsettled else if z then TooMany else (if not there then NoObject else conflict_or_fine found)) → found ≡ None
lock-clear true y z there found is = cc
lock-clear false true z there found is = cc
lock-clear false false true there found is = cc
lock-clear false false false there found is = home-clear there found (sym is)

module _ (opening : Start) (pending : List Pending) where
  entry-clear : (items : List Item) (p : ProcName) (u : ObjectName) (m : Mode) → IsAllowed (before_op opening items p) p (Lock u m) Fine → find (is_in_conflict p u m) (rows u.home (done items)) ≡ None
  entry-clear items p u m (inl is) = lock-clear _ _ _ (is_present opening (done items) u) (find (is_in_conflict p u m) (rows u.home (done items))) is
  entry-clear items p u m (inr among) =
      let b = before_op opening items p in
      no-fault Fine _ (λ e. cc) (λ e. cc) (λ e. cc) (among-faults (Lock u m) (unlock_state (Lock u m) b.told) (reply_of b p (Lock u m)) Fine among)

  pub all-apart : (items : List Item) → AreLegal opening pending items → AreApart (done items)
  all-apart [] legal = λ p q u m n other held_p held_q. absurd (none-some m held_p)
  all-apart (Answered e ∷ items) legal =
      effect-apart (done items) e.proc e.op e.reply
      (λ u m op fine. entry-clear items e.proc u m (subst (λ (r : Reply). IsAllowed (before_op opening items e.proc) e.proc (Lock u m) r) fine (subst (λ (o : Op). IsAllowed (before_op opening items e.proc) e.proc o e.reply) op legal.0)))
      (all-apart items legal.1)
  all-apart (Acted a ∷ items) legal =
      effect-apart (done items) a.deed.proc a.deed.op a.deed.reply
      (λ u m op fine. home-clear (is_present opening (done items) u) (find (is_in_conflict a.deed.proc u m) (rows u.home (done items))) (subst (λ (o : Op). MayAct opening (done items) a.deed.proc o a.deed.reply) op legal.0.may_act).1)
      (all-apart items legal.1)
