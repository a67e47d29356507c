-- What a process was told that it holds, it holds; and where one holds an object to write, no other one holds it.
use Rattle.std.proofs.Common.{◌≡◌, Bool, true, false, Option, Some, None, List, [], ◌∷◌, ◌++◌, refl, sym, ◌∙◌, ap, subst, inl, inr, ◌⊎◌}
use Rattle.std.specs.Prelude.{All, IsTrue, find, not, ◌&&◌, if◌then◌else◌}
use Rattle.std.proofs.lemmas.Bool.{false≢true}
use Rattle.std.proofs.lemmas.Option.{same_Some}
use Rattle.std.proofs.lemmas.List.Elements.{All-head, All-tail}
use Rattle.std.proofs.Math.Bool.{and-false}
use Rattle.uid_names.specs.Names.{ProcName, ObjectName, same_proc, same_uid}
use Rattle.uid_names.specs.Modes.{modes_clash}
use Rattle.uid_names.specs.Openings.{Start}
use Rattle.uid_names.specs.Rows.{is_in_conflict, same_row}
use Rattle.uid_names.specs.declared.ids.Place.{Place}
use Rattle.uid_names.specs.declared.lock_row.LockRow.{LockRow}
use Rattle.uid_names.specs.declared.mode.Mode.{Mode}
use Rattle.uid_names.specs.declared.mode.Mode.TheVariants.{CoWrite, Read, Write}
use Rattle.uid_names.proofs.Finds.{find-all_fail, find-passes}
use Rattle.uid_names.proofs.Orders.{same_proc-itself, same_proc-sym, same_proc_is, same_row_is, same_uid-itself, same_uid_is}
use Rattle.dom_history.specs.declared.deed.LockState.{LockState}
use Rattle.dom_history.specs.declared.deed.LockState.TheVariants.{Free, Held, Taking, Deleting}
use Rattle.dom_history.specs.declared.op.Entry.{Entry}
use Rattle.dom_history.specs.declared.op.Op.{Op}
use Rattle.dom_history.specs.declared.op.Op.TheVariants.{New, Lock, Unlock, Delete, Load, Store, Length, Map, Unmap, List as ListOp}
use Rattle.dom_history.specs.declared.op.Reply.{Reply}
use Rattle.dom_history.specs.declared.op.Reply.TheVariants.{Made, Fine, At, Doubt, LinkFault}
use Rattle.dom_history.specs.Histories.{Item, Answered, Acted, Act, SomeOf, IsRising, deeds, entries, place_lt, place_of, told, before_op}
use Rattle.dom_history.specs.Legal.{AreLegal, IsAllowed, IsEarlier, IsLeftOpen, IsLegalItem, MayAct, home_of, is_of_home}
use Rattle.dom_history.specs.Locks.{holds, is_held, mode_in, not_free, rows, state, state_after}
use Rattle.dom_history.specs.Objects.{is_present}
use Rattle.dom_history.specs.Replies.{home_lock_reply, reply_of}
use Rattle.dom_history.specs.StoreEffects.{StoreEffect, own, store_effect, store_effects}
use Rattle.dom_history.proofs.Places.{place_lt-not_self, place_lt-trans}
use Rattle.dom_history.proofs.ReplyRows.{found}
use Rattle.dom_history.proofs.Tables.{holds-rows, state_in-lines_after}
use Rattle.dom_history.proofs.HeldObjects.{held-before, home-clear, still-held}
use Rattle.mail_runs.proofs.Faults.{allowed_told, is_of_locks, lock_granted, never_lost}

-- an operation that was left open stands before all that stands above it
open_below : (past : List Item) (a : Act) (x : Place) → All (λ j. IsTrue (place_lt (place_of j) x)) past → SomeOf (IsLeftOpen a.begun a.deed.proc a.deed.op) past → IsTrue (place_lt a.begun x)
open_below [] a x all is_open = absurd is_open
open_below (Answered f ∷ past) a x all (inl here) = subst (λ y. IsTrue (place_lt y x)) here.0 (All-head (λ j. IsTrue (place_lt (place_of j) x)) (Answered f) past all)
open_below (Acted b ∷ past) a x all (inl here) = absurd here
open_below (i ∷ past) a x all (inr later) = open_below past a x (All-tail (λ j. IsTrue (place_lt (place_of j) x)) i past all) later

module _ (opening : Start) (p : ProcName) (u : ObjectName) where
  -- what the process knows of the object
  abbrev pub state_told : List Item → LockState
  state_told items = state u (own p (told (entries items)))

  pub state_own : (e : Entry) (past : List Item) → same_proc e.proc p ≡ true → state_told (Answered e ∷ past) ≡ state_after u e.op e.reply (state_told past)
  state_own e past is = rw is (state_in-lines_after u e.op e.reply (not_free (own p (told (entries past)))))

  pub state_other : (e : Entry) (past : List Item) → same_proc e.proc p ≡ false → state_told (Answered e ∷ past) ≡ state_told past
  state_other e past is = rw is refl

  -- the operation is one of the lock of this object
  abbrev pub is_on : Op → Bool
  is_on (Lock v m) = same_uid u v
  is_on (Unlock v) = same_uid u v
  is_on (Delete v) = same_uid u v
  is_on op = false

  on_locks : (op : Op) → is_on op ≡ true → is_of_locks op ≡ true
  on_locks (Lock v m) on = refl
  on_locks (Unlock v) on = refl
  on_locks (Delete v) on = refl
  on_locks (New home kind room) on = absurd (false≢true on)
  on_locks (Load spot n) on = absurd (false≢true on)
  on_locks (Store spot bytes) on = absurd (false≢true on)
  on_locks (Length v) on = absurd (false≢true on)
  on_locks (Map v) on = absurd (false≢true on)
  on_locks (Unmap v) on = absurd (false≢true on)
  on_locks (ListOp home after) on = absurd (false≢true on)

  on_home : (op : Op) → is_on op ≡ true → home_of op ≡ Some u.home
  on_home (Lock v m) on = ap (λ (w : ObjectName). Some w.home) (sym (same_uid_is u v on))
  on_home (Unlock v) on = ap (λ (w : ObjectName). Some w.home) (sym (same_uid_is u v on))
  on_home (Delete v) on = ap (λ (w : ObjectName). Some w.home) (sym (same_uid_is u v on))
  on_home (New home kind room) on = absurd (false≢true on)
  on_home (Load spot n) on = absurd (false≢true on)
  on_home (Store spot bytes) on = absurd (false≢true on)
  on_home (Length v) on = absurd (false≢true on)
  on_home (Map v) on = absurd (false≢true on)
  on_home (Unmap v) on = absurd (false≢true on)
  on_home (ListOp home after) on = absurd (false≢true on)

  -- one that is left in doubt leaves it unheld
  doubt_unheld : (op : Op) (s : LockState) → is_on op ≡ true → is_held (state_after u op Doubt s) ≡ false
  doubt_unheld (Lock v m) s on = rw on refl
  doubt_unheld (Unlock v) s on = rw on refl
  doubt_unheld (Delete v) s on = rw on refl
  doubt_unheld (New home kind room) s on = absurd (false≢true on)
  doubt_unheld (Load spot n) s on = absurd (false≢true on)
  doubt_unheld (Store spot bytes) s on = absurd (false≢true on)
  doubt_unheld (Length v) s on = absurd (false≢true on)
  doubt_unheld (Map v) s on = absurd (false≢true on)
  doubt_unheld (Unmap v) s on = absurd (false≢true on)
  doubt_unheld (ListOp home after) s on = absurd (false≢true on)

  -- and no reply but that to a lock makes it held
  stays_unheld : (op : Op) (reply : Reply) (s : LockState) → is_held s ≡ false → ((m : Mode) → op ≡ Lock u m → reply ≡ Fine → ⊥) → is_held (state_after u op reply s) ≡ false
  stays_unheld op reply s free none = by_held (is_held (state_after u op reply s)) refl
    where
      by_held : (b : Bool) → is_held (state_after u op reply s) ≡ b → b ≡ false
      by_held false e = refl
      by_held true e = elim (held-before u op reply s e) [
        | inl held ↦ absurd (false≢true (sym free ∙ held))
        | inr (m, asked, granted) ↦ absurd (none m asked granted)
      ]

  -- the entry that was left open
  at_open : (i : Item) (past : List Item) (a : Act) → IsLegalItem opening [] past i → a.deed.proc ≡ p → is_on a.deed.op ≡ true → IsLeftOpen a.begun a.deed.proc a.deed.op i → is_held (state_told (i ∷ past)) ≡ false
  at_open (Acted b) past a legal mine on here = absurd here
  at_open (Answered e) past a legal mine on here =
      let is : same_proc e.proc p ≡ true = ap (λ q. same_proc q p) (here.1 ∙ mine) ∙ same_proc-itself p in
      let asked : is_on e.op ≡ true = ap is_on here.2 ∙ on in
      subst (λ s. is_held s ≡ false) (sym (state_own e past is)) (by_reply here.3 asked)
    where
      by_reply : (e.reply ≡ Doubt) ⊎ (e.reply ≡ LinkFault) → is_on e.op ≡ true → is_held (state_after u e.op e.reply (state_told past)) ≡ false
      by_reply (inl doubt) asked = subst (λ r. is_held (state_after u e.op r (state_told past)) ≡ false) (sym doubt) (doubt_unheld e.op (state_told past) asked)
      by_reply (inr lost) asked = absurd (never_lost (before_op opening past e.proc) e.proc e.op (on_locks e.op asked) (subst (λ r. IsAllowed (before_op opening past e.proc) e.proc e.op r) lost legal))

  -- where an operation of its lock was left open, and no later one was decided by the home, it is not held
  open_unheld : (past : List Item) (a : Act) → AreLegal opening [] past → IsRising past → All (IsEarlier opening a) past → a.deed.proc ≡ p → is_on a.deed.op ≡ true
      → SomeOf (IsLeftOpen a.begun a.deed.proc a.deed.op) past → is_held (state_told past) ≡ false
  open_unheld [] a legal rising early mine on is_open = absurd is_open
  open_unheld (i ∷ past) a legal rising early mine on (inl here) = at_open i past a legal.0 mine on here
  open_unheld (Acted b ∷ past) a legal rising early mine on (inr later) = open_unheld past a legal.1 rising.1 (All-tail (IsEarlier opening a) (Acted b) past early) mine on later
  open_unheld (Answered e ∷ past) a legal rising early mine on (inr later) =
      by_own (same_proc e.proc p) refl (open_unheld past a legal.1 rising.1 (All-tail (IsEarlier opening a) (Answered e) past early) mine on later)
    where
      none : same_proc e.proc p ≡ true → (m : Mode) → e.op ≡ Lock u m → e.reply ≡ Fine → ⊥
      none is m asked granted =
          let decided : IsTrue (is_of_home opening e.op e.reply) = rw (asked, granted) refl in
          let home : home_of e.op ≡ home_of a.deed.op = ap home_of asked ∙ sym (on_home a.deed.op on) in
          let before : IsTrue (place_lt e.place a.begun) = All-head (IsEarlier opening a) (Answered e) past early (same_proc_is e.proc p is ∙ sym mine, home, decided) in
          let behind : IsTrue (place_lt a.begun e.place) = open_below past a e.place rising.0 later in
          place_lt-not_self e.place (place_lt-trans e.place a.begun e.place before behind)

      by_own : (b : Bool) → same_proc e.proc p ≡ b → is_held (state_told past) ≡ false → is_held (state_told (Answered e ∷ past)) ≡ false
      by_own false is free = subst (λ s. is_held s ≡ false) (sym (state_other e past is)) free
      by_own true is free = subst (λ s. is_held s ≡ false) (sym (state_own e past is)) (stays_unheld e.op e.reply (state_told past) free (none is))

  -- what others do, and what is done to other objects, changes nothing of what it holds
  pub holds_other : (q : ProcName) (op : Op) (reply : Reply) (eff : List StoreEffect) → same_proc p q ≡ false → holds p u (store_effect q op reply ++ eff) ≡ holds p u eff
  holds_other q (New home kind room) (Made v) eff other = refl
  holds_other q (Lock v m) Fine eff other = rw other refl
  holds_other q (Unlock v) Fine eff other = rw other refl
  holds_other q (Delete v) Fine eff other = rw other refl
  holds_other q (Store spot bytes) Fine eff other = refl
  holds_other q (Map v) (At address true) eff other = refl
  holds_other q (Unmap v) Fine eff other = refl
  holds_other q _ _ eff other = refl

  holds_off : (q : ProcName) (op : Op) (reply : Reply) (eff : List StoreEffect) → is_on op ≡ false → holds p u (store_effect q op reply ++ eff) ≡ holds p u eff
  holds_off q (New home kind room) (Made v) eff off = refl
  holds_off q (Lock v m) Fine eff off = rw (off, and-false (same_proc p q)) refl
  holds_off q (Unlock v) Fine eff off = rw (off, and-false (same_proc p q)) refl
  holds_off q (Delete v) Fine eff off = rw (off, and-false (same_proc p q)) refl
  holds_off q (Store spot bytes) Fine eff off = refl
  holds_off q (Map v) (At address true) eff off = refl
  holds_off q (Unmap v) Fine eff off = refl
  holds_off q _ _ eff off = refl

  -- its own replies change both alike
  module _ (q : ProcName) (eff : List StoreEffect) (s : LockState) (m : Mode) (mine : same_proc p q ≡ true) (before : s ≡ Held m → holds p u eff ≡ Some m) where
    locked_by : (v : ObjectName) (n : Mode) (b : Bool) → same_uid u v ≡ b → (if b then Held n else s) ≡ Held m → (if same_proc p q && same_uid u v then Some n else holds p u eff) ≡ Some m
    locked_by v n true e h = rw (mine, e) (ap mode_of h)
      where
        mode_of : LockState → Option Mode
        mode_of (Held k) = Some k
        mode_of other = None
    locked_by v n false e h = rw (mine, e) (before h)

    freed_by : (v : ObjectName) (b : Bool) → same_uid u v ≡ b → (if b then Free else s) ≡ Held m → (if same_proc p q && same_uid u v then None else holds p u eff) ≡ Some m
    freed_by v true e h = absurd (cc)
    freed_by v false e h = rw (mine, e) (before h)

    doubt_by : (unsettled : LockState) (b : Bool) → is_held unsettled ≡ false → (if b then unsettled else s) ≡ Held m → holds p u eff ≡ Some m
    doubt_by unsettled true free h = absurd (false≢true (sym free ∙ ap is_held h))
    doubt_by unsettled false free h = before h

    holds_own : (op : Op) (reply : Reply) → state_after u op reply s ≡ Held m → holds p u (store_effect q op reply ++ eff) ≡ Some m
    holds_own (Lock v n) Fine h = locked_by v n (same_uid u v) refl h
    holds_own (Lock v n) Doubt h = doubt_by (Taking n) (same_uid u v) refl h
    holds_own (Unlock v) Fine h = freed_by v (same_uid u v) refl h
    holds_own (Unlock v) Doubt h = doubt_by _ (same_uid u v) refl h
    holds_own (Delete v) Fine h = freed_by v (same_uid u v) refl h
    holds_own (Delete v) Doubt h = doubt_by Deleting (same_uid u v) refl h
    holds_own (New home kind room) (Made v) h = before h
    holds_own (Store spot bytes) Fine h = before h
    holds_own (Map v) (At address true) h = before h
    holds_own (Unmap v) Fine h = before h
    holds_own _ _ h = before h

  -- so it holds what it was told that it holds
  pub held_is_held : (past : List Item) → AreLegal opening [] past → IsRising past → (m : Mode) → state_told past ≡ Held m → holds p u (store_effects (deeds past)) ≡ Some m
  held_is_held [] legal rising m h = absurd (cc)
  held_is_held (Answered e ∷ past) legal rising m h = by_own (same_proc e.proc p) refl (held_is_held past legal.1 rising.1 m)
    where
      eff : List StoreEffect
      eff = store_effects (deeds past)

      by_own : (b : Bool) → same_proc e.proc p ≡ b → (state_told past ≡ Held m → holds p u eff ≡ Some m) → holds p u (store_effect e.proc e.op e.reply ++ eff) ≡ Some m
      by_own false is before = holds_other e.proc e.op e.reply eff (same_proc-sym p e.proc ∙ is) ∙ before (sym (state_other e past is) ∙ h)
      by_own true is before = holds_own e.proc eff (state_told past) m (same_proc-sym p e.proc ∙ is) before e.op e.reply (sym (state_own e past is) ∙ h)
  held_is_held (Acted a ∷ past) legal rising m h = by_own (same_proc p a.deed.proc) (is_on a.deed.op) refl refl (held_is_held past legal.1 rising.1 m h)
    where
      eff : List StoreEffect
      eff = store_effects (deeds past)

      by_own : (b on : Bool) → same_proc p a.deed.proc ≡ b → is_on a.deed.op ≡ on → holds p u eff ≡ Some m → holds p u (store_effect a.deed.proc a.deed.op a.deed.reply ++ eff) ≡ Some m
      by_own false on is asked before = holds_other a.deed.proc a.deed.op a.deed.reply eff is ∙ before
      by_own true false is asked before = holds_off a.deed.proc a.deed.op a.deed.reply eff asked ∙ before
      by_own true true is asked before = elim legal.0.belongs [
        | inl is_open ↦ absurd (false≢true (sym (open_unheld past a legal.1 rising.1 legal.0.in_order (sym (same_proc_is p a.deed.proc is)) asked is_open) ∙ ap is_held h))
        | inr none ↦ absurd none
      ]

row_held : (row : Option LockRow) (n : Mode) → mode_in row ≡ Some n → (r : LockRow) × (row ≡ Some r) × (r.mode ≡ n)
row_held None n e = absurd (cc)
row_held (Some r) n e = (r, refl, same_Some r.mode n e)

clash_by : (same clash : Bool) → (not same && clash) ≡ false → clash ≡ true → same ≡ true
clash_by true clash free clashes = refl
clash_by false clash free clashes = absurd (false≢true (sym free ∙ clashes))

-- a lock to write stands beside no other one
write_clashes : (n : Mode) (p q : ProcName) → modes_clash p Write q n ≡ true
write_clashes n p q = refl

clashes_write : (m : Mode) (p q : ProcName) → modes_clash p m q Write ≡ true
clashes_write Read p q = refl
clashes_write Write p q = refl
clashes_write CoWrite p q = refl

module _ (opening : Start) (u : ObjectName) where
  -- who holds it is the one that is granted it, where the two would clash
  granted_alone : (eff : List StoreEffect) (r : ProcName) (m : Mode) → home_lock_reply opening eff r u m ≡ Fine → (q : ProcName) (n : Mode) → holds q u eff ≡ Some n → ((a b : ProcName) → modes_clash a m b n ≡ true) → r ≡ q
  granted_alone eff r m granted q n held clash =
      let list = rows u.home eff in
      let none = home-clear (is_present opening eff u) (find (is_in_conflict r u m) list) granted in
      let row = row_held (find (same_row q u) list) n (sym (holds-rows q u eff) ∙ held) in
      let names = same_row_is q u row.0 (find-passes (same_row q u) list row.0 row.1) in
      let free = found (λ (x : LockRow). is_in_conflict r u m x ≡ false) (same_row q u) list (find-all_fail (is_in_conflict r u m) list none) row.0 row.1 in
      let on : same_uid u row.0.uid ≡ true = ap (same_uid u) (sym names.1) ∙ same_uid-itself u in
      let alike = clash_by (same_proc r row.0.proc) (modes_clash r m row.0.proc row.0.mode)
      (subst (λ b. (b && (not (same_proc r row.0.proc) && modes_clash r m row.0.proc row.0.mode)) ≡ false) on free)
      (subst (λ k. modes_clash r m row.0.proc k ≡ true) (sym row.2) (clash r row.0.proc)) in
      same_proc_is r row.0.proc alike ∙ sym names.0

  -- one that holds it to write holds it alone
  abbrev pub IsAlone : List StoreEffect → Type 0
  IsAlone eff = (p q : ProcName) (n : Mode) → holds p u eff ≡ Some Write → holds q u eff ≡ Some n → p ≡ q

  locked_alone : (eff : List StoreEffect) (r : ProcName) (v : ObjectName) (m : Mode) → IsAlone eff → home_lock_reply opening eff r v m ≡ Fine → IsAlone (store_effect r (Lock v m) Fine ++ eff)
  locked_alone eff r v m old granted p q n hp hq = by_uid (same_uid u v) refl
    where
      by_procs : (b c : Bool) → same_uid u v ≡ true → same_proc p r ≡ b → same_proc q r ≡ c → p ≡ q
      by_procs true true e ep eq = same_proc_is p r ep ∙ sym (same_proc_is q r eq)
      by_procs true false e ep eq =
          let mode : m ≡ Write = same_Some m Write (rw (ep, e) at hp) in
          let here : holds q u eff ≡ Some n = rw eq at hq in
          let own : home_lock_reply opening eff r u m ≡ Fine = subst (λ w. home_lock_reply opening eff r w m ≡ Fine) (sym (same_uid_is u v e)) granted in
          same_proc_is p r ep ∙ granted_alone eff r m own q n here (λ a b. subst (λ k. modes_clash a k b n ≡ true) (sym mode) (write_clashes n a b))
      by_procs false true e ep eq =
          let here : holds p u eff ≡ Some Write = rw ep at hp in
          let own : home_lock_reply opening eff r u m ≡ Fine = subst (λ w. home_lock_reply opening eff r w m ≡ Fine) (sym (same_uid_is u v e)) granted in
          sym (granted_alone eff r m own p Write here (λ a b. clashes_write m a b)) ∙ sym (same_proc_is q r eq)
      by_procs false false e ep eq = old p q n (rw ep at hp) (rw eq at hq)

      by_uid : (b : Bool) → same_uid u v ≡ b → p ≡ q
      by_uid true e = by_procs (same_proc p r) (same_proc q r) e refl refl
      by_uid false e = old p q n (rw (e, and-false (same_proc p r)) at hp) (rw (e, and-false (same_proc q r)) at hq)

  alone_next : (eff : List StoreEffect) (r : ProcName) (op : Op) (reply : Reply) → IsAlone eff → ((v : ObjectName) (m : Mode) → op ≡ Lock v m → reply ≡ Fine → home_lock_reply opening eff r v m ≡ Fine) → IsAlone (store_effect r op reply ++ eff)
  alone_next eff r (Lock v m) Fine old granted = locked_alone eff r v m old (granted v m refl refl)
  alone_next eff r (Unlock v) Fine old granted = λ p q n hp hq. old p q n (still-held (same_proc p r && same_uid u v) (holds p u eff) Write hp) (still-held (same_proc q r && same_uid u v) (holds q u eff) n hq)
  alone_next eff r (Delete v) Fine old granted = λ p q n hp hq. old p q n (still-held (same_proc p r && same_uid u v) (holds p u eff) Write hp) (still-held (same_proc q r && same_uid u v) (holds q u eff) n hq)
  alone_next eff r (New home kind room) (Made v) old granted = old
  alone_next eff r (Store spot bytes) Fine old granted = old
  alone_next eff r (Map v) (At address true) old granted = old
  alone_next eff r (Unmap v) Fine old granted = old
  alone_next eff r _ _ old granted = old

  pub alone : (past : List Item) → AreLegal opening [] past → IsAlone (store_effects (deeds past))
  alone [] legal = λ p q n hp hq. absurd (cc)
  alone (Answered e ∷ past) legal =
      alone_next (store_effects (deeds past)) e.proc e.op e.reply (alone past legal.1)
      (λ v m asked granted. lock_granted (before_op opening past e.proc) e.proc v m
      (sym granted ∙ allowed_told (before_op opening past e.proc) e.proc e.op e.reply (rw granted refl) legal.0 ∙ ap (reply_of (before_op opening past e.proc) e.proc) asked))
  alone (Acted a ∷ past) legal =
      alone_next (store_effects (deeds past)) a.deed.proc a.deed.op a.deed.reply (alone past legal.1)
      (λ v m asked granted. (subst (λ o. MayAct opening (store_effects (deeds past)) a.deed.proc o a.deed.reply) asked legal.0.may_act).1)

  -- so two processes that were told that they hold it, one of them to write, are one
  pub holders_agree : (past : List Item) → AreLegal opening [] past → IsRising past → (p q : ProcName) (n : Mode)
      → state_told opening p u past ≡ Held Write → state_told opening q u past ≡ Held n → p ≡ q
  holders_agree past legal rising p q n hp hq = alone past legal p q n (held_is_held opening p u past legal rising Write hp) (held_is_held opening q u past legal rising n hq)
