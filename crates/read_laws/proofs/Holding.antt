-- In every history of one store where nothing is open, what a process knows that it holds it holds at the home.
use Rattle.std.proofs.Common.{◌≡◌, Bool, true, false, if◌then◌else◌, Some, List, [], ◌∷◌, ◌++◌, inl, inr, ◌⊎◌, refl, ap, sym, subst, ◌∙◌}
use Rattle.std.specs.Prelude.{◌&&◌, cond, All, IsTrue}
use Rattle.std.specs.List.{AllByRecursion}
use Rattle.std.proofs.lemmas.Bool.{and_left, and_right, false≢true}
use Rattle.std.proofs.lemmas.List.Elements.{All-contains, All-from_recursion, All-head, All-tail}
use Rattle.uid_names.specs.Names.{ObjectName, ProcName, same_proc, same_uid}
use Rattle.uid_names.specs.Openings.{Start}
use Rattle.uid_names.specs.declared.ids.Place.{Place}
use Rattle.uid_names.specs.declared.mode.Mode.{Mode}
use Rattle.uid_names.proofs.Orders.{same_proc-itself, same_proc-sym, same_proc_is, same_uid-itself, same_uid_is}
use Rattle.dom_history.specs.declared.op.Entry.{Entry}
use Rattle.dom_history.specs.declared.op.Op.{Op}
use Rattle.dom_history.specs.declared.op.Op.TheVariants.{Delete, Lock, Map, New, Store, Unlock, Unmap}
use Rattle.dom_history.specs.declared.op.Reply.{Reply}
use Rattle.dom_history.specs.declared.op.Reply.TheVariants as replies
use Rattle.dom_history.specs.declared.deed.LockState.{LockState}
use Rattle.dom_history.specs.declared.deed.LockState.TheVariants.{Deleting, Free, Held, Releasing, Taking}
use Rattle.dom_history.specs.Histories.{Act, Acted, Answered, Item, IsRising, SomeOf, before_op, entries, place_lt, place_of, told}
use Rattle.dom_history.specs.Legal.{AreLegal, IsAllowed, IsEarlier, IsLeftOpen, IsLegalAct, IsOpenOp, home_of, is_of_home}
use Rattle.dom_history.specs.Locks.{holds, mode_at_home, not_free, state, state_after}
use Rattle.dom_history.specs.Replies.{link_faults, may_write, reply_of, unlock_state}
use Rattle.dom_history.specs.Runs.{IsFaultless}
use Rattle.dom_history.specs.StoreEffects.{StoreEffect, own, store_effect}
use Rattle.dom_history.proofs.Fits.{reply_of-faultless}
use Rattle.dom_history.proofs.Tables.{state_in-lines_after}
use Rattle.history_moves.proofs.Places.{place_lt-both}
use Rattle.read_laws.specs.Loads.{done}

-- an operation on the lock of an object
abbrev pub is_of_lock : ObjectName → Op → Bool
is_of_lock u (Lock v m) = same_uid u v
is_of_lock u (Unlock v) = same_uid u v
is_of_lock u (Delete v) = same_uid u v
is_of_lock u _ = false

-- what is answered so changes what its process holds on the object
abbrev pub touched : ObjectName → Op → Reply → Bool
touched u (Lock v m) replies.Fine = same_uid u v
touched u (Unlock v) replies.Fine = same_uid u v
touched u (Delete v) replies.Fine = same_uid u v
touched u _ _ = false

pub untouched : (p : ProcName) (u : ObjectName) (q : ProcName) (op : Op) (reply : Reply) (past : List StoreEffect) → same_proc p q && touched u op reply ≡ false → holds p u (store_effect q op reply ++ past) ≡ holds p u past
untouched p u q (New home kind room) (replies.Made v) past none = refl
untouched p u q (Lock v m) replies.Fine past none = rw none refl
untouched p u q (Unlock v) replies.Fine past none = rw none refl
untouched p u q (Delete v) replies.Fine past none = rw none refl
untouched p u q (Store spot bytes) replies.Fine past none = refl
untouched p u q (Map v) (replies.At a true) past none = refl
untouched p u q (Unmap v) replies.Fine past none = refl
untouched p u q _ _ past none = refl

-- what is no operation on its lock changes nothing
touched-not : (u : ObjectName) (op : Op) (reply : Reply) → is_of_lock u op ≡ false → touched u op reply ≡ false
touched-not u (Lock v m) replies.Fine other = other
touched-not u (Unlock v) replies.Fine other = other
touched-not u (Delete v) replies.Fine other = other
touched-not u _ _ other = refl

-- nor does what another process is answered
other-apart : (p q : ProcName) (u : ObjectName) (op : Op) (reply : Reply) → same_proc p q ≡ false → same_proc p q && touched u op reply ≡ false
other-apart p q u op reply other = and_left (same_proc p q) (touched u op reply) other

free-apart : (p q : ProcName) (u : ObjectName) (op : Op) (reply : Reply) → touched u op reply ≡ false → same_proc p q && touched u op reply ≡ false
free-apart p q u op reply free = and_right (same_proc p q) (touched u op reply) free

-- an entry that is left open on the lock of an object stands before a place
abbrev pub IsOpened : Entry → Type 0
IsOpened f = (f.reply ≡ replies.Doubt) ⊎ (f.reply ≡ replies.LinkFault)

abbrev pub OpensBefore : ProcName → ObjectName → Place → Item → Type 0
OpensBefore p u x (Answered f) = f.proc ≡ p → is_of_lock u f.op ≡ true → IsOpened f → IsTrue (place_lt f.place x)
OpensBefore p u x (Acted a) = Unit {0}

abbrev pub AllOpenBefore : ProcName → ObjectName → Place → List Item → Type 0
AllOpenBefore p u x [] = Unit {0}
AllOpenBefore p u x (i ∷ items) = OpensBefore p u x i × AllOpenBefore p u x items

all-below : (p : ProcName) (u : ObjectName) (x : Place) (items : List Item) → All (λ j. IsTrue (place_lt (place_of j) x)) items → AllOpenBefore p u x items
all-below p u x [] below = tt
all-below p u x (Answered f ∷ items) below =
    (λ mine lock left. All-head (λ j. IsTrue (place_lt (place_of j) x)) (Answered f) items below, all-below p u x items (All-tail (λ j. IsTrue (place_lt (place_of j) x)) (Answered f) items below))
all-below p u x (Acted a ∷ items) below = (tt, all-below p u x items (All-tail (λ j. IsTrue (place_lt (place_of j) x)) (Acted a) items below))

-- the lock of an object that a process holds: the entry that granted it, behind which it left nothing open on that lock
pub record IsGranted (items : List Item) (p : ProcName) (u : ObjectName) (m : Mode) : Type 0 where
  entry : Entry
  among : SomeOf (λ i. i ≡ Answered entry) items
  mine : entry.proc ≡ p
  op : entry.op ≡ Lock u m
  fine : entry.reply ≡ replies.Fine
  opened : AllOpenBefore p u entry.place items

of-among : (P : Item → Type 0) (i : Item) (items : List Item) → All P items → SomeOf (λ j. j ≡ i) items → P i
of-among P i [] all among = absurd among
of-among P i (j ∷ items) all (inl here) = subst P here (All-head P j items all)
of-among P i (j ∷ items) all (inr there) = of-among P i items (All-tail P j items all) there

-- an operation on its lock has its home
lock-home : (u : ObjectName) (op : Op) (m : Mode) → is_of_lock u op ≡ true → home_of (Lock u m) ≡ home_of op
lock-home u (Lock v k) m lock = ap (λ (w : ObjectName). Some w.home) (same_uid_is u v lock)
lock-home u (Unlock v) m lock = ap (λ (w : ObjectName). Some w.home) (same_uid_is u v lock)
lock-home u (Delete v) m lock = ap (λ (w : ObjectName). Some w.home) (same_uid_is u v lock)
lock-home u _ m lock = absurd (false≢true lock)

-- what an act belongs to was left open before the place where all was
open-before : (p : ProcName) (u : ObjectName) (x begun : Place) (op : Op) (items : List Item) → is_of_lock u op ≡ true → AllOpenBefore p u x items → SomeOf (IsLeftOpen begun p op) items → IsTrue (place_lt begun x)
open-before p u x begun op [] lock before left = absurd left
open-before p u x begun op (Answered f ∷ items) lock before (inl here) =
    subst (λ (y : Place). IsTrue (place_lt y x)) here.0 (before.0 here.1 (subst (λ (o : Op). is_of_lock u o ≡ true) (sym here.2) lock) here.3)
open-before p u x begun op (Answered f ∷ items) lock before (inr there) = open-before p u x begun op items lock before.1 there
open-before p u x begun op (Acted a ∷ items) lock before (inl here) = absurd here
open-before p u x begun op (Acted a ∷ items) lock before (inr there) = open-before p u x begun op items lock before.1 there

-- what a process holds behind a reply: it was granted, or was held before and is left
data Tells (u : ObjectName) (m : Mode) (op : Op) (reply : Reply) (s : LockState) : Type 0 where
  grants : op ≡ Lock u m → reply ≡ replies.Fine → Tells u m op reply s
  leaves : s ≡ Held m → touched u op reply ≡ false → (is_of_lock u op ≡ true → reply ≡ replies.Doubt → ⊥) → Tells u m op reply s

module _ (u v : ObjectName) (m : Mode) (op : Op) (reply : Reply) (s now : LockState) (apart : now ≡ Held m → ⊥) (free : same_uid u v ≡ false → touched u op reply ≡ false)
    (closed : same_uid u v ≡ false → is_of_lock u op ≡ true → reply ≡ replies.Doubt → ⊥) where
  tells-other : (b : Bool) → same_uid u v ≡ b → (if b then now else s) ≡ Held m → Tells u m op reply s
  tells-other true same is = absurd (apart is)
  tells-other false other is = leaves is (free other) (closed other)

not_its-lock : (b : Bool) → b ≡ false → b ≡ true → ⊥
not_its-lock b other same = false≢true (sym other ∙ same)

granted-now : (u v : ObjectName) (k m : Mode) (s : LockState) (b : Bool) → same_uid u v ≡ b → (if b then Held k else s) ≡ Held m → Tells u m (Lock v k) replies.Fine s
granted-now u v k m s true same is =
    let mode : k ≡ m = cc in grants (ap (λ (w : ObjectName). Lock w k) (sym (same_uid_is u v same)) ∙ ap (λ (n : Mode). Lock u n) mode) refl
granted-now u v k m s false other is = leaves is other (λ lock doubt. cc)

tells : (u : ObjectName) (m : Mode) (op : Op) (reply : Reply) (s : LockState) → state_after u op reply s ≡ Held m → Tells u m op reply s
tells u m (Lock v k) replies.Fine s is = granted-now u v k m s (same_uid u v) refl is
tells u m (Lock v k) replies.Doubt s is = tells-other u v m (Lock v k) replies.Doubt s (Taking k) (λ h. cc) (λ e. refl) (λ e lock doubt. not_its-lock (same_uid u v) e lock) (same_uid u v) refl is
tells u m (Unlock v) replies.Fine s is = tells-other u v m (Unlock v) replies.Fine s Free (λ h. cc) (λ e. e) (λ e lock doubt. not_its-lock (same_uid u v) e lock) (same_uid u v) refl is
tells u m (Unlock v) replies.Doubt s is = tells-other u v m (Unlock v) replies.Doubt s (Releasing (mode_at_home s)) (λ h. cc) (λ e. refl) (λ e lock doubt. not_its-lock (same_uid u v) e lock) (same_uid u v) refl is
tells u m (Delete v) replies.Fine s is = tells-other u v m (Delete v) replies.Fine s Free (λ h. cc) (λ e. e) (λ e lock doubt. not_its-lock (same_uid u v) e lock) (same_uid u v) refl is
tells u m (Delete v) replies.Doubt s is = tells-other u v m (Delete v) replies.Doubt s Deleting (λ h. cc) (λ e. refl) (λ e lock doubt. not_its-lock (same_uid u v) e lock) (same_uid u v) refl is
tells u m _ _ s is = leaves is refl (λ lock doubt. cc)

module _ (opening : Start) where
  -- so no act of the process changes what it knows that it holds
  act-apart : (items : List Item) (a : Act) (u : ObjectName) (m : Mode) → IsLegalAct opening [] items a → is_of_lock u a.deed.op ≡ true → IsGranted items a.deed.proc u m → ⊥
  act-apart items a u m legal lock granted = by_belongs legal.belongs
    where
      earlier : IsTrue (place_lt granted.entry.place a.begun)
      earlier =
          let at_home : is_of_home opening granted.entry.op granted.entry.reply ≡ true = rw (granted.op, granted.fine) refl in
          of-among (IsEarlier opening a) (Answered granted.entry) items legal.in_order granted.among (granted.mine, (ap home_of granted.op ∙ lock-home u a.deed.op m lock), at_home)

      by_belongs : SomeOf (IsLeftOpen a.begun a.deed.proc a.deed.op) items ⊎ SomeOf (IsOpenOp a) [] → ⊥
      by_belongs (inl left) = place_lt-both granted.entry.place a.begun earlier (open-before a.deed.proc u granted.entry.place a.begun a.deed.op items lock granted.opened left)
      by_belongs (inr none) = absurd none

  -- no operation on a lock is answered by a link fault
  doubts : (b : Bool) → AllByRecursion (λ r. r ≡ replies.LinkFault → ⊥) (if b then replies.Kept ∷ replies.Doubt ∷ [] else replies.Doubt ∷ [])
  doubts true = (λ e. cc, (λ e. cc, tt))
  doubts false = (λ e. cc, tt)

  lock-faults : (u : ObjectName) (op : Op) (s : LockState) (reply : Reply) → is_of_lock u op ≡ true → AllByRecursion (λ r. r ≡ replies.LinkFault → ⊥) (link_faults op s reply)
  lock-faults u (Lock v m) s replies.NoObject lock = (λ e. cc, tt)
  lock-faults u (Lock v m) s (replies.Conflict q n) lock = (λ e. cc, tt)
  lock-faults u (Lock v m) s replies.Fine lock = (λ e. cc, tt)
  lock-faults u (Unlock v) s replies.Fine lock = doubts (may_write s)
  lock-faults u (Delete v) s replies.Fine lock = (λ e. cc, (λ e. cc, tt))
  lock-faults u (Lock v m) s _ lock = tt
  lock-faults u (Unlock v) s _ lock = tt
  lock-faults u (Delete v) s _ lock = tt
  lock-faults u _ s _ lock = absurd (false≢true lock)

  no-link_fault : (items : List Item) (e : Entry) (u : ObjectName) → IsAllowed (before_op opening items e.proc) e.proc e.op e.reply → is_of_lock u e.op ≡ true → e.reply ≡ replies.LinkFault → ⊥
  no-link_fault items e u (inl is) lock fault = subst IsFaultless (sym is ∙ fault) (reply_of-faultless (before_op opening items e.proc) e.proc e.op)
  no-link_fault items e u (inr among) lock fault =
      let b = before_op opening items e.proc in
      let faults = link_faults e.op (unlock_state e.op b.told) (reply_of b e.proc e.op) in
      All-contains (λ r. r ≡ replies.LinkFault → ⊥) faults e.reply (All-from_recursion (λ r. r ≡ replies.LinkFault → ⊥) faults (lock-faults u e.op (unlock_state e.op b.told) (reply_of b e.proc e.op) lock)) among fault

  -- an item more leaves the grant as it is
  grant-stays : (i : Item) (items : List Item) (p : ProcName) (u : ObjectName) (m : Mode) → (g : IsGranted items p u m) → OpensBefore p u g.entry.place i → IsGranted (i ∷ items) p u m
  grant-stays i items p u m g before = record { entry = g.entry; among = inr g.among; mine = g.mine; op = g.op; fine = g.fine; opened = (before, g.opened) }

  -- what is known to be held: who granted it, and that the home has it so
  pub record IsKnown (items : List Item) (p : ProcName) (u : ObjectName) (m : Mode) : Type 0 where
    pub granted : IsGranted items p u m
    pub holds_it : holds p u (done items) ≡ Some m

  abbrev pub Knows : List Item → ProcName → ObjectName → Mode → Type 0
  Knows items p u m = state u (own p (told (entries items))) ≡ Held m → IsKnown items p u m

  -- behind an act
  act-known : (items : List Item) (a : Act) (p : ProcName) (u : ObjectName) (m : Mode) → IsLegalAct opening [] items a → IsKnown items p u m → IsKnown (Acted a ∷ items) p u m
  act-known items a p u m legal known = record {
    granted = grant-stays (Acted a) items p u m known.granted tt;
    holds_it = untouched p u a.deed.proc a.deed.op a.deed.reply (done items) (apart (same_proc p a.deed.proc) refl (is_of_lock u a.deed.op) refl) ∙ known.holds_it;
  }
    where
      apart : (b : Bool) → same_proc p a.deed.proc ≡ b → (l : Bool) → is_of_lock u a.deed.op ≡ l → same_proc p a.deed.proc && touched u a.deed.op a.deed.reply ≡ false
      apart false other l lock = other-apart p a.deed.proc u a.deed.op a.deed.reply other
      apart true mine false lock = free-apart p a.deed.proc u a.deed.op a.deed.reply (touched-not u a.deed.op a.deed.reply lock)
      apart true mine true lock = absurd (act-apart items a u m legal lock (subst (λ (q : ProcName). IsGranted items q u m) (same_proc_is p a.deed.proc mine) known.granted))

  -- behind an entry that leaves what is held
  entry-known : (items : List Item) (e : Entry) (p : ProcName) (u : ObjectName) (m : Mode) → same_proc p e.proc && touched u e.op e.reply ≡ false → (e.proc ≡ p → is_of_lock u e.op ≡ true → IsOpened e → ⊥) → IsKnown items p u m → IsKnown (Answered e ∷ items) p u m
  entry-known items e p u m none closed known = record {
    granted = grant-stays (Answered e) items p u m known.granted (λ mine lock left. absurd (closed mine lock left));
    holds_it = untouched p u e.proc e.op e.reply (done items) none ∙ known.holds_it;
  }

  -- behind one of the process
  module _ (items : List Item) (e : Entry) (p : ProcName) (u : ObjectName) (m : Mode) (mine : same_proc e.proc p ≡ true) (allowed : IsAllowed (before_op opening items e.proc) e.proc e.op e.reply) (below : All (λ j. IsTrue (place_lt (place_of j) e.place)) items) where
    fine-closed : e.reply ≡ replies.Fine → IsOpened e → ⊥
    fine-closed fine (inl doubt) = let f : replies.Fine ≡ replies.Doubt = sym fine ∙ doubt in cc
    fine-closed fine (inr fault) = let f : replies.Fine ≡ replies.LinkFault = sym fine ∙ fault in cc

    taken : holds p u (store_effect e.proc (Lock u m) replies.Fine ++ done items) ≡ Some m
    taken = rw (same_proc-sym p e.proc ∙ mine, same_uid-itself u) refl

    own-known : (s : LockState) → Tells u m e.op e.reply s → (s ≡ Held m → IsKnown items p u m) → IsKnown (Answered e ∷ items) p u m
    own-known s (grants op fine) before = record {
      granted = record {
        entry = e;
        among = inl refl;
        mine = same_proc_is e.proc p mine;
        op = op;
        fine = fine;
        opened = (λ own lock left. absurd (fine-closed fine left), all-below p u e.place items below);
      };
      holds_it = ap (λ (o : Op). holds p u (store_effect e.proc o e.reply ++ done items)) op ∙ ap (λ (r : Reply). holds p u (store_effect e.proc (Lock u m) r ++ done items)) fine ∙ taken;
    }
    own-known s (leaves was free closed) before = entry-known items e p u m (free-apart p e.proc u e.op e.reply free) (λ own lock left. opened lock left) (before was)
      where
        opened : is_of_lock u e.op ≡ true → IsOpened e → ⊥
        opened lock (inl doubt) = closed lock doubt
        opened lock (inr fault) = no-link_fault items e u allowed lock fault

  -- behind one of another
  other-known : (items : List Item) (e : Entry) (p : ProcName) (u : ObjectName) (m : Mode) → same_proc e.proc p ≡ false → IsKnown items p u m → IsKnown (Answered e ∷ items) p u m
  other-known items e p u m other known =
      entry-known items e p u m (other-apart p e.proc u e.op e.reply (same_proc-sym p e.proc ∙ other))
      (λ mine lock left. false≢true (sym other ∙ subst (λ (q : ProcName). same_proc q p ≡ true) (sym mine) (same_proc-itself p))) known

  entry-tells : (items : List Item) (e : Entry) (p : ProcName) (u : ObjectName) (m : Mode) (b : Bool) → same_proc e.proc p ≡ b → IsAllowed (before_op opening items e.proc) e.proc e.op e.reply
      → All (λ j. IsTrue (place_lt (place_of j) e.place)) items → Knows items p u m → state u (cond b (record { proc = e.proc; op = e.op; reply = e.reply } ∷ own p (told (entries items))) (own p (told (entries items)))) ≡ Held m
      → IsKnown (Answered e ∷ items) p u m
  entry-tells items e p u m true mine allowed below before is =
      let was = own p (told (entries items)) in
      own-known items e p u m mine allowed below (state u was) (tells u m e.op e.reply (state u was) (sym (state_in-lines_after u e.op e.reply (not_free was)) ∙ is)) before
  entry-tells items e p u m false other allowed below before is = other-known items e p u m other (before is)

  pub known : (items : List Item) (p : ProcName) (u : ObjectName) (m : Mode) → AreLegal opening [] items → IsRising items → Knows items p u m
  known [] p u m legal rising is = absurd (let f : Free ≡ Held m = is in cc)
  known (Answered e ∷ items) p u m legal rising is = entry-tells items e p u m (same_proc e.proc p) refl legal.0 rising.0 (known items p u m legal.1 rising.1) is
  known (Acted a ∷ items) p u m legal rising is = act-known items a p u m legal.0 (known items p u m legal.1 rising.1 is)
