-- What a process knows that it reads nobody writes meanwhile, in every history of one store where nothing is open.
use Rattle.std.proofs.Common.{◌≡◌, ℕ, Bool, true, false, not, if◌then◌else◌, Option, Some, None, List, [], ◌∷◌, ◌++◌, inl, inr, refl, ap, sym, subst, ◌∙◌}
use Rattle.std.proofs.lemmas.Bool.{false≢true}
use Rattle.uid_names.specs.Modes.{mode_writes, modes_clash}
use Rattle.uid_names.specs.Names.{ObjectName, ProcName, same_proc, same_uid}
use Rattle.uid_names.specs.Openings.{Start}
use Rattle.uid_names.specs.declared.mode.Mode.{Mode}
use Rattle.uid_names.specs.declared.mode.Mode.TheVariants.{Read, Write, CoWrite}
use Rattle.uid_names.proofs.Orders.{same_proc_is, same_uid_is}
use Rattle.dom_history.specs.declared.deed.LockState.{LockState}
use Rattle.dom_history.specs.declared.deed.LockState.TheVariants.{Deleting, Free, Held, Releasing, Taking}
use Rattle.dom_history.specs.declared.op.Op.{Op}
use Rattle.dom_history.specs.declared.op.Op.TheVariants.{Delete, Lock, Map, New, Store, Unlock, Unmap}
use Rattle.dom_history.specs.declared.op.Reply.{Reply}
use Rattle.dom_history.specs.declared.op.Reply.TheVariants.{At, Fine, Made, NoLock, WrongMode}
use Rattle.dom_history.specs.declared.op.Spot.{Spot}
use Rattle.dom_history.specs.Bytes.{byte, byte_after, end_after, length_of}
use Rattle.dom_history.specs.Histories.{Acted, Answered, History, IsRising, Item, Pending, before_op, entries, told}
use Rattle.dom_history.specs.Legal.{AreLegal, IsAllowed, IsLegal, MayAct}
use Rattle.dom_history.specs.Locks.{is_held, state}
use Rattle.dom_history.specs.Mappings.{Target, target}
use Rattle.dom_history.specs.Replies.{may_write, reply_of, store_reply, unlock_state}
use Rattle.dom_history.specs.StoreEffects.{own, store_effect}
use Rattle.read_laws.specs.Loads.{done}
use Rattle.read_laws.specs.Staying.{HasSame, KnowsItReads, StaysWhileRead}
use Rattle.read_laws.proofs.Excluding.{all-apart}
use Rattle.read_laws.proofs.Faults.{among-faults, no-fault}
use Rattle.read_laws.proofs.Holding.{known}

-- what may be written is held in a mode that writes
record WritesIn (s : LockState) : Type 0 where
  mode : Mode
  held : s ≡ Held mode
  writes : mode_writes mode ≡ true

writes-in : (s : LockState) → may_write s ≡ true → WritesIn s
writes-in (Held m) may = record { mode = m; held = refl; writes = may }
writes-in Free may = absurd (false≢true may)
writes-in (Taking m) may = absurd (false≢true may)
writes-in (Releasing m) may = absurd (false≢true may)
writes-in Deleting may = absurd (false≢true may)

-- beside a reader whoever writes clashes
beside-reader : (p q : ProcName) (n : Mode) → modes_clash p Read q n ≡ mode_writes n
beside-reader p q Read = refl
beside-reader p q Write = refl
beside-reader p q CoWrite = refl

same_held : (m n : Mode) → Held m ≡ Held n → m ≡ n
same_held m n is = cc

store-may : (held may : Bool) (rest : Reply) → Fine ≡ (if not held then NoLock else if not may then WrongMode else rest) → may ≡ true
store-may true true rest is = refl
store-may true false rest is = cc
store-may false may rest is = cc

module _ (opening : Start) where
  -- nobody stores to it
  module _ (items : List Item) (p : ProcName) (u : ObjectName) (legal : AreLegal opening [] items) (rising : IsRising items) (reads : KnowsItReads p u items) where
    abbrev knows : ProcName → LockState
    knows q = state u (own q (told (entries items)))

    no-writer : (q : ProcName) (b : Bool) → same_proc p q ≡ b → WritesIn (knows q) → ⊥
    no-writer q true same w =
        let mine : knows p ≡ Held w.mode = subst (λ (x : ProcName). knows x ≡ Held w.mode) (sym (same_proc_is p q same)) w.held in
        let mode : Read ≡ w.mode = same_held Read w.mode (sym reads ∙ mine) in
        false≢true (ap (λ (m : Mode). mode_writes m) mode ∙ w.writes)
    no-writer q false other w =
        let by_p = (known opening items p u Read legal rising reads).holds_it in
        let by_q = (known opening items q u w.mode legal rising w.held).holds_it in
        false≢true (sym (all-apart opening [] items legal p q u Read w.mode other by_p by_q) ∙ (beside-reader p q w.mode ∙ w.writes))

    no-store : (q : ProcName) (spot : Spot) (bytes : List ℕ) (t : Target) → IsAllowed (before_op opening items q) q (Store spot bytes) Fine → target opening (done items) q spot ≡ Some t → same_uid t.uid u ≡ true → ⊥
    no-store q spot bytes t (inl is) at same =
        let b = before_op opening items q in
        let may = store-may (is_held (state t.uid b.told)) (may_write (state t.uid b.told)) _ (is ∙ ap (λ (found : Option Target). store_reply b found bytes) at) in
        no-writer q (same_proc p q) refl (writes-in (knows q) (subst (λ (v : ObjectName). may_write (state v b.told) ≡ true) (same_uid_is t.uid u same) may))
    no-store q spot bytes t (inr among) at same =
        let b = before_op opening items q in
        no-fault Fine ⊥ (λ e. cc) (λ e. cc) (λ e. cc) (among-faults (Store spot bytes) (unlock_state (Store spot bytes) b.told) (reply_of b q (Store spot bytes)) Fine among)

    -- so a store leaves it
    byte-stays : (bytes : List ℕ) (o before : ℕ) (t : Target) (b : Bool) → same_uid t.uid u ≡ b → (same_uid t.uid u ≡ true → ⊥) → byte_after (Some t) bytes u o before ≡ before
    byte-stays bytes o before t true same not_it = absurd (not_it same)
    byte-stays bytes o before t false other not_it = rw other refl

    end-stays : (bytes : List ℕ) (before : ℕ) (t : Target) (b : Bool) → same_uid t.uid u ≡ b → (same_uid t.uid u ≡ true → ⊥) → end_after (Some t) bytes u before ≡ before
    end-stays bytes before t true same not_it = absurd (not_it same)
    end-stays bytes before t false other not_it = rw other refl

    store-stays : (q : ProcName) (spot : Spot) (bytes : List ℕ) (found : Option Target) → target opening (done items) q spot ≡ found → IsAllowed (before_op opening items q) q (Store spot bytes) Fine
        → HasSame opening u (done items) (store_effect q (Store spot bytes) Fine ++ done items)
    store-stays q spot bytes None at may = record {
      bytes = λ o. ap (λ (found : Option Target). byte_after found bytes u o (byte opening (done items) u o)) at;
      length = ap (λ (found : Option Target). end_after found bytes u (length_of opening (done items) u)) at;
    }
    store-stays q spot bytes (Some t) at may = record {
      bytes = λ o.
          ap (λ (found : Option Target). byte_after found bytes u o (byte opening (done items) u o)) at
          ∙ byte-stays bytes o (byte opening (done items) u o) t (same_uid t.uid u) refl (λ same. no-store q spot bytes t may at same);
      length = ap (λ (found : Option Target). end_after found bytes u (length_of opening (done items) u)) at
          ∙ end-stays bytes (length_of opening (done items) u) t (same_uid t.uid u) refl (λ same. no-store q spot bytes t may at same);
    }

    entry-stays : (q : ProcName) (op : Op) (reply : Reply) → IsAllowed (before_op opening items q) q op reply → HasSame opening u (done items) (store_effect q op reply ++ done items)
    entry-stays q (New home kind room) (Made v) may = record { bytes = λ o. refl; length = refl }
    entry-stays q (Lock v m) Fine may = record { bytes = λ o. refl; length = refl }
    entry-stays q (Unlock v) Fine may = record { bytes = λ o. refl; length = refl }
    entry-stays q (Delete v) Fine may = record { bytes = λ o. refl; length = refl }
    entry-stays q (Store spot bytes) Fine may = store-stays q spot bytes (target opening (done items) q spot) refl may
    entry-stays q (Map v) (At a true) may = record { bytes = λ o. refl; length = refl }
    entry-stays q (Unmap v) Fine may = record { bytes = λ o. refl; length = refl }
    entry-stays q _ _ may = record { bytes = λ o. refl; length = refl }

    -- an act stores nothing
    act-stays : (q : ProcName) (op : Op) (reply : Reply) → MayAct opening (done items) q op reply → HasSame opening u (done items) (store_effect q op reply ++ done items)
    act-stays q (New home kind room) (Made v) may = record { bytes = λ o. refl; length = refl }
    act-stays q (Lock v m) Fine may = record { bytes = λ o. refl; length = refl }
    act-stays q (Unlock v) Fine may = record { bytes = λ o. refl; length = refl }
    act-stays q (Delete v) Fine may = record { bytes = λ o. refl; length = refl }
    act-stays q (Store spot bytes) reply may = absurd may
    act-stays q (Map v) reply may = absurd may
    act-stays q (Unmap v) reply may = absurd may
    act-stays q _ _ may = record { bytes = λ o. refl; length = refl }

  pub item-stays : (items : List Item) (i : Item) (p : ProcName) (u : ObjectName) → AreLegal opening [] (i ∷ items) → IsRising items → KnowsItReads p u items → HasSame opening u (done items) (done (i ∷ items))
  item-stays items (Answered e) p u legal rising reads = entry-stays items p u legal.1 rising reads e.proc e.op e.reply legal.0
  item-stays items (Acted a) p u legal rising reads = act-stays items p u legal.1 rising reads a.deed.proc a.deed.op a.deed.reply legal.0.may_act

  -- what stands before is legal and rises
  pub older-legal : (newer items : List Item) → AreLegal opening [] (newer ++ items) → AreLegal opening [] items
  older-legal [] items legal = legal
  older-legal (i ∷ newer) items legal = older-legal newer items legal.1

  pub older-rising : (newer items : List Item) → IsRising (newer ++ items) → IsRising items
  older-rising [] items rising = rising
  older-rising (i ∷ newer) items rising = older-rising newer items rising.1

  pub stays-while-read : (h : History) → IsLegal opening h → h.open_ops ≡ [] → StaysWhileRead opening h
  stays-while-read h legal closed newer older i p u stand reads =
      let all : AreLegal opening [] (newer ++ i ∷ older) = subst (λ (is : List Item). AreLegal opening [] is) stand (subst (λ (o : List Pending). AreLegal opening o h.items) closed legal.legal) in
      let rising = older-rising newer (i ∷ older) (subst (λ (is : List Item). IsRising is) stand legal.rising) in
      item-stays older i p u (older-legal newer (i ∷ older) all) rising.1 reads
