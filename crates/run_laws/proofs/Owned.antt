-- What a note makes of whose the last stores are.
use Rattle.std.proofs.Common.{◌≡◌, ℕ, ◌+◌, ◌-◌, ◌*◌, ◌≤◌, Bool, true, false, List, [], ◌∷◌, ◌++◌, length, Option, Some, None, refl, sym, ap, ◌∙◌, arith}
use Rattle.std.specs.Prelude.{◌&&◌, nat_le, nat_lt, max, if◌then◌else◌, slice_index}
use Rattle.std.proofs.lemmas.Bool.Decides.{nat_tests}
use Rattle.std.proofs.lemmas.Option.{same_Some}
use Rattle.uid_names.specs.Names.{ProcName, ObjectName, same_proc, same_uid}
use Rattle.uid_names.specs.Openings.{Start}
use Rattle.uid_names.specs.declared.limits.TheConstants.{PAGE_BYTES}
use Rattle.uid_names.proofs.ListLemmas.{by_cases}
use Rattle.dom_history.specs.declared.op.Op.{Op}
use Rattle.dom_history.specs.declared.op.Op.TheVariants as ops
use Rattle.dom_history.specs.declared.op.Reply.{Reply}
use Rattle.dom_history.specs.declared.op.Reply.TheVariants as replies
use Rattle.dom_history.specs.declared.op.Spot.{Spot}
use Rattle.dom_history.specs.StoreEffects.{StoreEffect, store_effect, Makes, TakesLock, FreesLock, Deletes, Writes, Maps, Unmaps}
use Rattle.dom_history.specs.Bytes.{byte, byte_after, end_after, end_of, last_storer, length_of, storer_after}
use Rattle.dom_history.specs.Mappings.{Target, target}
use Rattle.ring_messages.specs.Bodies.{Ask}
use Rattle.node_runs.specs.Notes.{Note}
use Rattle.node_runs.specs.RunHistories.{settled_op, change_reply}
use Rattle.run_laws.specs.DecidedEffects.{effect_if}
use Rattle.run_laws.specs.NotedEffects.{note_effects}
use Rattle.run_laws.specs.Items.{Item, Value}
use Rattle.run_laws.specs.Stores.{store_value}
use Rattle.run_laws.proofs.StoredBytes.{get-bytes}
use Rattle.run_laws.specs.Left.{HasOwn}

-- effects after which each byte has its last store still, and each process its ends
pub record LeavesStorers (effects : List StoreEffect) : Type 0 where
  pub bytes : (opening : Start) (past : List StoreEffect) (u : ObjectName) (o : ℕ) → byte opening (effects ++ past) u o ≡ byte opening past u o
  pub storers : (opening : Start) (past : List StoreEffect) (u : ObjectName) (o : ℕ) → last_storer opening (effects ++ past) u o ≡ last_storer opening past u o
  pub ends : (opening : Start) (past : List StoreEffect) (p : ProcName) (u : ObjectName) → end_of opening (effects ++ past) p u ≡ end_of opening past p u

no-effect : LeavesStorers []
no-effect = record { bytes = λ opening past u o. refl; storers = λ opening past u o. refl; ends = λ opening past p u. refl }

-- an operation that was answered so is a store that was done, or leaves them
data IsOrLeaves (p : ProcName) (op : Op) (reply : Reply) : Type 0 where
  leaves : LeavesStorers (store_effect p op reply) → IsOrLeaves p op reply
  wrote : (spot : Spot) (bytes : List ℕ) → op ≡ ops.Store spot bytes → reply ≡ replies.Fine → IsOrLeaves p op reply

answered : (p : ProcName) (op : Op) (reply : Reply) → IsOrLeaves p op reply
answered p (ops.Store spot bytes) replies.Fine = wrote spot bytes refl refl
answered p (ops.Map u) (replies.At address true) = leaves (record { bytes = λ opening past v o. refl; storers = λ opening past v o. refl; ends = λ opening past q v. refl })
answered p (ops.Map u) (replies.At address false) = leaves (record { bytes = λ opening past v o. refl; storers = λ opening past v o. refl; ends = λ opening past q v. refl })
answered p (ops.New home kind room) (replies.Made u) = leaves (record { bytes = λ opening past v o. refl; storers = λ opening past v o. refl; ends = λ opening past q v. refl })
answered p (ops.Lock u m) replies.Fine = leaves (record { bytes = λ opening past v o. refl; storers = λ opening past v o. refl; ends = λ opening past q v. refl })
answered p (ops.Unlock u) replies.Fine = leaves (record { bytes = λ opening past v o. refl; storers = λ opening past v o. refl; ends = λ opening past q v. refl })
answered p (ops.Delete u) replies.Fine = leaves (record { bytes = λ opening past v o. refl; storers = λ opening past v o. refl; ends = λ opening past q v. refl })
answered p (ops.Unmap u) replies.Fine = leaves (record { bytes = λ opening past v o. refl; storers = λ opening past v o. refl; ends = λ opening past q v. refl })
answered p op reply = leaves (record { bytes = λ opening past u o. refl; storers = λ opening past u o. refl; ends = λ opening past q u. refl })

-- what a home decides is no store
decided-leaves : (p : ProcName) (op : Op) → ((spot : Spot) (bytes : List ℕ) → op ≡ ops.Store spot bytes → ⊥) → (o : Option Reply) → LeavesStorers (effect_if p (Some op) o)
decided-leaves p op other None = no-effect
decided-leaves p op other (Some reply) = by (answered p op reply)
  where
    by : IsOrLeaves p op reply → LeavesStorers (store_effect p op reply)
    by (leaves is) = is
    by (wrote spot bytes is fine) = absurd (other spot bytes is)

asked-leaves : (node : ℕ) (p : ProcName) (ask : Ask) (o : Option Reply) → LeavesStorers (effect_if p (settled_op node ask) o)
asked-leaves node p (Ask.PageIn u k) o = no-effect
asked-leaves node p (Ask.PageOut u k grant base bytes) o = no-effect
asked-leaves node p (Ask.AttrOut u n grant base) o = no-effect
asked-leaves node p (Ask.Lock u m) o = decided-leaves p (ops.Lock u m) (λ spot bytes is. absurd (cc)) o
asked-leaves node p (Ask.Unlock u) o = decided-leaves p (ops.Unlock u) (λ spot bytes is. absurd (cc)) o
asked-leaves node p (Ask.Remove u) o = decided-leaves p (ops.Delete u) (λ spot bytes is. absurd (cc)) o
asked-leaves node p (Ask.Make kind room) o = decided-leaves p (ops.New node kind room) (λ spot bytes is. absurd (cc)) o
asked-leaves node p (Ask.ListLocks after) o = decided-leaves p (ops.List node after) (λ spot bytes is. absurd (cc)) o

-- a note is of a store that was done, or leaves them
pub data NoteStorers (node : ℕ) (note : Note) : Type 0 where
  leaves : LeavesStorers (note_effects node note) → NoteStorers node note
  wrote : (p : ProcName) (phase : ℕ) (spot : Spot) (bytes : List ℕ) → note ≡ Note.Did p phase (ops.Store spot bytes) replies.Fine → NoteStorers node note

pub note-storers : (node : ℕ) (note : Note) → NoteStorers node note
note-storers node Note.Nothing = NoteStorers.leaves no-effect
note-storers node (Note.Began p op) = NoteStorers.leaves no-effect
note-storers node (Note.Ended t) = NoteStorers.leaves no-effect
note-storers node (Note.Decided p number ask answer) = NoteStorers.leaves (asked-leaves node p ask (change_reply answer))
note-storers node (Note.Did p phase op reply) = by (answered p op reply)
  where
    by : IsOrLeaves p op reply → NoteStorers node (Note.Did p phase op reply)
    by (leaves is) = NoteStorers.leaves is
    by (wrote spot bytes is fine) = NoteStorers.wrote p phase spot bytes (ap (λ o. Note.Did p phase o reply) is ∙ ap (Note.Did p phase (ops.Store spot bytes)) fine)

-- no process's end is above the length
ends-rise : (t : Option Target) (bytes : List ℕ) (u : ObjectName) (a b : ℕ) → a ≤ b → end_after t bytes u a ≤ end_after t bytes u b
ends-rise None bytes u a b low = low
ends-rise (Some t) bytes u a b low = by (same_uid t.uid u)
  where
    by : (x : Bool) → (if x then max a (t.offset + length bytes) else a) ≤ (if x then max b (t.offset + length bytes) else b)
    by true = omega (arith, low)
    by false = low

ends-up : (t : Option Target) (bytes : List ℕ) (u : ObjectName) (a : ℕ) → a ≤ end_after t bytes u a
ends-up None bytes u a = omega arith
ends-up (Some t) bytes u a = by (same_uid t.uid u)
  where
    by : (x : Bool) → a ≤ (if x then max a (t.offset + length bytes) else a)
    by true = omega arith
    by false = omega arith

end-writes : (mine : Bool) (t : Option Target) (bytes : List ℕ) (u : ObjectName) (a b : ℕ) → a ≤ b → (if mine then end_after t bytes u a else a) ≤ end_after t bytes u b
end-writes true t bytes u a b low = ends-rise t bytes u a b low
end-writes false t bytes u a b low = let up = ends-up t bytes u b in omega (arith, low, up)

-- it is one of the stores that the change does not touch: of another process, or to another object
abbrev pub IsBeside : Option Target → ProcName → ProcName → ObjectName → Type 0
IsBeside None q p u = Unit {0}
IsBeside (Some t) q p u = same_uid t.uid u ≡ true → same_proc q p ≡ false

covered-not : (q p : ProcName) (a b c : Bool) → (a ≡ true → same_proc q p ≡ false) → (before : Option ProcName) → (if a && b && c then Some q else before) ≡ Some p → (x y : ℕ) → (before ≡ Some p) × ((if a && b && c then x else y) ≡ y)
covered-not q p a b c beside before is x y = by (a && b && c) refl is
  where
    first : (a b c : Bool) → (a && b && c) ≡ true → a ≡ true
    first true b c h = refl
    first false b c h = h

    by : (on : Bool) → (a && b && c) ≡ on → (if on then Some q else before) ≡ Some p → (before ≡ Some p) × ((if on then x else y) ≡ y)
    by false h is = (is, refl)
    by true h is = absurd (
        let same : q ≡ p = same_Some q p is in
        let one : same_proc q q ≡ true = grind (arith, nat_tests) in
        let f : true ≡ false = sym one ∙ (ap (same_proc q) same ∙ beside (first a b c h)) in cc)

stays-byte : (q p : ProcName) (t : Option Target) (bytes : List ℕ) (u : ObjectName) (o : ℕ) → IsBeside t q p u → (before : Option ProcName) (y : ℕ) → storer_after t q bytes u o before ≡ Some p → (before ≡ Some p) × (byte_after t bytes u o y ≡ y)
stays-byte q p None bytes u o beside before y is = (is, refl)
stays-byte q p (Some t) bytes u o beside before y is = covered-not q p (same_uid t.uid u) (nat_le t.offset o) (nat_lt o (t.offset + length bytes)) beside before is (slice_index bytes (o - t.offset)) y

stays-end : (q p : ProcName) (t : Option Target) (bytes : List ℕ) (u : ObjectName) → IsBeside t q p u → (a : ℕ) → (if same_proc q p then end_after t bytes u a else a) ≡ a
stays-end q p t bytes u beside a = by (same_proc q p) refl
  where
    by : (mine : Bool) → same_proc q p ≡ mine → (if mine then end_after t bytes u a else a) ≡ a
    by false is = refl
    by true is = at t beside
      where
        at : (t : Option Target) → IsBeside t q p u → end_after t bytes u a ≡ a
        at None beside = refl
        at (Some t) beside = by_cases (same_uid t.uid u) (end_after (Some t) bytes u a ≡ a)
            (λ same. absurd (let f : true ≡ false = sym is ∙ beside same in cc))
            (λ apart. ap (λ b. if b then max a (t.offset + length bytes) else a) apart)

module _ (opening : Start) where
  pub end-low : (past : List StoreEffect) (p : ProcName) (u : ObjectName) → end_of opening past p u ≤ length_of opening past u
  end-low [] p u = omega arith
  end-low (Makes row ∷ past) p u = end-low past p u
  end-low (TakesLock q v m ∷ past) p u = end-low past p u
  end-low (FreesLock q v ∷ past) p u = end-low past p u
  end-low (Deletes q v ∷ past) p u = end-low past p u
  end-low (Writes q spot bytes ∷ past) p u = end-writes (same_proc q p) (target opening past q spot) bytes u (end_of opening past p u) (length_of opening past u) (end-low past p u)
  end-low (Maps q v address ∷ past) p u = end-low past p u
  end-low (Unmaps q v ∷ past) p u = end-low past p u

  -- what one store has of an item has this of each process
  pub own-store : (past : List StoreEffect) (p : ProcName) (u : ObjectName) (x : Item) → HasOwn opening past p u x (store_value opening past u x)
  own-store past p u (Item.Page k) = λ i low mine. get-bytes opening past u (PAGE_BYTES * k) PAGE_BYTES i low
  own-store past p u Item.Size = end-low past p u

  pub own-leaves : (effects past : List StoreEffect) → LeavesStorers effects → (p : ProcName) (u : ObjectName) (x : Item) (v : Value) → HasOwn opening past p u x v → HasOwn opening (effects ++ past) p u x v
  own-leaves effects past is p u (Item.Page k) (Value.Bytes bytes) has = λ i low mine. has i low (sym (is.storers opening past u (PAGE_BYTES * k + i)) ∙ mine) ∙ sym (is.bytes opening past u (PAGE_BYTES * k + i))
  own-leaves effects past is p u (Item.Page k) (Value.Length n) has = absurd has
  own-leaves effects past is p u Item.Size (Value.Length n) has = let same = is.ends opening past p u in omega (arith, has, same)
  own-leaves effects past is p u Item.Size (Value.Bytes bytes) has = absurd has

  pub own-beside : (past : List StoreEffect) (q : ProcName) (spot : Spot) (bytes : List ℕ) (p : ProcName) (u : ObjectName) → IsBeside (target opening past q spot) q p u → (x : Item) (v : Value) → HasOwn opening past p u x v → HasOwn opening (Writes q spot bytes ∷ past) p u x v
  own-beside past q spot bytes p u beside (Item.Page k) (Value.Bytes page) has = λ i low mine.
      let stays = stays-byte q p (target opening past q spot) bytes u (PAGE_BYTES * k + i) beside (last_storer opening past u (PAGE_BYTES * k + i)) (byte opening past u (PAGE_BYTES * k + i)) mine in
      has i low stays.0 ∙ sym stays.1
  own-beside past q spot bytes p u beside (Item.Page k) (Value.Length n) has = absurd has
  own-beside past q spot bytes p u beside Item.Size (Value.Length n) has = let same = stays-end q p (target opening past q spot) bytes u beside (end_of opening past p u) in omega (arith, has, same)
  own-beside past q spot bytes p u beside Item.Size (Value.Bytes page) has = absurd has
