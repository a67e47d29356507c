-- What a note leaves of what one store has: all of it, but where a store was done.
use Rattle.std.proofs.Common.{◌≡◌, ℕ, suc, zero, ◌+◌, ◌*◌, ◌<◌, true, false, List, [], ◌∷◌, ◌++◌, length, get_or, Option, Some, None, refl, sym, ◌∙◌, ap, arith}
use Rattle.std.proofs.lemmas.List.{ext_get_or, get_or-replicate}
use Rattle.object_store.proofs.HomeLemmas.{length-zeros}
use Rattle.uid_names.specs.Names.{ProcName, ObjectName}
use Rattle.uid_names.specs.Openings.{Start}
use Rattle.uid_names.specs.declared.limits.TheConstants.{PAGE_BYTES}
use Rattle.dom_history.specs.declared.op.Op.{Op}
use Rattle.dom_history.specs.declared.op.Op.TheVariants as ops
use Rattle.dom_history.specs.declared.op.Reply.{Reply}
use Rattle.dom_history.specs.declared.op.Reply.TheVariants as replies
use Rattle.dom_history.specs.declared.op.Spot.{Spot}
use Rattle.dom_history.specs.StoreEffects.{StoreEffect, store_effect}
use Rattle.dom_history.specs.Bytes.{byte, length_of, bytes_from}
use Rattle.page_store.specs.Volumes.{zeros}
use Rattle.ring_messages.specs.Bodies.{Ask}
use Rattle.node_runs.specs.Notes.{Note}
use Rattle.node_runs.specs.RunHistories.{settled_op, change_reply}
use Rattle.run_laws.specs.DecidedEffects.{effect_if}
use Rattle.run_laws.specs.NotedEffects.{note_effects}
use Rattle.run_laws.specs.Items.{Item, Value, blank}
use Rattle.run_laws.specs.Stores.{store_value}
use Rattle.run_laws.proofs.StoredBytes.{length-bytes, get-bytes}

-- effects after which each byte and each length are as before
pub record LeavesStores (effects : List StoreEffect) : Type 0 where
  pub bytes : (opening : Start) (past : List StoreEffect) (u : ObjectName) (o : ℕ) → byte opening (effects ++ past) u o ≡ byte opening past u o
  pub length : (opening : Start) (past : List StoreEffect) (u : ObjectName) → length_of opening (effects ++ past) u ≡ length_of opening past u

no-effect : LeavesStores []
no-effect = record { bytes = λ opening past u o. refl; length = λ opening past u. refl }

-- an operation that was answered so is a store that was done, or leaves them
data IsOrLeaves (p : ProcName) (op : Op) (reply : Reply) : Type 0 where
  leaves : LeavesStores (store_effect p op reply) → IsOrLeaves p op reply
  wrote : (spot : Spot) (bytes : List ℕ) → op ≡ ops.Store spot bytes → reply ≡ replies.Fine → IsOrLeaves p op reply

answered : (p : ProcName) (op : Op) (reply : Reply) → IsOrLeaves p op reply
answered p (ops.Store spot bytes) replies.Fine = wrote spot bytes refl refl
answered p (ops.Map u) (replies.At address true) = leaves (record { bytes = λ opening past v o. refl; length = λ opening past v. refl })
answered p (ops.Map u) (replies.At address false) = leaves (record { bytes = λ opening past v o. refl; length = λ opening past v. refl })
answered p (ops.New home kind room) (replies.Made u) = leaves (record { bytes = λ opening past v o. refl; length = λ opening past v. refl })
answered p (ops.Lock u m) replies.Fine = leaves (record { bytes = λ opening past v o. refl; length = λ opening past v. refl })
answered p (ops.Unlock u) replies.Fine = leaves (record { bytes = λ opening past v o. refl; length = λ opening past v. refl })
answered p (ops.Delete u) replies.Fine = leaves (record { bytes = λ opening past v o. refl; length = λ opening past v. refl })
answered p (ops.Unmap u) replies.Fine = leaves (record { bytes = λ opening past v o. refl; length = λ opening past v. refl })
answered p op reply = leaves (record { bytes = λ opening past u o. refl; length = λ opening past u. refl })

-- what a home decides is no store
decided-leaves : (p : ProcName) (op : Op) → ((spot : Spot) (bytes : List ℕ) → op ≡ ops.Store spot bytes → ⊥) → (o : Option Reply) → LeavesStores (effect_if p (Some op) o)
decided-leaves p op other None = no-effect
decided-leaves p op other (Some reply) = by (answered p op reply)
  where
    by : IsOrLeaves p op reply → LeavesStores (store_effect p op reply)
    by (leaves is) = is
    by (wrote spot bytes is fine) = absurd (other spot bytes is)

asked-leaves : (node : ℕ) (p : ProcName) (ask : Ask) (o : Option Reply) → LeavesStores (effect_if p (settled_op node ask) o)
asked-leaves node p (Ask.PageIn u k) o = no-effect
asked-leaves node p (Ask.PageOut u k grant base bytes) o = no-effect
asked-leaves node p (Ask.AttrOut u n grant base) o = no-effect
asked-leaves node p (Ask.Lock u m) o = decided-leaves p (ops.Lock u m) (λ spot bytes is. absurd (cc)) o
asked-leaves node p (Ask.Unlock u) o = decided-leaves p (ops.Unlock u) (λ spot bytes is. absurd (cc)) o
asked-leaves node p (Ask.Remove u) o = decided-leaves p (ops.Delete u) (λ spot bytes is. absurd (cc)) o
asked-leaves node p (Ask.Make kind room) o = decided-leaves p (ops.New node kind room) (λ spot bytes is. absurd (cc)) o
asked-leaves node p (Ask.ListLocks after) o = decided-leaves p (ops.List node after) (λ spot bytes is. absurd (cc)) o

-- a note is of a store that was done, or leaves them
pub data NoteStores (node : ℕ) (note : Note) : Type 0 where
  leaves : LeavesStores (note_effects node note) → NoteStores node note
  wrote : (p : ProcName) (phase : ℕ) (spot : Spot) (bytes : List ℕ) → note ≡ Note.Did p phase (ops.Store spot bytes) replies.Fine → NoteStores node note

pub note-stores : (node : ℕ) (note : Note) → NoteStores node note
note-stores node Note.Nothing = NoteStores.leaves no-effect
note-stores node (Note.Began p op) = NoteStores.leaves no-effect
note-stores node (Note.Ended t) = NoteStores.leaves no-effect
note-stores node (Note.Decided p number ask answer) = NoteStores.leaves (asked-leaves node p ask (change_reply answer))
note-stores node (Note.Did p phase op reply) = by (answered p op reply)
  where
    by : IsOrLeaves p op reply → NoteStores node (Note.Did p phase op reply)
    by (leaves is) = NoteStores.leaves is
    by (wrote spot bytes is fine) = NoteStores.wrote p phase spot bytes (ap (λ o. Note.Did p phase o reply) is ∙ ap (Note.Did p phase (ops.Store spot bytes)) fine)

get-zeros : (i : ℕ) → i < PAGE_BYTES → get_or zeros i 0 ≡ 0
unfolding zeros
get-zeros i low = get_or-replicate PAGE_BYTES i 0 0 low

module _ (opening : Start) where
  same-bytes : (a b : List StoreEffect) (u : ObjectName) → ((o : ℕ) → byte opening a u o ≡ byte opening b u o) → (o n : ℕ) → bytes_from opening a u o n ≡ bytes_from opening b u o n
  same-bytes a b u same o zero = refl
  same-bytes a b u same o (suc n) = ap (λ (bs : List ℕ). bs ++ byte opening a u (o + n) ∷ []) (same-bytes a b u same o n) ∙ ap (λ x. bytes_from opening b u o n ++ x ∷ []) (same (o + n))

  pub left-value : (effects past : List StoreEffect) → LeavesStores effects → (u : ObjectName) (x : Item) → store_value opening (effects ++ past) u x ≡ store_value opening past u x
  left-value effects past is u (Item.Page k) = ap (λ bs. Value.Bytes bs) (same-bytes (effects ++ past) past u (is.bytes opening past u) (PAGE_BYTES * k) PAGE_BYTES)
  left-value effects past is u Item.Size = ap (λ n. Value.Length n) (is.length opening past u)

  -- at first nothing was stored
  zero-bytes : (u : ObjectName) (o : ℕ) → bytes_from opening [] u o PAGE_BYTES ≡ zeros
  zero-bytes u o =
      let one = length-bytes opening [] u o PAGE_BYTES in
      let two = length-zeros in
      ext_get_or 0 _ _ (one ∙ sym two) (λ i under. let low : i < PAGE_BYTES = omega (arith, under, one) in get-bytes opening [] u o PAGE_BYTES i low ∙ sym (get-zeros i low))

  pub blank-value : (u : ObjectName) (x : Item) → store_value opening [] u x ≡ blank x
  blank-value u (Item.Page k) = ap (λ bs. Value.Bytes bs) (zero-bytes u (PAGE_BYTES * k))
  blank-value u Item.Size = refl
