-- The replies of one store come from no link fault, and fit their operations.
use Rattle.std.proofs.Common.{◌≡◌, ℕ, List, refl}
use Rattle.std.specs.Prelude.{None}
use Rattle.uid_names.specs.Names.{ProcName, ObjectName}
use Rattle.dom_history.specs.declared.op.Spot.{Spot}
use Rattle.dom_history.specs.declared.op.Spot.TheVariants.{Of, Addr}
use Rattle.dom_history.specs.declared.op.Op.{Op}
use Rattle.dom_history.specs.declared.op.Op.TheVariants.{New, Lock, Unlock, Delete, Load, Store, Length, Map, Unmap, List as ListOp}
use Rattle.dom_history.specs.declared.op.Reply.TheVariants.{NotMapped}
use Rattle.dom_history.specs.Fitting.{Fits}
use Rattle.dom_history.specs.Mappings.{target}
use Rattle.uid_names.specs.Rows.{rows_after}
use Rattle.dom_history.specs.Replies.{Before, reply_of}
use Rattle.dom_history.specs.Locks.{rows}
use Rattle.dom_history.specs.Runs.{IsFaultless}
use Rattle.dom_history.proofs.Fitting.{fits-bytes, fits-locks}
use Rattle.dom_history.proofs.ReplyRows.{new_reply-one, lock_reply-one, unlock_reply-one, delete_reply-one, load_reply-one, store_reply-one, length_reply-one, map_reply-one, unmap_reply-one, list_reply-one}

-- no reply of one store comes from a link fault
pub reply_of-faultless : (b : Before) (p : ProcName) (op : Op) → IsFaultless (reply_of b p op)
reply_of-faultless b p (New home kind room) = new_reply-one IsFaultless b tt (λ u. tt) home room
reply_of-faultless b p (Lock u m) = lock_reply-one IsFaultless b tt tt tt tt (λ q n. tt) tt p u m
reply_of-faultless b p (Unlock u) = unlock_reply-one IsFaultless b tt tt u
reply_of-faultless b p (Delete u) = delete_reply-one IsFaultless b tt tt tt u
reply_of-faultless b p (Load spot n) = load_reply-one IsFaultless b (target b.opening b.past p spot) n (λ e. tt) tt tt (λ bytes e. tt)
reply_of-faultless b p (Store spot bytes) = store_reply-one IsFaultless b (target b.opening b.past p spot) bytes (λ e. tt) tt tt tt tt
reply_of-faultless b p (Length u) = length_reply-one IsFaultless b u tt tt
reply_of-faultless b p (Map u) = map_reply-one IsFaultless b p u tt (λ m e. tt) tt tt (λ n small. tt)
reply_of-faultless b p (Unmap u) = unmap_reply-one IsFaultless b p u tt tt
reply_of-faultless b p (ListOp home after) = list_reply-one IsFaultless (λ listed more short. tt) (rows_after after (rows home b.past))

-- only an address is unmapped
load_unmapped : (b : Before) (p : ProcName) (spot : Spot) (n : ℕ) → target b.opening b.past p spot ≡ None → Fits (Load spot n) NotMapped
load_unmapped b p (Of u o) n e = absurd cc
load_unmapped b p (Addr a) n e = refl

-- for a store too
store_unmapped : (b : Before) (p : ProcName) (spot : Spot) (bytes : List ℕ) → target b.opening b.past p spot ≡ None → Fits (Store spot bytes) NotMapped
store_unmapped b p (Of u o) bytes e = absurd cc
store_unmapped b p (Addr a) bytes e = refl

-- the replies but those of Length and Map fit over anything that stands before them
pub reply_of-fits : (b : Before) (p : ProcName) (op : Op) → ((u : ObjectName) → op ≡ Length u → ⊥) → ((u : ObjectName) → op ≡ Map u → ⊥) → Fits op (reply_of b p op)
reply_of-fits b p (New home kind room) no_length no_map = new_reply-one (Fits (New home kind room)) b refl (λ u. refl) home room
reply_of-fits b p (Lock u m) no_length no_map = lock_reply-one (Fits (Lock u m)) b refl refl refl refl (λ q n. refl) refl p u m
reply_of-fits b p (Unlock u) no_length no_map = unlock_reply-one (Fits (Unlock u)) b refl refl u
reply_of-fits b p (Delete u) no_length no_map = delete_reply-one (Fits (Delete u)) b refl refl refl u
reply_of-fits b p (Load spot n) no_length no_map =
    load_reply-one (Fits (Load spot n)) b (target b.opening b.past p spot) n (load_unmapped b p spot n) refl refl (λ bytes e. fits-bytes spot n bytes e)
reply_of-fits b p (Store spot bytes) no_length no_map =
    store_reply-one (Fits (Store spot bytes)) b (target b.opening b.past p spot) bytes (store_unmapped b p spot bytes) refl refl refl refl
reply_of-fits b p (Length u) no_length no_map = absurd (no_length u refl)
reply_of-fits b p (Map u) no_length no_map = absurd (no_map u refl)
reply_of-fits b p (Unmap u) no_length no_map = unmap_reply-one (Fits (Unmap u)) b p u refl refl
reply_of-fits b p (ListOp home after) no_length no_map =
    list_reply-one (Fits (ListOp home after)) (λ listed more short. fits-locks listed more short) (rows_after after (rows home b.past))
