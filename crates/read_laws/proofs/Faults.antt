-- Replies of link faults among those that a history allows.
use Rattle.std.proofs.Common.{◌≡◌, Bool, true, false, if◌then◌else◌, [], ◌∷◌, inl, inr, ◌⊎◌, refl}
use Rattle.std.specs.List.{AllByRecursion, Contains}
use Rattle.std.proofs.lemmas.List.Elements.{All-contains, All-from_recursion}
use Rattle.dom_history.specs.declared.op.Op.{Op}
use Rattle.dom_history.specs.declared.op.Op.TheVariants as ops
use Rattle.dom_history.specs.declared.op.Reply.{Reply}
use Rattle.dom_history.specs.declared.op.Reply.TheVariants as replies
use Rattle.dom_history.specs.declared.deed.LockState.{LockState}
use Rattle.dom_history.specs.Replies.{link_faults, may_write}

-- a reply of a link fault
abbrev pub IsFault : Reply → Type 0
IsFault reply = (reply ≡ replies.Kept) ⊎ ((reply ≡ replies.Doubt) ⊎ (reply ≡ replies.LinkFault))

kept : IsFault replies.Kept
kept = inl refl

doubt : IsFault replies.Doubt
doubt = inr (inl refl)

link : IsFault replies.LinkFault
link = inr (inr refl)

unlock-faults : (b : Bool) → AllByRecursion IsFault (if b then replies.Kept ∷ replies.Doubt ∷ [] else replies.Doubt ∷ [])
unlock-faults true = (kept, (doubt, tt))
unlock-faults false = (doubt, tt)

-- what may stand in place of a reply is one
faults-are : (op : Op) (s : LockState) (reply : Reply) → AllByRecursion IsFault (link_faults op s reply)
faults-are (ops.New home kind room) s replies.NoSpace = (link, tt)
faults-are (ops.New home kind room) s (replies.Made u) = (link, tt)
faults-are (ops.Lock u m) s replies.NoObject = (doubt, tt)
faults-are (ops.Lock u m) s (replies.Conflict q n) = (doubt, tt)
faults-are (ops.Lock u m) s replies.Fine = (doubt, tt)
faults-are (ops.Unlock u) s replies.Fine = unlock-faults (may_write s)
faults-are (ops.Delete u) s replies.Fine = (kept, (doubt, tt))
faults-are (ops.Load spot n) s (replies.Bytes bytes) = (link, tt)
faults-are (ops.Store spot bytes) s replies.Fine = (link, tt)
faults-are (ops.List home after) s (replies.Locks rows more) = (link, tt)
faults-are _ _ _ = tt

pub among-faults : (op : Op) (s : LockState) (stored reply : Reply) → Contains (link_faults op s stored) reply → IsFault reply
among-faults op s stored reply among = All-contains IsFault (link_faults op s stored) reply (All-from_recursion IsFault (link_faults op s stored) (faults-are op s stored)) among

-- no other reply is one
pub no-fault : (reply : Reply) (P : Type 0) → (reply ≡ replies.Kept → ⊥) → (reply ≡ replies.Doubt → ⊥) → (reply ≡ replies.LinkFault → ⊥) → IsFault reply → P
no-fault reply P a b c (inl e) = absurd (a e)
no-fault reply P a b c (inr (inl e)) = absurd (b e)
no-fault reply P a b c (inr (inr e)) = absurd (c e)
