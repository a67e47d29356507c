-- Which replies come of a link fault, and what the others owe to the store.
use Rattle.std.specs.Prelude.{if◌then◌else◌}
use Rattle.std.proofs.Common.{◌≡◌, ◌<◌, ℕ, zero, suc, Bool, true, false, [], ◌∷◌, length, slice_index_or, refl, sym, ◌∙◌, subst, inl, inr, arith}
use Rattle.std.specs.List.{Contains}
use Rattle.std.proofs.lemmas.Bool.{false≢true}
use Rattle.uid_names.specs.Names.{ProcName, ObjectName}
use Rattle.uid_names.specs.declared.mode.Mode.{Mode}
use Rattle.dom_history.specs.declared.deed.LockState.{LockState}
use Rattle.dom_history.specs.declared.op.Op.{Op}
use Rattle.dom_history.specs.declared.op.Op.TheVariants.{New, Lock, Unlock, Delete, Load, Store, List as ListOp}
use Rattle.dom_history.specs.declared.op.Reply.{Reply}
use Rattle.dom_history.specs.declared.op.Reply.TheVariants.{Made, Fine, Bytes, Locks, Conflict, NoObject, NoSpace, Kept, Doubt, LinkFault, AlreadyHeld, Unsettled, TooMany}
use Rattle.dom_history.specs.Legal.{IsAllowed}
use Rattle.dom_history.specs.Replies.{Before, home_lock_reply, link_faults, lock_reply, may_write, reply_of, unlock_state}
use Rattle.dom_history.specs.Runs.{IsFaultless}
use Rattle.dom_history.proofs.Fits.{reply_of-faultless}

abbrev pub is_fault : Reply → Bool
is_fault LinkFault = true
is_fault Doubt = true
is_fault Kept = true
is_fault reply = false

-- the operations of locks, which are left in doubt
abbrev pub is_of_locks : Op → Bool
is_of_locks (Lock u m) = true
is_of_locks (Unlock u) = true
is_of_locks (Delete u) = true
is_of_locks op = false

abbrev pub is_lost : Reply → Bool
is_lost LinkFault = true
is_lost reply = false

-- what each of one or two passes, one that is among them passes
among_one : (t : Reply → Bool) (b : Bool) (r x : Reply) → t r ≡ b → Contains (r ∷ []) x → t x ≡ b
among_one t b r x h c = at c.0 c.1 c.2
  where
    at : (k : ℕ) → k < length (r ∷ []) → slice_index_or (r ∷ []) k x ≡ x → t x ≡ b
    at zero below is = subst (λ y. t y ≡ b) is h
    at (suc k) below is = absurd (omega (arith, below))

among_two : (t : Reply → Bool) (b : Bool) (r q x : Reply) → t r ≡ b → t q ≡ b → Contains (r ∷ q ∷ []) x → t x ≡ b
among_two t b r q x h g c = at c.0 c.1 c.2
  where
    at : (k : ℕ) → k < length (r ∷ q ∷ []) → slice_index_or (r ∷ q ∷ []) k x ≡ x → t x ≡ b
    at zero below is = subst (λ y. t y ≡ b) is h
    at (suc zero) below is = subst (λ y. t y ≡ b) is g
    at (suc (suc k)) below is = absurd (omega (arith, below))

among_none : {P : Type 0} (x : Reply) → Contains [] x → P
among_none x c = absurd (omega (arith, c.1))

unlock_among : (t : Reply → Bool) (b writes : Bool) (x : Reply) → t Kept ≡ b → t Doubt ≡ b → Contains (if writes then Kept ∷ Doubt ∷ [] else Doubt ∷ []) x → t x ≡ b
unlock_among t b true x h g c = among_two t b Kept Doubt x h g c
unlock_among t b false x h g c = among_one t b Doubt x g c

-- what stands in place of a reply comes of a fault
faults_so : (op : Op) (s : LockState) (r x : Reply) → Contains (link_faults op s r) x → is_fault x ≡ true
faults_so (New home kind room) s NoSpace x c = among_one is_fault true LinkFault x refl c
faults_so (New home kind room) s (Made u) x c = among_one is_fault true LinkFault x refl c
faults_so (Lock u m) s NoObject x c = among_one is_fault true Doubt x refl c
faults_so (Lock u m) s (Conflict q n) x c = among_one is_fault true Doubt x refl c
faults_so (Lock u m) s Fine x c = among_one is_fault true Doubt x refl c
faults_so (Unlock u) s Fine x c = unlock_among is_fault true (may_write s) x refl refl c
faults_so (Delete u) s Fine x c = among_two is_fault true Kept Doubt x refl refl c
faults_so (Load spot n) s (Bytes bytes) x c = among_one is_fault true LinkFault x refl c
faults_so (Store spot bytes) s Fine x c = among_one is_fault true LinkFault x refl c
faults_so (ListOp home after) s (Locks rows more) x c = among_one is_fault true LinkFault x refl c
faults_so _ s _ x c = among_none x c

-- and of one of locks it is no lost one
locks_so : (op : Op) (s : LockState) (r x : Reply) → is_of_locks op ≡ true → Contains (link_faults op s r) x → is_lost x ≡ false
locks_so (Lock u m) s NoObject x on c = among_one is_lost false Doubt x refl c
locks_so (Lock u m) s (Conflict q n) x on c = among_one is_lost false Doubt x refl c
locks_so (Lock u m) s Fine x on c = among_one is_lost false Doubt x refl c
locks_so (Unlock u) s Fine x on c = unlock_among is_lost false (may_write s) x refl refl c
locks_so (Delete u) s Fine x on c = among_two is_lost false Kept Doubt x refl refl c
locks_so (New home kind room) s r x on c = absurd (false≢true on)
locks_so (Load spot n) s r x on c = absurd (false≢true on)
locks_so (Store spot bytes) s r x on c = absurd (false≢true on)
locks_so (ListOp home after) s r x on c = absurd (false≢true on)
locks_so _ s _ x on c = among_none x c

-- a reply that comes of no fault is the store's
pub allowed_told : (b : Before) (p : ProcName) (op : Op) (reply : Reply) → is_fault reply ≡ false → IsAllowed b p op reply → reply ≡ reply_of b p op
allowed_told b p op reply none (inl e) = e
allowed_told b p op reply none (inr c) = absurd (false≢true (sym none ∙ faults_so op (unlock_state op b.told) (reply_of b p op) reply c))

-- an operation of locks is never lost
pub never_lost : (b : Before) (p : ProcName) (op : Op) → is_of_locks op ≡ true → IsAllowed b p op LinkFault → ⊥
never_lost b p op on (inl e) = subst IsFaultless (sym e) (reply_of-faultless b p op)
never_lost b p op on (inr c) = false≢true (sym (locks_so op (unlock_state op b.told) (reply_of b p op) LinkFault on c))

-- a lock that was granted was granted by the home
granted_by : (held unsettled many : Bool) (home : Reply) → Fine ≡ (if held then AlreadyHeld else (if unsettled then Unsettled else (if many then TooMany else home))) → home ≡ Fine
granted_by true unsettled many home e = absurd (cc)
granted_by false true many home e = absurd (cc)
granted_by false false true home e = absurd (cc)
granted_by false false false home e = sym e

pub lock_granted : (b : Before) (p : ProcName) (u : ObjectName) (m : Mode) → Fine ≡ lock_reply b p u m → home_lock_reply b.opening b.past p u m ≡ Fine
lock_granted b p u m e = granted_by _ _ _ _ e
