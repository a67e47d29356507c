-- The calls that are kept in slots, one slot for each process.
use Rattle.std.proofs.Common.{◌≡◌, ℕ, suc, zero, ◌+◌, ◌<◌, ◌≤◌, ◌≢◌, Bool, true, false, List, [], ◌∷◌, length, get_or, set, replicate, refl, ap, subst, arith}
use Rattle.std.specs.Prelude.{All, IsTrue, Option, Some, None, if◌then◌else◌}
use Rattle.std.proofs.lemmas.List.{get_or_default}
use Rattle.std.proofs.lemmas.List.Elements.{All-nil, All-cons, All-head, All-tail}
use Rattle.std.proofs.lemmas.Bool.Decides.{nat_tests}
use Rattle.std.proofs.lemmas.List.Kept.{AllPairs-cons}
use Rattle.uid_names.proofs.InOrder.{chosen, AllPairs-nil}
use Rattle.uid_names.specs.InOrder.{AreInOrder}
use Rattle.uid_names.specs.Names.{ProcName, IsProcName, same_proc, proc_lt}
use Rattle.uid_names.specs.declared.limits.TheConstants.{PROCESSES}
use Rattle.uid_names.proofs.Orders.{same_proc-itself, proc_lt-same}
use Rattle.call_once.specs.declared.served.Kept.{Kept}
use Rattle.call_once.specs.Calls.{Call, call_of, with_call, AreByProcess}
use Rattle.call_once.specs.Slots.{proc_at, call_in, calls_in}

-- each place has a process of its own
same_proc-apart : (i j : ℕ) → i ≢ j → same_proc (proc_at i) (proc_at j) ≡ false
same_proc-apart i j apart = grind (arith, nat_tests)

-- processes stand in the order of their places
proc_lt-proc_at : (i j : ℕ) → i < j → proc_lt (proc_at i) (proc_at j) ≡ true
proc_lt-proc_at i j below = grind (arith, nat_tests)

-- nor below one of an earlier place
proc_lt-later : (i j : ℕ) → j < i → proc_lt (proc_at i) (proc_at j) ≡ false
proc_lt-later i j below = grind (arith, nat_tests)

-- the call of a process that comes before all slots is not there
none_before : {B : Type 0} (first place : ℕ) (slots : List (Option (Kept B))) → place < first → call_of (proc_at place) (calls_in first slots) ≡ None
none_before first place [] below = refl
none_before first place (None ∷ slots) below = none_before (suc first) place slots (omega arith)
none_before first place (Some kept ∷ slots) below = rw (same_proc-apart first place (omega arith)) (none_before (suc first) place slots (omega arith))

-- a process's last call is that of its slot
pub call_of-calls_in : {B : Type 0} (first k place : ℕ) (slots : List (Option (Kept B))) → place ≡ k + first → call_of (proc_at place) (calls_in first slots) ≡ call_in (proc_at place) (get_or slots k None)
call_of-calls_in first k place [] e = refl
call_of-calls_in first zero place (None ∷ slots) e = none_before (suc first) place slots (omega arith)
call_of-calls_in first zero place (Some kept ∷ slots) e =
    let same : place ≡ first = omega arith in
    rw (same, same_proc-itself (proc_at first)) refl
call_of-calls_in first (suc k) place (None ∷ slots) e = call_of-calls_in (suc first) k place slots (omega arith)
call_of-calls_in first (suc k) place (Some kept ∷ slots) e = rw (same_proc-apart first place (omega arith)) (call_of-calls_in (suc first) k place slots (omega arith))

-- a call of a process that comes before all slots goes first
with_call-before : {B : Type 0} (call : Call B) (first place : ℕ) (slots : List (Option (Kept B))) → call.proc ≡ proc_at place → place < first → with_call call (calls_in first slots) ≡ call ∷ calls_in first slots
with_call-before call first place [] e below = refl
with_call-before call first place (None ∷ slots) e below = with_call-before call (suc first) place slots e (omega arith)
with_call-before call first place (Some kept ∷ slots) e below = rw (e, proc_lt-later first place below, same_proc-apart first place (omega arith)) refl

-- a slot that is filled has its process's last call
pub calls_in-set : {B : Type 0} (first k place : ℕ) (kept : Kept B) (slots : List (Option (Kept B))) → place ≡ k + first → k < length slots → calls_in first (set slots k (Some kept)) ≡ with_call (record { proc = proc_at place; number = kept.number; body = kept.body }) (calls_in first slots)
calls_in-set first k place kept [] e within = absurd (omega arith)
calls_in-set first zero place kept (None ∷ slots) e within =
    let same : place ≡ first = omega arith in
    rw (same, with_call-before (record { proc = proc_at first; number = kept.number; body = kept.body }) (suc first) first slots refl (omega arith)) refl
calls_in-set first zero place kept (Some old ∷ slots) e within =
    let same : place ≡ first = omega arith in
    rw (same, proc_lt-same (proc_at first), same_proc-itself (proc_at first)) refl
calls_in-set first (suc k) place kept (None ∷ slots) e within = calls_in-set (suc first) k place kept slots (omega arith) (omega arith)
calls_in-set first (suc k) place kept (Some old ∷ slots) e within =
    rw (proc_lt-proc_at first place (omega arith)) (ap (λ calls. record { proc = proc_at first; number = old.number; body = old.body } ∷ calls) (calls_in-set (suc first) k place kept slots (omega arith) (omega arith)))

-- empty slots keep no call
pub calls_in-replicate : {B : Type 0} (first n : ℕ) → calls_in {B = B} first (replicate n None) ≡ []
calls_in-replicate first zero = refl
calls_in-replicate first (suc n) = calls_in-replicate (suc first) n

-- a call that is kept is its process's last one
pub call_of-with_call : {B : Type 0} (call : Call B) (calls : List (Call B)) (p : ProcName) → call_of p (with_call call calls) ≡ (if same_proc call.proc p then Some call else call_of p calls)
call_of-with_call call [] p = refl
call_of-with_call call (other ∷ calls) p = grind (arith, nat_tests, call_of-with_call call calls p)

-- what holds of each call and of the one that is kept holds of all of them afterwards
pub with_call-all : {B : Type 0} (P : Call B → Type 0) (new : Call B) (calls : List (Call B)) → P new → All P calls → All P (with_call new calls)
with_call-all P new [] one all = All-cons P new [] one all
with_call-all P new (call ∷ calls) one all =
    chosen (All P) (proc_lt call.proc new.proc)
    (All-cons P call (with_call new calls) (All-head P call calls all) (with_call-all P new calls one (All-tail P call calls all)))
    (chosen (All P) (same_proc call.proc new.proc) (All-cons P new calls one (All-tail P call calls all)) (All-cons P new (call ∷ calls) one all))

-- what holds of each call holds of the last one of a process
pub call_of-all : {B : Type 0} (P : Call B → Type 0) (calls : List (Call B)) (p : ProcName) (found : Call B) → All P calls → call_of p calls ≡ Some found → P found
call_of-all P [] p found all is = absurd cc
call_of-all P (call ∷ calls) p found all is = by (same_proc call.proc p) is (call_of-all P calls p found (All-tail P call calls all))
  where
    by : (b : Bool) → (if b then Some call else call_of p calls) ≡ Some found → (call_of p calls ≡ Some found → P found) → P found
    by true is others = let same : call ≡ found = cc in subst P same (All-head P call calls all)
    by false is others = others is

-- the call that was read from the slot of a process is its last one
pub call_of-read : {B : Type 0} (slots : List (Option (Kept B))) (calls : List (Call B)) (place : ℕ) (p : ProcName) (slot : Option (Kept B)) → calls_in 0 slots ≡ calls → proc_at place ≡ p → place < length slots → slot ≡ get_or slots place slot → call_of p calls ≡ call_in p slot
call_of-read slots calls place p slot view process within read =
    rw (← view, ← process, read, get_or_default slots place slot None within) (call_of-calls_in 0 place place slots (omega arith))

-- a process stands at each place
proc_at-named : (place : ℕ) → place < PROCESSES → IsProcName (proc_at place)
proc_at-named place below = record { node = (omega arith, omega arith); number = (omega arith, omega arith) }

-- what holds of the processes from a place on holds of those of the calls in the slots from there on
calls_in-all : {B : Type 0} (P : ProcName → Type 0) (first : ℕ) (slots : List (Option (Kept B))) → ((k : ℕ) → first ≤ k → k < first + length slots → P (proc_at k))
    → All (λ (call : Call B). P call.proc) (calls_in first slots)
calls_in-all {B} P first [] each = All-nil (λ (call : Call B). P call.proc)
calls_in-all P first (None ∷ slots) each = calls_in-all P (suc first) slots (λ k from below. each k (omega arith) (omega arith))
calls_in-all {B} P first (Some kept ∷ slots) each =
    All-cons (λ (call : Call B). P call.proc) (record { proc = proc_at first; number = kept.number; body = kept.body }) (calls_in (suc first) slots)
    (each first (omega arith) (omega arith))
    (calls_in-all P (suc first) slots (λ k from below. each k (omega arith) (omega arith)))

calls_in-rising : {B : Type 0} (first : ℕ) (slots : List (Option (Kept B))) → AreInOrder (λ (a b : Call B). proc_lt a.proc b.proc) (calls_in first slots)
calls_in-rising {B} first [] = AllPairs-nil (λ (a b : Call B). IsTrue (proc_lt a.proc b.proc))
calls_in-rising first (None ∷ slots) = calls_in-rising (suc first) slots
calls_in-rising {B} first (Some kept ∷ slots) =
    AllPairs-cons (λ (a b : Call B). IsTrue (proc_lt a.proc b.proc)) (record { proc = proc_at first; number = kept.number; body = kept.body }) (calls_in (suc first) slots)
    (calls_in-all (λ q. IsTrue (proc_lt (proc_at first) q)) (suc first) slots (λ k from below. proc_lt-proc_at first k (omega arith)))
    (calls_in-rising (suc first) slots)

-- the calls in the slots of all processes
pub calls_in-by_process : {B : Type 0} (slots : List (Option (Kept B))) → length slots ≡ PROCESSES → AreByProcess (calls_in 0 slots)
calls_in-by_process slots all =
    record { rising = calls_in-rising 0 slots; named = calls_in-all IsProcName 0 slots (λ k from below. proc_at-named k (omega arith)) }
