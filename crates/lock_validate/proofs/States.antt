-- What tests of a process's state on an object, and of its entry, say of one another.
use Rattle.std.proofs.Common.{◌≡◌, ◌≤◌, true, false, Option, Some, None, IfSome, IsSome, refl, ap, ◌∙◌, arith}
use Rattle.std.specs.Prelude.{◌&&◌, not}
use Rattle.std.proofs.lemmas.Bool.Decides.{nat_tests}
use Rattle.uid_names.specs.Modes.{mode_writes}
use Rattle.uid_names.specs.declared.mode.Mode.{Mode}
use Rattle.uid_names.proofs.Codes.{removes-writes}
use Rattle.uid_names.proofs.Passed.{left-true, right-true}
use Rattle.uid_names.proofs.ListLemmas.{by_cases}
use Rattle.dom_history.specs.declared.deed.LockState.{LockState}
use Rattle.dom_history.specs.declared.deed.LockState.TheVariants.{Free, Held, Taking, Releasing, Deleting}
use Rattle.dom_history.specs.Locks.{is_free, is_held, is_unsettled}
use Rattle.dom_history.specs.Replies.{may_write, may_delete}
use Rattle.fault_handler.specs.declared.entries.LockEntry.{LockEntry}
use Rattle.fault_handler.specs.Entries.{state_in, grant_in, is_released, keeps, keeps_writing}
use Rattle.fault_handler.specs.Invariant.{IsLockEntryState, IsLockEntry}

-- what is held for writing is held, what is held is not free, and what may be removed is held for writing
pub writes-held : (s : LockState) → may_write s ≡ true → is_held s ≡ true
writes-held Free is = absurd (cc)
writes-held (Held m) is = refl
writes-held (Taking m) is = absurd (cc)
writes-held (Releasing m) is = absurd (cc)
writes-held Deleting is = absurd (cc)

pub held-there : (s : LockState) → is_held s ≡ true → is_free s ≡ false
held-there Free is = absurd (cc)
held-there (Held m) is = refl
held-there (Taking m) is = absurd (cc)
held-there (Releasing m) is = absurd (cc)
held-there Deleting is = absurd (cc)

pub neither-free : (s : LockState) → is_held s ≡ false → is_unsettled s ≡ false → is_free s ≡ true
neither-free Free held unsettled = refl
neither-free (Held m) held unsettled = absurd (cc)
neither-free (Taking m) held unsettled = absurd (cc)
neither-free (Releasing m) held unsettled = absurd (cc)
neither-free Deleting held unsettled = absurd (cc)

pub free-unheld : (s : LockState) → is_free s ≡ true → is_held s ≡ false
free-unheld Free is = refl
free-unheld (Held m) is = absurd (cc)
free-unheld (Taking m) is = absurd (cc)
free-unheld (Releasing m) is = absurd (cc)
free-unheld Deleting is = absurd (cc)

pub deletes-writes : (s : LockState) → may_delete s ≡ true → may_write s ≡ true
deletes-writes Free is = absurd (cc)
deletes-writes (Held m) is = removes-writes m is
deletes-writes (Taking m) is = absurd (cc)
deletes-writes (Releasing m) is = absurd (cc)
deletes-writes Deleting is = absurd (cc)

-- what a process keeps for writing it holds for writing, and what it keeps and holds so it keeps for writing
pub keeps_writing-writes : (o : Option LockEntry) → keeps_writing o ≡ true → may_write (state_in o) ≡ true
keeps_writing-writes o is = grind (arith, nat_tests, is)

-- what is not Held, or is released, is not kept
pub unheld-unkept : (o : Option LockEntry) → is_held (state_in o) ≡ false → keeps o ≡ false
unheld-unkept o unheld = grind (arith, nat_tests, unheld)

pub released-unkept : (o : Option LockEntry) → (is_held (state_in o) ≡ true → is_released o ≡ true) → keeps o ≡ false
released-unkept o noted =
    by_cases
    (is_held (state_in o))
    (keeps o ≡ false)
    (λ held. let h : is_released o ≡ true = noted held in grind (arith, nat_tests, h))
    (λ unheld. unheld-unkept o unheld)

-- an object on which the process is not Free has an entry
pub there-some : (o : Option LockEntry) → is_free (state_in o) ≡ false → IsSome o
there-some None there = absurd (cc)
there-some (Some e) there = refl

-- the grant of one that is Held is a number from 1
pub grant-least : (o : Option LockEntry) → is_held (state_in o) ≡ true → IfSome o IsLockEntry → 1 ≤ grant_in o
grant-least None held is = absurd (cc)
grant-least (Some e) held is = by_state e.state held is
  where
    by_state : (s : LockState) → is_held s ≡ true → IsLockEntryState s e.grant → 1 ≤ e.grant
    by_state Free held is = absurd (cc)
    by_state (Held m) held is = is
    by_state (Taking m) held is = absurd (cc)
    by_state (Releasing m) held is = absurd (cc)
    by_state Deleting held is = absurd (cc)

-- nothing is kept of what is free
pub free-unkept : (o : Option LockEntry) → is_free (state_in o) ≡ true → keeps o ≡ false
free-unkept None is = refl
free-unkept (Some e) is = by e.state is
  where
    by : (st : LockState) → is_free st ≡ true → (is_held st && not e.released) ≡ false
    by Free is = refl
    by (Held m) is = absurd (cc)
    by (Taking m) is = absurd (cc)
    by (Releasing m) is = absurd (cc)
    by Deleting is = absurd (cc)

-- the entry of what is kept
pub kept-entry : (o : Option LockEntry) → keeps o ≡ true → (e : LockEntry) × (m : Mode) × (o ≡ Some e) × (e.state ≡ Held m)
kept-entry None kept = absurd (cc)
kept-entry (Some e) kept = by e.state refl kept
  where
    by : (st : LockState) → e.state ≡ st → (is_held st && not e.released) ≡ true → (x : LockEntry) × (m : Mode) × (Some e ≡ Some x) × (x.state ≡ Held m)
    by (Held m) is kept = (e, m, refl, is)
    by Free is kept = absurd (cc)
    by (Taking m) is kept = absurd (cc)
    by (Releasing m) is kept = absurd (cc)
    by Deleting is kept = absurd (cc)

-- and of what is kept to write
pub writing-entry : (o : Option LockEntry) → keeps_writing o ≡ true → (e : LockEntry) × (m : Mode) × (o ≡ Some e) × (e.state ≡ Held m) × (mode_writes m ≡ true) × (keeps (Some e) ≡ true)
writing-entry None kept = absurd (cc)
writing-entry (Some e) kept = by e.state refl kept
  where
    by : (st : LockState) → e.state ≡ st → (may_write st && not e.released) ≡ true → (x : LockEntry) × (m : Mode) × (Some e ≡ Some x) × (x.state ≡ Held m) × (mode_writes m ≡ true) × (keeps (Some x) ≡ true)
    by (Held m) is kept = (e, m, refl, is, left-true (mode_writes m) (not e.released) kept, ap (λ st. is_held st && not e.released) is ∙ right-true (mode_writes m) (not e.released) kept)
    by Free is kept = absurd (cc)
    by (Taking m) is kept = absurd (cc)
    by (Releasing m) is kept = absurd (cc)
    by Deleting is kept = absurd (cc)
