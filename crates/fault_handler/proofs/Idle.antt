-- A process that passes the test may begin an operation.
use Rattle.std.proofs.Common.{◌≡◌, ℕ, Bool, true, false, List, [], ◌∷◌, sym, arith}
use Rattle.std.specs.Prelude.{not, ◌&&◌}
use Rattle.std.specs.Bool.{OnTrue}
use Rattle.std.proofs.lemmas.Bool.Decides.{nat_tests}
use Rattle.uid_names.specs.Names.{ObjectName}
use Rattle.dom_history.specs.Locks.{is_held}
use Rattle.uid_names.proofs.ListLemmas.{by_cases}
use Rattle.uid_names.proofs.Somes.{none-is}
use Rattle.fault_handler.specs.declared.entries.LockEntry.{LockEntry}
use Rattle.fault_handler.specs.Entries.{is_on, entry_of, state_in, keeps, keeps_all}
use Rattle.fault_handler.specs.Desks.{DeskState, entries_of, open_call_of, moving_of}
use Rattle.fault_handler.specs.Conditions.{IsIdle, is_idle}

-- a process keeps an object on which it is Held, where it keeps each
keeps-each : (entries : List LockEntry) (u : ObjectName) → keeps_all entries ≡ true → is_held (state_in (entry_of u entries)) ≡ true → keeps (entry_of u entries) ≡ true
keeps-each [] u all held = held
keeps-each (e ∷ rest) u all held =
    by_cases
    (is_on u e)
    (keeps (entry_of u (e ∷ rest)) ≡ true)
    (λ is. let here : is_held e.state ≡ true = rw is at held in rw is (first e rest all here))
    (λ fails. rw fails (keeps-each rest u (others e rest all) (rw fails at held)))
  where
    first : (x : LockEntry) (xs : List LockEntry) → keeps_all (x ∷ xs) ≡ true → is_held x.state ≡ true → (is_held x.state && not x.released) ≡ true
    first x xs every is = grind (arith, nat_tests, every, is)

    others : (x : LockEntry) (xs : List LockEntry) → keeps_all (x ∷ xs) ≡ true → keeps_all xs ≡ true
    others x xs every = grind (arith, nat_tests, every)

IsIdle-test : (d : DeskState) (p : ℕ) → is_idle d p ≡ true → IsIdle d p
IsIdle-test d p is = record {
  no_call = none-is (open_call_of d p) (grind (arith, nat_tests, is));
  no_page = none-is (moving_of d p) (grind (arith, nat_tests, is));
  keeping = λ u held. keeps-each (entries_of d p) u (grind (arith, nat_tests, is)) held;
}

pub OnTrue-idle : (d : DeskState) (p : ℕ) (b : Bool) → b ≡ is_idle d p → OnTrue b (IsIdle d p)
OnTrue-idle d p true same = IsIdle-test d p (sym same)
OnTrue-idle d p false same = tt
