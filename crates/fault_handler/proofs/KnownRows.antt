-- What is known of an object where a row was set or changed.
use Rattle.std.proofs.Common.{◌≡◌, ℕ, true, false, Bool, List, Some, refl}
use Rattle.std.specs.Prelude.{IsSome, nat_lt, ◌==◌, if◌then◌else◌}
use Rattle.uid_names.specs.Names.{ObjectName, same_uid}
use Rattle.uid_names.proofs.Tables.{row_of-named, row_of-with_row}
use Rattle.fault_handler.specs.declared.lengths.Known.{Known}
use Rattle.fault_handler.specs.Lengths.{known_name, known_of, with_known, grown, grown_if, sent_length, sent_if}

-- what is known of u where a row was set
pub known_of-with_known : (new : Known) (rows : List Known) (u : ObjectName) → known_of u (with_known new rows) ≡ (if same_uid u new.uid then Some new else known_of u rows)
known_of-with_known new rows u = row_of-with_row known_name new rows u

-- a row that was changed is of the same object, of which something is known
pub uid-grown : (end : ℕ) (k : Known) → (grown end k).uid ≡ k.uid
uid-grown end k = by_test (nat_lt k.length end)
  where
    by_test : (b : Bool) → (grown_if b end k).uid ≡ k.uid
    by_test true = refl
    by_test false = refl

pub uid-sent : (length : ℕ) (k : Known) → (sent_length length k).uid ≡ k.uid
uid-sent length k = by_test (k.length == length)
  where
    by_test : (b : Bool) → (sent_if b k).uid ≡ k.uid
    by_test true = refl
    by_test false = refl

pub known-grown : (u : ObjectName) (rows : List Known) (k : Known) (end : ℕ) → known_of u rows ≡ Some k → IsSome (known_of (grown end k).uid rows)
known-grown u rows k end found = rw (uid-grown end k, row_of-named known_name u rows k found, found) refl

pub known-sent : (u : ObjectName) (rows : List Known) (k : Known) (length : ℕ) → known_of u rows ≡ Some k → IsSome (known_of (sent_length length k).uid rows)
known-sent u rows k length found = rw (uid-sent length k, row_of-named known_name u rows k found, found) refl
