-- How many entries there are after one was set.
use Rattle.std.proofs.Common.{◌≡◌, ℕ, ◌<◌, ◌≤◌, ◌⊎◌, inl, inr, List, length, Option, Some, None, IsSome, refl, arith}
use Rattle.uid_names.specs.Names.{ObjectName}
use Rattle.uid_names.proofs.ListLemmas.{count_by-found, length-filter_not}
use Rattle.fault_handler.specs.declared.entries.LockEntry.{LockEntry}
use Rattle.fault_handler.specs.Entries.{is_on, entry_of, entries_without}

some_fewer : (u : ObjectName) (entries : List LockEntry) (o : Option LockEntry) → entry_of u entries ≡ o → IsSome o → length (entries_without u entries) < length entries
some_fewer u entries None found some = absurd (cc)
some_fewer u entries (Some e) found some = omega (arith, length-filter_not (is_on u) entries, count_by-found (is_on u) entries e found)

-- there is room for an entry in the place of that of its object, or of one more
pub room_for : (u : ObjectName) (entries : List LockEntry) (most : ℕ) → IsSome (entry_of u entries) ⊎ (length entries < most) → length entries ≤ most → length (entries_without u entries) < most
room_for u entries most (inl there) few = omega (arith, some_fewer u entries (entry_of u entries) refl there)
room_for u entries most (inr fewer) few = omega (arith, length-filter_not (is_on u) entries)
