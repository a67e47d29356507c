-- What is known of objects, and the stamps that were seen: each change of them keeps what each desk keeps.
use Rattle.std.proofs.Common.{◌≡◌, ℕ, ◌≤◌, Bool, true, false, List, Option, Some, None, IfSome, IsSome, nat_lt, refl, sym, subst, ◌∙◌, arith}
use Rattle.std.specs.Prelude.{◌==◌, if◌then◌else◌}
use Rattle.std.proofs.lemmas.Bool.Decides.{nat_tests}
use Rattle.uid_names.specs.Names.{ObjectName, same_uid}
use Rattle.uid_names.specs.declared.limits.TheConstants.{MAX_LENGTH}
use Rattle.uid_names.proofs.ListLemmas.{by_cases, none_is_no_some}
use Rattle.uid_names.proofs.Orders.{same_uid_is}
use Rattle.version_stamps.specs.declared.stamps.Stamp.{Stamp}
use Rattle.version_stamps.specs.Stamps.{stamp_of, with_stamp, without_stamp, raised}
use Rattle.version_stamps.proofs.LookUps.{stamp_of-with_stamp, stamp_of-without_stamp}
use Rattle.fault_handler.specs.declared.entries.LockEntry.{LockEntry}
use Rattle.fault_handler.specs.declared.lengths.Known.{Known}
use Rattle.fault_handler.specs.Lengths.{known_of, with_known, is_changed, known_after, grown, sent_if, sent_length}
use Rattle.fault_handler.specs.Entries.{keeps}
use Rattle.fault_handler.specs.Desks.{DeskState, entry_at, any_keeps, any_writes}
use Rattle.fault_handler.specs.Changes.{with_end, with_length_done, with_known_row, with_seen, with_raised, with_forgotten}
use Rattle.fault_handler.specs.Invariant.{IsKnown, AreKnown, AreLengthsWritten, IsDesk}
use Rattle.fault_handler.proofs.Fours.{any-at}
use Rattle.uid_names.proofs.Tables.{row_of-named}
use Rattle.fault_handler.specs.Lengths.{known_name}
use Rattle.fault_handler.proofs.KnownRows.{known_of-with_known, uid-grown, uid-sent}

-- other rows and stamps
pub IsDesk-known : (d : DeskState) (seen : List Stamp) (known : List Known) → IsDesk d → AreKnown seen known d.entries → AreLengthsWritten known d.entries → IsDesk (record d { seen = seen; known = known })
IsDesk-known d seen known is new written = record {
  four = record { entries = is.four.entries; maps = is.four.maps; calls = is.four.calls; tasks = is.four.tasks; moving = is.four.moving };
  frames = is.frames;
  maps = is.maps;
  pages = is.pages;
  moved = is.moved;
  calls = is.calls;
  entries = is.entries;
  known = new;
  lengths = written;
  at_nodes = is.at_nodes;
}

-- what holds of the row that was chosen
chosen : {A : Type 0} (P : Option A → Type 0) (b : Bool) (new : A) (o : Option A) → P (Some new) → P o → P (if b then Some new else o)
chosen P true new o here there = here
chosen P false new o here there = there

module _ (seen : List Stamp) (known : List Known) (entries : List (List LockEntry)) (are : AreKnown seen known entries) where
  -- a row was set
  pub AreKnown-row : (row : Known) → IsKnown row → AreKnown seen (with_known row known) entries
  AreKnown-row row is = record {
    rows = λ u. subst (λ (o : Option Known). IfSome o IsKnown) (sym (known_of-with_known row known u)) (chosen (λ (o : Option Known). IfSome o IsKnown) (same_uid u row.uid) row (known_of u known) is (are.rows u));
    stamps = are.stamps;
    kept = are.kept;
    both = λ u some. subst (λ (o : Option Known). IsSome o) (sym (known_of-with_known row known u)) (chosen (λ (o : Option Known). IsSome o) (same_uid u row.uid) row (known_of u known) refl (are.both u some));
  }

  -- a row was changed, where it was there
  pub AreKnown-after : (change : Known → Known) → ((k : Known) → IsKnown k → IsKnown (change k)) → (o : Option Known) → IfSome o IsKnown → AreKnown seen (known_after change o known) entries
  AreKnown-after change after None is = are
  AreKnown-after change after (Some k) is = AreKnown-row (change k) (after k is)

  -- a stamp was set, of an object of which a row is there
  pub AreKnown-stamp : (u : ObjectName) (stamp : ℕ) → 1 ≤ stamp → IsSome (known_of u known) → AreKnown (with_stamp (record { uid = u; stamp = stamp }) seen) known entries
  AreKnown-stamp u stamp least row = record {
    rows = are.rows;
    stamps = λ v. subst (λ (o : Option ℕ). IfSome o (λ s. 1 ≤ s)) (sym (after v)) (chosen (λ (o : Option ℕ). IfSome o (λ s. 1 ≤ s)) (same_uid v u) stamp (stamp_of v seen) least (are.stamps v));
    kept = λ q proc v keeping. subst (λ (o : Option ℕ). IsSome o) (sym (after v)) (chosen (λ (o : Option ℕ). IsSome o) (same_uid v u) stamp (stamp_of v seen) refl (are.kept q proc v keeping));
    both = λ v. by_cases (same_uid v u) (IsSome (stamp_of v (with_stamp (record { uid = u; stamp = stamp }) seen)) → IsSome (known_of v known))
        (λ same some. subst (λ (w : ObjectName). IsSome (known_of w known)) (sym (same_uid_is v u same)) row)
        (λ differ some. are.both v (rw differ at (subst (λ (o : Option ℕ). IsSome o) (after v) some)));
  }
    where
      after : (v : ObjectName) → stamp_of v (with_stamp (record { uid = u; stamp = stamp }) seen) ≡ (if same_uid v u then Some stamp else stamp_of v seen)
      after v = stamp_of-with_stamp (record { uid = u; stamp = stamp }) seen v

  -- a stamp was forgotten, of an object that no process keeps
  pub AreKnown-forgotten : (u : ObjectName) → any_keeps entries u ≡ false → AreKnown (without_stamp u seen) known entries
  AreKnown-forgotten u none = record {
    rows = are.rows;
    stamps = λ v. by_cases (same_uid v u) (IfSome (stamp_of v (without_stamp u seen)) (λ s. 1 ≤ s)) (λ same. subst (λ (o : Option ℕ). IfSome o (λ s. 1 ≤ s)) (sym (gone v same)) tt) (λ differ. subst (λ (o : Option ℕ). IfSome o (λ s. 1 ≤ s)) (sym (left v differ)) (are.stamps v));
    kept = λ q proc v keeping. by_cases (same_uid v u) (IsSome (stamp_of v (without_stamp u seen)))
        (λ same. absurd (let there : any_keeps entries u ≡ true = any-at (λ r. keeps (entry_at entries r u)) q proc (subst (λ (w : ObjectName). keeps (entry_at entries q w) ≡ true) (same_uid_is v u same) keeping) in cc))
        (λ differ. subst (λ (o : Option ℕ). IsSome o) (sym (left v differ)) (are.kept q proc v keeping));
    both = λ v. by_cases (same_uid v u) (IsSome (stamp_of v (without_stamp u seen)) → IsSome (known_of v known))
        (λ same some. absurd (none_is_no_some (stamp_of v (without_stamp u seen)) some (gone v same)))
        (λ differ some. are.both v (subst (λ (o : Option ℕ). IsSome o) (left v differ) some));
  }
    where
      gone : (v : ObjectName) → same_uid v u ≡ true → stamp_of v (without_stamp u seen) ≡ None
      gone v same = stamp_of-without_stamp u seen v ∙ rw same refl

      left : (v : ObjectName) → same_uid v u ≡ false → stamp_of v (without_stamp u seen) ≡ stamp_of v seen
      left v differ = stamp_of-without_stamp u seen v ∙ rw differ refl

-- the greater of a stamp and a known one is from 1
pub raised-least : (stamp : ℕ) (o : Option ℕ) → 1 ≤ stamp → 1 ≤ raised stamp o
raised-least stamp None least = least
raised-least stamp (Some s) least = omega arith

-- a row is a row after a store and after its length was sent
IsKnown-grown : (end : ℕ) → end ≤ MAX_LENGTH → (k : Known) → IsKnown k → IsKnown (grown end k)
IsKnown-grown end within k is =
    by_cases
    (nat_lt k.length end)
    (IsKnown (grown end k))
    (λ longer. rw longer (record { room = is.room; length = within }))
    (λ h. rw h is)

IsKnown-sent : (n : ℕ) (k : Known) → IsKnown k → IsKnown (sent_length n k)
IsKnown-sent n k is =
    by_cases
    (k.length == n)
    (IsKnown (sent_length n k))
    (λ same. rw same (record { room = is.room; length = is.length }))
    (λ h. rw h is)

-- changed lengths have writers where a row was set that is unchanged, or of an object with one
AreLengthsWritten-row : (known : List Known) (entries : List (List LockEntry)) (row : Known) → AreLengthsWritten known entries → (row.changed ≡ true → any_writes entries row.uid ≡ true) → AreLengthsWritten (with_known row known) entries
AreLengthsWritten-row known entries row are written u changed =
    by_test (same_uid u row.uid) refl (subst (λ (o : Option Known). is_changed o ≡ true) (known_of-with_known row known u) changed)
  where
    by_test : (b : Bool) → same_uid u row.uid ≡ b → is_changed (if b then Some row else known_of u known) ≡ true → any_writes entries u ≡ true
    by_test true same here = subst (λ (w : ObjectName). any_writes entries w ≡ true) (sym (same_uid_is u row.uid same)) (written here)
    by_test false differ there = are u there

-- a store ended there, of a process that keeps the object in a mode that writes
pub IsDesk-with_end : (d : DeskState) (u : ObjectName) (end : ℕ) → IsDesk d → end ≤ MAX_LENGTH → any_writes d.entries u ≡ true → IsDesk (with_end d u end)
IsDesk-with_end d u end is within writes =
    IsDesk-known d d.seen (known_after (grown end) (known_of u d.known) d.known) is
    (AreKnown-after d.seen d.known d.entries is.known (grown end) (IsKnown-grown end within) (known_of u d.known) (is.known.rows u))
    (by_row (known_of u d.known) refl)
  where
    by_row : (o : Option Known) → known_of u d.known ≡ o → AreLengthsWritten (known_after (grown end) o d.known) d.entries
    by_row None found = is.lengths
    by_row (Some k) found =
        AreLengthsWritten-row d.known d.entries (grown end k) is.lengths
        (λ changed. subst (λ (w : ObjectName). any_writes d.entries w ≡ true) (sym (uid-grown end k ∙ row_of-named known_name u d.known k found)) writes)

-- a length that was sent was settled
pub IsDesk-with_length_done : (d : DeskState) (u : ObjectName) (n : ℕ) (taken : Bool) → IsDesk d → IsDesk (with_length_done d u n taken)
IsDesk-with_length_done d u n false is = IsDesk-known d d.seen d.known is is.known is.lengths
IsDesk-with_length_done d u n true is =
    IsDesk-known d d.seen (known_after (sent_length n) (known_of u d.known) d.known) is
    (AreKnown-after d.seen d.known d.entries is.known (sent_length n) (IsKnown-sent n) (known_of u d.known) (is.known.rows u))
    (by_row (known_of u d.known) refl)
  where
    -- a row that is changed after a length was sent was so before
    was_changed : (k : Known) (b : Bool) → (sent_if b k).changed ≡ true → k.changed ≡ true
    was_changed k true changed = absurd (cc)
    was_changed k false changed = changed

    by_row : (o : Option Known) → known_of u d.known ≡ o → AreLengthsWritten (known_after (sent_length n) o d.known) d.entries
    by_row None found = is.lengths
    by_row (Some k) found =
        AreLengthsWritten-row d.known d.entries (sent_length n k) is.lengths
        (λ changed.
        subst (λ (w : ObjectName). any_writes d.entries w ≡ true) (sym (uid-sent n k ∙ row_of-named known_name u d.known k found))
        (is.lengths u (rw found (was_changed k (k.length == n) changed))))

-- a row of what is known of an object was set, of which the length is unchanged
pub IsDesk-with_known_row : (d : DeskState) (row : Known) → IsDesk d → IsKnown row → row.changed ≡ false → IsDesk (with_known_row d row)
IsDesk-with_known_row d row is known unchanged =
    IsDesk-known d d.seen (with_known row d.known) is (AreKnown-row d.seen d.known d.entries is.known row known)
    (AreLengthsWritten-row d.known d.entries row is.lengths (λ changed. absurd (let e : true ≡ false = sym changed ∙ unchanged in cc)))

-- a stamp was set, of an object of which the room and the length are known
pub IsDesk-with_seen : (d : DeskState) (u : ObjectName) (stamp : ℕ) → IsDesk d → 1 ≤ stamp → IsSome (known_of u d.known) → IsDesk (with_seen d u stamp)
IsDesk-with_seen d u stamp is least row =
    IsDesk-known d (with_stamp (record { uid = u; stamp = stamp }) d.seen) d.known is (AreKnown-stamp d.seen d.known d.entries is.known u stamp least row) is.lengths

-- a stamp was set together with the room and the length
pub IsDesk-learned : (d : DeskState) (row : Known) (stamp : ℕ) → IsDesk d → 1 ≤ stamp → IsKnown row → row.changed ≡ false → IsDesk (with_seen (with_known_row d row) row.uid stamp)
IsDesk-learned d row stamp is least known unchanged =
    IsDesk-with_seen (with_known_row d row) row.uid stamp (IsDesk-with_known_row d row is known unchanged) least
    (subst (λ (o : Option Known). IsSome o) (sym (known_of-with_known row d.known row.uid)) (let own : same_uid row.uid row.uid ≡ true = grind (arith, nat_tests) in rw own refl))

-- the seen stamp became the greater of both
pub IsDesk-with_raised : (d : DeskState) (u : ObjectName) (stamp : ℕ) → IsDesk d → IsSome (stamp_of u d.seen) → 1 ≤ stamp → IsDesk (with_raised d u stamp)
IsDesk-with_raised d u stamp is some least = IsDesk-with_seen d u (raised stamp (stamp_of u d.seen)) is (raised-least stamp (stamp_of u d.seen) least) (is.known.both u some)

-- a stamp was forgotten, of an object that no process keeps
pub IsDesk-with_forgotten : (d : DeskState) (u : ObjectName) → IsDesk d → any_keeps d.entries u ≡ false → IsDesk (with_forgotten d u)
IsDesk-with_forgotten d u is none = IsDesk-known d (without_stamp u d.seen) d.known is (AreKnown-forgotten d.seen d.known d.entries is.known u none) is.lengths
