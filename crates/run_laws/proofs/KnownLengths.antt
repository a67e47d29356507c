-- The known length of an object never falls, and its room stays, but where a grant tells of an object anew that nobody keeps.
use Rattle.std.proofs.Common.{◌≡◌, ℕ, ◌≤◌, Bool, true, false, List, [], Option, Some, None, refl, sym, ap, subst, ◌∙◌, arith}
use Rattle.std.specs.Prelude.{◌==◌, nat_lt, if◌then◌else◌}
use Rattle.std.proofs.lemmas.Bool.Decides.{nat_tests}
use Rattle.uid_names.specs.Names.{ObjectName, same_uid}
use Rattle.uid_names.specs.declared.mode.Mode.{Mode}
use Rattle.uid_names.proofs.ListLemmas.{by_cases}
use Rattle.uid_names.proofs.Orders.{same_uid_is}
use Rattle.uid_names.proofs.Tables.{row_of-named}
use Rattle.fault_handler.specs.declared.lengths.Known.{Known}
use Rattle.fault_handler.specs.Lengths.{known_name, known_of, length_of, room_of, grown, grown_if, sent_length, sent_if, known_after, with_known}
use Rattle.fault_handler.specs.Desks.{DeskState, any_keeps}
use Rattle.fault_handler.specs.Changes.{known_sent}
use Rattle.fault_handler.specs.Outcomes.{Turn}
use Rattle.fault_handler.specs.LockCalls.{LockAnswer}
use Rattle.fault_handler.proofs.KnownRows.{known_of-with_known, uid-grown, uid-sent}
use Rattle.lock_validate.specs.Causes.{Cause}
use Rattle.lock_validate.specs.DeskMoves.{Change, DeskMoves}

-- the length is not less, and the room the same
abbrev pub IsUp : Option Known → Option Known → Type 0
IsUp old new = (length_of old ≤ length_of new) × (room_of new ≡ room_of old)

up-then : (a b c : Option Known) → IsUp a b → IsUp b c → IsUp a c
up-then a b c first second = ((let e = first.0 in let f = second.0 in omega (arith, e, f)), second.1 ∙ first.1)

up-same : (a b : Option Known) → b ≡ a → IsUp a b
up-same a b same = ((let e = ap length_of same in omega (arith, e)), ap room_of same)

grown-up : (end : ℕ) (k : Known) → IsUp (Some k) (Some (grown end k))
grown-up end k = by (nat_lt k.length end) refl
  where
    by : (b : Bool) → nat_lt k.length end ≡ b → IsUp (Some k) (Some (grown_if b end k))
    by true e = ((let f : k.length ≤ end = grind (arith, nat_tests, e) in f), refl)
    by false e = (omega arith, refl)

sent-up : (n : ℕ) (k : Known) → IsUp (Some k) (Some (sent_length n k))
sent-up n k = by (k.length == n)
  where
    by : (b : Bool) → IsUp (Some k) (Some (sent_if b k))
    by true = (omega arith, refl)
    by false = (omega arith, refl)

module _ (u : ObjectName) where
  -- a row that was changed in its place
  after-up : (change : Known → Known) → ((k : Known) → (change k).uid ≡ k.uid) → ((k : Known) → IsUp (Some k) (Some (change k))) → (v : ObjectName) (rows : List Known) (o : Option Known) → known_of v rows ≡ o
      → IsUp (known_of u rows) (known_of u (known_after change o rows))
  after-up change names up v rows None found = up-same (known_of u rows) (known_of u rows) refl
  after-up change names up v rows (Some k) found = by_cases (same_uid u (change k).uid) (IsUp (known_of u rows) (known_of u (with_known (change k) rows)))
      (λ is.
      let named : (change k).uid ≡ v = names k ∙ row_of-named known_name v rows k found in
      let here = known_of-with_known (change k) rows u ∙ ap (λ b. if b then Some (change k) else known_of u rows) is in
      let was : known_of u rows ≡ Some k = ap (λ w. known_of w rows) (same_uid_is u (change k).uid is ∙ named) ∙ found in
      subst (λ o. IsUp o (known_of u (with_known (change k) rows))) (sym was) (subst (IsUp (Some k)) (sym here) (up k)))
      (λ differs. up-same (known_of u rows) (known_of u (with_known (change k) rows)) (known_of-with_known (change k) rows u ∙ ap (λ b. if b then Some (change k) else known_of u rows) differs))

  sent-known-up : (taken : Bool) (v : ObjectName) (n : ℕ) (rows : List Known) → IsUp (known_of u rows) (known_of u (known_sent taken v n rows))
  sent-known-up true v n rows = after-up (sent_length n) (uid-sent n) (sent-up n) v rows (known_of v rows) refl
  sent-known-up false v n rows = up-same (known_of u rows) (known_of u rows) refl

  -- a change, where no grant tells of the object anew
  abbrev pub IsNotLearned : Cause → DeskState → Type 0
  IsNotLearned c d = (v : ObjectName) (m : Mode) (grant stamp room n : ℕ) → c ≡ Cause.AnswerCame (LockAnswer.Granted v m grant stamp room n) → any_keeps d.entries v ≡ false → same_uid u v ≡ false

  pub change-up : (c : Cause) (turn : Turn) (p : ℕ) (d e : DeskState) (dropped : List (ObjectName × ℕ)) → IsNotLearned c d → Change c turn p d e dropped → IsUp (known_of u d.known) (known_of u e.known)
  change-up c turn p d e dropped unlearned (Change.grows task bytes does is ends) = after-up (grown _) (uid-grown _) (grown-up _) task.uid d.known (known_of task.uid d.known) refl
  change-up c turn p d e dropped unlearned (Change.length_settles v n delete taken stamp given idle writes) = sent-known-up taken v n d.known
  change-up c turn p d e dropped unlearned (Change.learns v m grant stamp room n given alone none fresh is_room is_length) =
      up-same (known_of u d.known) _ (known_of-with_known (record { uid = v; room = room; length = n; changed = false }) d.known u
      ∙ ap (λ b. if b then Some (record { uid = v; room = room; length = n; changed = false }) else known_of u d.known) (unlearned v m grant stamp room n given none))
  change-up c turn p d e dropped unlearned change = up-same (known_of u d.known) (known_of u d.known) refl

  -- where a cause brings no grant
  pub moves-up : (c : Cause) (turn : Turn) (p : ℕ) → ((d : DeskState) → IsNotLearned c d) → (d e : DeskState) (dropped : List (ObjectName × ℕ)) → DeskMoves c turn p d e dropped → IsUp (known_of u d.known) (known_of u e.known)
  moves-up c turn p unlearned d e dropped DeskMoves.none = up-same (known_of u d.known) (known_of u d.known) refl
  moves-up c turn p unlearned d e dropped (DeskMoves.next {e = f} before change) = up-then (known_of u d.known) (known_of u f.known) (known_of u e.known) (moves-up c turn p unlearned d f dropped before) (change-up c turn p f e [] (unlearned f) change)
  moves-up c turn p unlearned d e dropped (DeskMoves.dropping {e = f} before change) = up-then (known_of u d.known) (known_of u f.known) (known_of u e.known) (moves-up c turn p unlearned d f [] before) (change-up c turn p f e dropped (unlearned f) change)

  -- nor where a process keeps it
  pub kept-unlearned : (c : Cause) (d : DeskState) → any_keeps d.entries u ≡ true → IsNotLearned c d
  kept-unlearned c d kept v m grant stamp room n given none = by_cases (same_uid u v) (same_uid u v ≡ false) (λ is. absurd (let e : true ≡ false = sym kept ∙ (ap (any_keeps d.entries) (same_uid_is u v is) ∙ none) in cc)) (λ h. h)
