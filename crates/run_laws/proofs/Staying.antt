-- What a change of one process leaves of the stamps, the lengths and the grants that the open calls of others carry.
use Rattle.std.proofs.Common.{◌≡◌, ◌≢◌, ℕ, ◌≤◌, Bool, true, false, List, [], Option, Some, None, inl, inr, refl, sym, ap, subst, ◌∙◌, arith}
use Rattle.std.specs.Prelude.{◌==◌, ◌&&◌, unwrap_or, if◌then◌else◌}
use Rattle.std.proofs.lemmas.Bool.{cases_eq}
use Rattle.std.proofs.lemmas.Bool.Decides.{nat_tests}
use Rattle.lock_validate.proofs.States.{keeps_writing-writes}
use Rattle.uid_names.specs.Names.{ObjectName, same_uid}
use Rattle.uid_names.proofs.ListLemmas.{by_cases}
use Rattle.uid_names.proofs.Orders.{same_uid_is}
use Rattle.dom_history.specs.Replies.{may_write}
use Rattle.version_stamps.specs.declared.stamps.Stamp.{Stamp}
use Rattle.version_stamps.specs.Stamps.{stamp_of, with_stamp, raised}
use Rattle.version_stamps.proofs.LookUps.{stamp_of-with_stamp, stamp_of-without_stamp}
use Rattle.fault_handler.specs.declared.entries.LockEntry.{LockEntry}
use Rattle.fault_handler.specs.Entries.{entry_of, grant_in, keeps, keeps_writing, entries_after, entries_noted}
use Rattle.fault_handler.specs.Lengths.{known_of, length_of}
use Rattle.fault_handler.specs.Transits.{going, is_moving}
use Rattle.fault_handler.specs.Desks.{DeskState, put_at, entries_of, entry_at, state_of, moving_of, any_keeps, base_of}
use Rattle.fault_handler.specs.Outcomes.{Turn}
use Rattle.fault_handler.specs.Invariant.{IsProc, IsDesk}
use Rattle.fault_handler.proofs.Fours.{at-put_same, at-put_other, any-more}
use Rattle.fault_handler.proofs.LockKeeps.{entry_of-after_other, entry_of-noted_other}
use Rattle.fault_handler.proofs.TransitKeeps.{keeps_writing-keeps}
use Rattle.lock_validate.specs.Causes.{Cause}
use Rattle.lock_validate.specs.DeskMoves.{Change}
use Rattle.run_laws.specs.OpenCalls.{writes_under, is_writing_grant}
use Rattle.run_laws.proofs.KnownLengths.{kept-unlearned, change-up}

raised-up : (stamp : ℕ) (o : Option ℕ) → unwrap_or o 0 ≤ raised stamp o
raised-up stamp None = omega arith
raised-up stamp (Some known) = omega arith

module _ (u : ObjectName) where
  -- a stamp that was set is not below the one before
  raised-seen : (v : ObjectName) (stamp : ℕ) (seen : List Stamp) → unwrap_or (stamp_of u seen) 0 ≤ unwrap_or (stamp_of u (with_stamp (record { uid = v; stamp = raised stamp (stamp_of v seen) }) seen)) 0
  raised-seen v stamp seen = by_cases (same_uid u v) (unwrap_or (stamp_of u seen) 0 ≤ unwrap_or (stamp_of u (with_stamp (record { uid = v; stamp = raised stamp (stamp_of v seen) }) seen)) 0)
      (λ is.
      let found = stamp_of-with_stamp (record { uid = v; stamp = raised stamp (stamp_of v seen) }) seen u ∙ ap (λ b. if b then Some (raised stamp (stamp_of v seen)) else stamp_of u seen) is in
      let e = ap (λ o. unwrap_or o 0) found in
      let f = raised-up stamp (stamp_of v seen) in
      let h = ap (λ w. unwrap_or (stamp_of w seen) 0) (same_uid_is u v is) in
      omega (arith, e, f, h))
      (λ differs.
      let found = stamp_of-with_stamp (record { uid = v; stamp = raised stamp (stamp_of v seen) }) seen u ∙ ap (λ b. if b then Some (raised stamp (stamp_of v seen)) else stamp_of u seen) differs in
      let e = ap (λ o. unwrap_or o 0) found in
      omega (arith, e))

  module _ (c : Cause) (turn : Turn) (p : ℕ) (d : DeskState) (kept : any_keeps d.entries u ≡ true) where
    not-this : (v : ObjectName) → any_keeps d.entries v ≡ false → same_uid u v ≡ false
    not-this v none = by_cases (same_uid u v) (same_uid u v ≡ false) (λ is. absurd (let e : true ≡ false = sym kept ∙ (ap (any_keeps d.entries) (same_uid_is u v is) ∙ none) in cc)) (λ h. h)

    -- the seen stamp of an object that is kept never falls
    pub seen-stays : (e : DeskState) (dropped : List (ObjectName × ℕ)) → Change c turn p d e dropped → base_of d.seen u ≤ base_of e.seen u
    seen-stays e dropped (Change.raises v stamp told least known current) = raised-seen v stamp d.seen
    seen-stays e dropped (Change.forgets v given none absent) =
        let f = ap (λ o. unwrap_or o 0) (stamp_of-without_stamp v d.seen u ∙ ap (λ b. if b then None else stamp_of u d.seen) (not-this v none)) in omega (arith, f)
    seen-stays e dropped change = omega arith

    -- nor does its known length
    pub known-stays : (e : DeskState) (dropped : List (ObjectName × ℕ)) → Change c turn p d e dropped → length_of (known_of u d.known) ≤ length_of (known_of u e.known)
    known-stays e dropped change = (change-up u c turn p d e dropped (kept-unlearned u c d kept) change).0

pub writing-left : (o : Option LockEntry) (b : Bool) → (keeps_writing o && b) ≡ true → keeps_writing o ≡ true
writing-left o b h = by (keeps_writing o) refl h
  where
    by : (x : Bool) → keeps_writing o ≡ x → (x && b) ≡ true → keeps_writing o ≡ true
    by true e is = e
    by false e is = absurd (cc)

-- a grant under which the node writes an object of which another process moves a page
module _ (c : Cause) (turn : Turn) (p : ℕ) (proc : IsProc p) (q : ℕ) (other : IsProc q) (differs : q ≢ p) (d : DeskState) (desk : IsDesk d) (v : ObjectName) (j grant : ℕ) (goes : moving_of d q ≡ going v j) where
  abbrev Stays : DeskState → Type 0
  Stays e = is_writing_grant d.entries v grant ≡ true → is_writing_grant e.entries v grant ≡ true

  -- where the entries of one process change, but none under which it writes the object
  entries-stay : (new : List LockEntry) → (writes_under d.entries v grant p ≡ true → writes_under (put_at d.entries p new) v grant p ≡ true) → Stays (record d { entries = put_at d.entries p new })
  entries-stay new mine = any-more (writes_under d.entries v grant) (writes_under (put_at d.entries p new) v grant) (λ r owner is. elim (cases_eq r p) [
    | inl same ↦ subst (λ i. writes_under (put_at d.entries p new) v grant i ≡ true) (sym same) (mine (subst (λ i. writes_under d.entries v grant i ≡ true) same is))
    | inr apart ↦ ap (λ (es : List LockEntry). keeps_writing (entry_of v es) && (grant_in (entry_of v es) == grant)) (at-put_other d.entries p r new [] proc owner apart) ∙ is
  ])

  moves-it : is_moving v j (moving_of d q) ≡ true
  moves-it = ap (is_moving v j) goes ∙ (let e : (same_uid v v && (j == j)) ≡ true = grind (arith, nat_tests) in e)

  own-entry : (new : List LockEntry) → entry_at (put_at d.entries p new) p v ≡ entry_of v new
  own-entry new = ap (λ (es : List LockEntry). entry_of v es) (at-put_same d.entries p new [] desk.four.entries proc)

  same-entry : (new : List LockEntry) → entry_of v new ≡ entry_at d.entries p v → writes_under d.entries v grant p ≡ true → writes_under (put_at d.entries p new) v grant p ≡ true
  same-entry new same is = ap (λ o. keeps_writing o && (grant_in o == grant)) (own-entry new ∙ same) ∙ is

  pub grant-stays : (e : DeskState) (dropped : List (ObjectName × ℕ)) → Change c turn p d e dropped → Stays e
  grant-stays e dropped (Change.sets call u s given_grant may) = entries-stay (entries_after u s given_grant (entries_of d p)) (λ is. by_cases (same_uid v u) (writes_under (put_at d.entries p (entries_after u s given_grant (entries_of d p))) v grant p ≡ true)
      (λ same. absurd (
      let kept = keeps_writing-keeps (entry_at d.entries p v) (writing-left (entry_at d.entries p v) _ is) in
      let f : true ≡ false = sym kept ∙ (ap (λ w. keeps (entry_at d.entries p w)) (same_uid_is v u same) ∙ may.unkept) in cc))
      (λ apart. same-entry _ (entry_of-after_other u s given_grant v (entries_of d p) apart) is))
  grant-stays e dropped (Change.notes delete u given idle held may settled asks) = entries-stay (entries_noted u (entries_of d p)) (λ is. by_cases (same_uid v u) (writes_under (put_at d.entries p (entries_noted u (entries_of d p))) v grant p ≡ true)
      (λ same. absurd (
      let may_it : may_write (state_of d p u) ≡ true = subst (λ w. may_write (state_of d p w) ≡ true) (same_uid_is v u same) (keeps_writing-writes (entry_at d.entries p v) (writing-left (entry_at d.entries p v) _ is)) in
      let none = (settled may_it).still q other differs j in
      let f : true ≡ false = sym moves-it ∙ (ap (λ w. is_moving w j (moving_of d q)) (same_uid_is v u same) ∙ none) in cc))
      (λ apart. same-entry _ (entry_of-noted_other u v (entries_of d p) apart) is))
  grant-stays e dropped change = λ is. is
