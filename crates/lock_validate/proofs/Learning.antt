-- What stamps are seen where a grant tells of an object.
use Rattle.std.proofs.Common.{◌≡◌, ℕ, Bool, true, false, Option, Some, None, IsSome, is_some, refl, sym, ◌∙◌, arith}
use Rattle.std.specs.Prelude.{◌==◌, not, ◌&&◌}
use Rattle.std.proofs.lemmas.Bool.Decides.{nat_tests}
use Rattle.std.proofs.lemmas.Bool.{not-false}
use Rattle.uid_names.specs.Names.{ObjectName, same_uid}
use Rattle.uid_names.proofs.ListLemmas.{by_cases}
use Rattle.uid_names.proofs.Passed.{right-true}
use Rattle.version_stamps.specs.Stamps.{stamp_of, raised}
use Rattle.version_stamps.proofs.LookUps.{stamp_of-with_stamp}
use Rattle.fault_handler.specs.Entries.{keeps}
use Rattle.fault_handler.specs.Desks.{DeskState, entry_at, others_keep, any_keeps}
use Rattle.fault_handler.specs.Changes.{with_seen}
use Rattle.fault_handler.specs.Invariant.{IsDesk}
use Rattle.lock_validate.specs.Answers.{is_seen, is_fresh, learned}
use Rattle.fault_handler.proofs.Fours.{any-of}

-- of an object that another process keeps a stamp was seen
others-seen : (d : DeskState) (p : ℕ) (u : ObjectName) → IsDesk d → others_keep d.entries p u ≡ true → IsSome (stamp_of u d.seen)
others-seen d p u is others =
    let found = any-of (λ q. not (q == p) && keeps (entry_at d.entries q u)) others in
    is.known.kept found.0 found.1 u (right-true (not (found.0 == p)) (keeps (entry_at d.entries found.0 u)) found.2)

-- where others keep the object, or its stamp is above that of the grant, a stamp was seen
known-before : (alone : Bool) (stamp : ℕ) (o : Option ℕ) → (alone ≡ false → IsSome o) → (alone && is_fresh stamp o) ≡ false → IsSome o
known-before true stamp None others h = absurd (cc)
known-before true stamp (Some s) others h = refl
known-before false stamp o others h = others refl

-- so one was seen where a grant is not fresh
pub stale-seen : (d : DeskState) (p : ℕ) (u : ObjectName) (stamp : ℕ) → IsDesk d → (not (others_keep d.entries p u) && is_fresh stamp (stamp_of u d.seen)) ≡ false → IsSome (stamp_of u d.seen)
stale-seen d p u stamp is = known-before (not (others_keep d.entries p u)) stamp (stamp_of u d.seen) (λ others. others-seen d p u is (not-false (others_keep d.entries p u) others))

-- where no stamp of an object was seen, no process keeps it, and a grant's stamp is another
pub unseen-outdated : (d : DeskState) (u : ObjectName) (stamp : ℕ) → IsDesk d → is_some (stamp_of u d.seen) ≡ false → (any_keeps d.entries u ≡ false) × (is_seen stamp (stamp_of u d.seen) ≡ false)
unseen-outdated d u stamp is none = (
  by_cases
      (any_keeps d.entries u)
      (any_keeps d.entries u ≡ false)
      (λ some.
      let found = any-of (λ q. keeps (entry_at d.entries q u)) some in
      let seen : is_some (stamp_of u d.seen) ≡ true = is.known.kept found.0 found.1 u found.2 in
      absurd (let e : true ≡ false = sym seen ∙ none in cc))
      (λ h. h),
  not_seen (stamp_of u d.seen) none,
)
  where
    not_seen : (o : Option ℕ) → is_some o ≡ false → is_seen stamp o ≡ false
    not_seen None h = refl
    not_seen (Some s) h = absurd (cc)

-- a stamp is seen where what a grant tells was taken
pub learned-seen : (fresh : Bool) (d : DeskState) (u : ObjectName) (stamp room n : ℕ) → IsSome (stamp_of u (learned fresh d u stamp room n).seen)
learned-seen fresh d u stamp room n =
    let new = raised stamp (stamp_of u d.seen) in
    let own : same_uid u u ≡ true = grind (arith, nat_tests) in
    let set : stamp_of u (with_seen d u new).seen ≡ Some new = rw (stamp_of-with_stamp (record { uid = u; stamp = new }) d.seen u, own) refl in
    rw set refl
