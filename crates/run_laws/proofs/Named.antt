-- Tables with a row for each of some objects, in any order.
use Rattle.std.proofs.Common.{◌≡◌, suc, Bool, true, false, Some, List, [], ◌∷◌, ◌++◌, length, refl, sym, ap, subst, ◌∙◌, arith}
use Rattle.std.specs.Prelude.{not, if◌then◌else◌, is_some, find, filter}
use Rattle.std.proofs.lemmas.Bool.Decides.{nat_tests}
use Rattle.uid_names.specs.Names.{ObjectName, same_uid}
use Rattle.uid_names.proofs.ListLemmas.{by_cases}
use Rattle.uid_names.proofs.Orders.{same_uid_is, same_uid-itself}

flipped : (u v : ObjectName) → same_uid u v ≡ false → same_uid v u ≡ false
flipped u v apart = grind (arith, nat_tests, apart)

module _ {R : Type 0} (name : R → ObjectName) where
  -- a row is of u
  abbrev pub has : ObjectName → List R → Bool
  has u rows = is_some (find (λ r. same_uid u (name r)) rows)

  -- no two rows are of one object
  abbrev pub IsOnce : List R → Type 0
  IsOnce [] = Unit {0}
  IsOnce (r ∷ rows) = (has (name r) rows ≡ false) × IsOnce rows

  abbrev pub without : ObjectName → List R → List R
  without u rows = filter (λ r. not (same_uid u (name r))) rows

  pub has-own : (r : R) (rows : List R) → has (name r) (r ∷ rows) ≡ true
  has-own r rows = ap (λ b. is_some (if b then Some r else find (λ x. same_uid (name r) (name x)) rows)) (same_uid-itself (name r))

  pub has-first : (u : ObjectName) (r : R) (rows : List R) → has u (r ∷ rows) ≡ (if same_uid u (name r) then true else has u rows)
  has-first u r rows = by_cases (same_uid u (name r)) (has u (r ∷ rows) ≡ (if same_uid u (name r) then true else has u rows)) (λ h. rw h refl) (λ h. rw h refl)

  pub has-without : (u v : ObjectName) (rows : List R) → has v (without u rows) ≡ (if same_uid u v then false else has v rows)
  has-without u v [] = by_cases (same_uid u v) (false ≡ (if same_uid u v then false else false)) (λ h. rw h refl) (λ h. rw h refl)
  has-without u v (r ∷ rows) = by_cases (same_uid u (name r)) (has v (without u (r ∷ rows)) ≡ (if same_uid u v then false else has v (r ∷ rows)))
      (λ here. ap (λ b. has v (if not b then r ∷ without u rows else without u rows)) here ∙ (has-without u v rows ∙ by_cases (same_uid v (name r)) ((if same_uid u v then false else has v rows) ≡ (if same_uid u v then false else has v (r ∷ rows)))
      (λ there. let both : same_uid u v ≡ true = same-both v (name r) here there in rw both refl)
      (λ apart. ap (λ b. if same_uid u v then false else b) (sym (has-first v r rows ∙ ap (λ b. if b then true else has v rows) apart)))))
      (λ away. ap (λ b. has v (if not b then r ∷ without u rows else without u rows)) away ∙ (has-first v r (without u rows) ∙ (ap (λ b. if same_uid v (name r) then true else b) (has-without u v rows) ∙ by_cases (same_uid v (name r)) ((if same_uid v (name r) then true else (if same_uid u v then false else has v rows)) ≡ (if same_uid u v then false else has v (r ∷ rows)))
      (λ there. let other : same_uid u v ≡ false = same-other v (name r) away there in rw other (rw there refl))
      (λ apart. ap (λ b. if b then true else (if same_uid u v then false else has v rows)) apart ∙ ap (λ b. if same_uid u v then false else b) (sym (has-first v r rows ∙ ap (λ b. if b then true else has v rows) apart))))))
    where
      same-both : (v w : ObjectName) → same_uid u w ≡ true → same_uid v w ≡ true → same_uid u v ≡ true
      same-both v w a b = grind (arith, nat_tests, a, b)

      same-other : (v w : ObjectName) → same_uid u w ≡ false → same_uid v w ≡ true → same_uid u v ≡ false
      same-other v w a b = grind (arith, nat_tests, a, b)

  -- where no row is of u
  without-none : (u : ObjectName) (rows : List R) → has u rows ≡ false → without u rows ≡ rows
  without-none u [] none = refl
  without-none u (r ∷ rows) none = by_cases (same_uid u (name r)) (without u (r ∷ rows) ≡ r ∷ rows)
      (λ here. absurd (let e : true ≡ false = sym (has-first u r rows ∙ ap (λ b. if b then true else has u rows) here) ∙ none in cc))
      (λ away. ap (λ b. if not b then r ∷ without u rows else without u rows) away ∙ ap (λ xs. r ∷ xs) (without-none u rows (sym (has-first u r rows ∙ ap (λ b. if b then true else has u rows) away) ∙ none)))

  pub once-without : (u : ObjectName) (rows : List R) → IsOnce rows → IsOnce (without u rows)
  once-without u [] once = tt
  once-without u (r ∷ rows) once = by_cases (same_uid u (name r)) (IsOnce (without u (r ∷ rows)))
      (λ here. subst IsOnce (sym (ap (λ b. if not b then r ∷ without u rows else without u rows) here)) (once-without u rows once.1))
      (λ away. subst IsOnce (sym (ap (λ b. if not b then r ∷ without u rows else without u rows) away))
      (has-without u (name r) rows ∙ (ap (λ b. if b then false else has (name r) rows) away ∙ once.0), once-without u rows once.1))

  length-without : (u : ObjectName) (rows : List R) → IsOnce rows → has u rows ≡ true → length rows ≡ suc (length (without u rows))
  length-without u [] once there = absurd (cc)
  length-without u (r ∷ rows) once there = by_cases (same_uid u (name r)) (length (r ∷ rows) ≡ suc (length (without u (r ∷ rows))))
      (λ here. ap (λ xs. suc (length xs)) (sym (ap (λ b. if not b then r ∷ without u rows else without u rows) here ∙ without-none u rows (ap (λ w. has w rows) (same_uid_is u (name r) here) ∙ once.0))))
      (λ away. ap suc (length-without u rows once.1 (sym (has-first u r rows ∙ ap (λ b. if b then true else has u rows) away) ∙ there))
      ∙ ap (λ xs. suc (length xs)) (sym (ap (λ b. if not b then r ∷ without u rows else without u rows) away)))

  has-push : (u : ObjectName) (rows : List R) (new : R) → has u (rows ++ new ∷ []) ≡ (if has u rows then true else same_uid u (name new))
  has-push u [] new = has-first u new [] ∙ pick (same_uid u (name new))
    where
      pick : (b : Bool) → (if b then true else false) ≡ b
      pick true = refl
      pick false = refl
  has-push u (r ∷ rows) new =
      has-first u r (rows ++ new ∷ []) ∙ (ap (λ b. if same_uid u (name r) then true else b) (has-push u rows new)
      ∙ (pick (same_uid u (name r)) (has u rows) (same_uid u (name new)) ∙ ap (λ b. if b then true else same_uid u (name new)) (sym (has-first u r rows))))
    where
      pick : (a b c : Bool) → (if a then true else (if b then true else c)) ≡ (if (if a then true else b) then true else c)
      pick true b c = refl
      pick false b c = refl

  pub once-push : (rows : List R) (new : R) → IsOnce rows → has (name new) rows ≡ false → IsOnce (rows ++ new ∷ [])
  once-push [] new once none = (refl, tt)
  once-push (r ∷ rows) new once none =
      let parts = both (same_uid (name new) (name r)) (has (name new) rows) (sym (has-first (name new) r rows) ∙ none) in (
        has-push (name r) rows new ∙ (ap (λ b. if b then true else same_uid (name r) (name new)) once.0 ∙ flipped (name new) (name r) parts.0),
        once-push rows new once.1 parts.1,
      )
    where
      both : (a b : Bool) → (if a then true else b) ≡ false → (a ≡ false) × (b ≡ false)
      both true b e = absurd (cc)
      both false b e = (refl, e)

  -- a row in the place of the one of its object
  pub once-with : (rows : List R) (new : R) → IsOnce rows → IsOnce (without (name new) rows ++ new ∷ [])
  once-with rows new once =
      once-push (without (name new) rows) new (once-without (name new) rows once) (has-without (name new) (name new) rows ∙ ap (λ b. if b then false else has (name new) rows) (same_uid-itself (name new)))

-- tables with rows of the same objects are of one length
module _ {R S : Type 0} (name : R → ObjectName) (other : S → ObjectName) where
  pub same-length : (rs : List R) (ss : List S) → IsOnce name rs → IsOnce other ss → ((u : ObjectName) → has name u rs ≡ has other u ss) → length rs ≡ length ss
  same-length [] [] once twice same = refl
  same-length [] (x ∷ ss) once twice same = absurd (let e : false ≡ true = same (other x) ∙ has-own other x ss in cc)
  same-length (r ∷ rs) ss once twice same =
      ap suc (same-length rs (without other (name r) ss) once.1 (once-without other (name r) ss twice) rest)
      ∙ sym (length-without other (name r) ss twice (sym (same (name r)) ∙ has-own name r rs))
    where
      rest : (u : ObjectName) → has name u rs ≡ has other u (without other (name r) ss)
      rest u = by_cases (same_uid (name r) u) (has name u rs ≡ has other u (without other (name r) ss))
          (λ is. ap (λ w. has name w rs) (sym (same_uid_is (name r) u is)) ∙ (once.0 ∙ sym (has-without other (name r) u ss ∙ ap (λ b. if b then false else has other u ss) is)))
          (λ apart. sym (has-first name u r rs ∙ ap (λ b. if b then true else has name u rs) (flipped (name r) u apart)) ∙ (same u
          ∙ sym (has-without other (name r) u ss ∙ ap (λ b. if b then false else has other u ss) apart)))
