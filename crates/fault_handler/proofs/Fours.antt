-- Lemmas on what is kept for each of four processes.
use Rattle.std.proofs.Common.{◌≡◌, ◌≢◌, ℕ, zero, suc, ◌+◌, ◌-◌, ◌≤◌, Bool, true, false, List, length, Option, None, inl, inr, refl, sym, ap, subst, ◌∙◌, arith}
use Rattle.std.specs.Prelude.{◌==◌, not, ◌&&◌}
use Rattle.std.proofs.lemmas.Bool.{cases_eq}
use Rattle.std.proofs.lemmas.Bool.Decides.{nat_tests}
use Rattle.std.proofs.lemmas.List.{get_or-set_same, get_or-set_other, set-get_or, length-set}
use Rattle.std.specs.List.{list_any}
use Rattle.uid_names.proofs.ListLemmas.{by_cases}
use Rattle.fault_handler.specs.declared.transits.Transit.{Transit}
use Rattle.fault_handler.specs.Desks.{procs, at, put_at, count_of}
use Rattle.fault_handler.specs.Invariant.{IsProc}

-- a process of a node is one of four
pub by_proc : (P : ℕ → Type 0) → P 1 → P 2 → P 3 → P 4 → (q : ℕ) → IsProc q → P q
by_proc P a b c d zero is = absurd (let h : 1 ≤ 0 = is.0 in omega arith)
by_proc P a b c d (suc zero) is = a
by_proc P a b c d (suc (suc zero)) is = b
by_proc P a b c d (suc (suc (suc zero))) is = c
by_proc P a b c d (suc (suc (suc (suc zero)))) is = d
by_proc P a b c d (suc (suc (suc (suc (suc n))))) is = absurd (let h : suc (suc (suc (suc (suc n)))) ≤ 4 = is.1 in omega arith)

-- each of the four is one
abbrev pub first : IsProc 1
first = (omega arith, omega arith)

abbrev pub second : IsProc 2
second = (omega arith, omega arith)

abbrev pub third : IsProc 3
third = (omega arith, omega arith)

abbrev pub fourth : IsProc 4
fourth = (omega arith, omega arith)

-- what was put there stands at the process
pub at-put_same : {A : Type 0} (kept : List A) (p : ℕ) (new none : A) → length kept ≡ 4 → IsProc p → at (put_at kept p new) p none ≡ new
at-put_same kept p new none four is = let a = is.0 in let b = is.1 in get_or-set_same kept (p - 1) new none (omega arith)

-- and nothing else changes
pub at-put_other : {A : Type 0} (kept : List A) (p q : ℕ) (new none : A) → IsProc p → IsProc q → q ≢ p → at (put_at kept p new) q none ≡ at kept q none
at-put_other kept p q new none is other differs =
    let a = is.0 in let b = other.0 in get_or-set_other kept (p - 1) (q - 1) new none (λ same. differs (omega arith))

-- nothing changes where it stood there
pub put-same : {A : Type 0} (kept : List A) (p : ℕ) (new none : A) → at kept p none ≡ new → put_at kept p new ≡ kept
put-same kept p new none is = ap (put_at kept p) (sym is) ∙ set-get_or kept (p - 1) none

-- there are as many as before
pub length-put : {A : Type 0} (kept : List A) (p : ℕ) (new : A) → length kept ≡ 4 → length (put_at kept p new) ≡ 4
length-put kept p new four = rw length-set four

-- what holds of each process, where it holds of the new one and of the others as they were
pub each-put : {A : Type 0} (P : ℕ → A → Type 0) (kept : List A) (p : ℕ) (new none : A) → length kept ≡ 4 → IsProc p → P p new
    → ((q : ℕ) → IsProc q → q ≢ p → P q (at kept q none)) → (q : ℕ) → IsProc q → P q (at (put_at kept p new) q none)
each-put P kept p new none four is here others q other = elim (cases_eq q p) [
  | inl same ↦ subst (λ (r : ℕ). P r (at (put_at kept p new) r none)) (sym same) (subst (P p) (sym (at-put_same kept p new none four is)) here)
  | inr differs ↦ subst (P q) (sym (at-put_other kept p q new none is other differs)) (others q other differs)
]

-- a process passes where it passed before, and the new one passes where the process did
pub passes-put : {A : Type 0} (test : A → Bool) (kept : List A) (p : ℕ) (new none : A) → length kept ≡ 4 → IsProc p → (test (at kept p none) ≡ true → test new ≡ true)
    → (q : ℕ) → IsProc q → test (at kept q none) ≡ true → test (at (put_at kept p new) q none) ≡ true
passes-put test kept p new none four is here q other = elim (cases_eq q p) [
  | inl same ↦
      subst (λ (r : ℕ). test (at kept r none) ≡ true → test (at (put_at kept p new) r none) ≡ true) (sym same) (λ h. ap test (at-put_same kept p new none four is) ∙ here h)
  | inr differs ↦ λ h. ap test (at-put_other kept p q new none is other differs) ∙ h
]

-- some process passes where this one does
pub any-at : (test : ℕ → Bool) (q : ℕ) → IsProc q → test q ≡ true → list_any test procs ≡ true
any-at test q is =
    by_proc
    (λ r. test r ≡ true → list_any test procs ≡ true)
    (λ h. rw h refl)
    (λ h. by_cases (test 1) (list_any test procs ≡ true) (λ e. rw e refl) (λ e. rw (e, h) refl))
    (λ h. by_cases (test 1) (list_any test procs ≡ true) (λ e. rw e refl) (λ e. by_cases (test 2) (list_any test procs ≡ true) (λ f. rw (e, f) refl) (λ f. rw (e, f, h) refl)))
    (λ h. grind (arith, nat_tests))
    q is

-- the process that passes
pub any-of : (test : ℕ → Bool) → list_any test procs ≡ true → (q : ℕ) × IsProc q × (test q ≡ true)
any-of test is =
    by_cases
    (test 1)
    ((q : ℕ) × IsProc q × (test q ≡ true))
    (λ a. (1, first, a))
    (λ a.
    by_cases
    (test 2)
    ((q : ℕ) × IsProc q × (test q ≡ true))
    (λ b. (2, second, b))
    (λ b.
    by_cases
    (test 3)
    ((q : ℕ) × IsProc q × (test q ≡ true))
    (λ c. (3, third, c))
    (λ c. (4, fourth, grind (arith, nat_tests)))))

-- some process passes where one passed, if each that passed still does
pub any-more : (test other : ℕ → Bool) → ((q : ℕ) → IsProc q → test q ≡ true → other q ≡ true) → list_any test procs ≡ true → list_any other procs ≡ true
any-more test other more is = let found = any-of test is in any-at other found.0 found.1 (more found.0 found.1 found.2)

-- none passes where no process does
pub any-not : (test : ℕ → Bool) → list_any test procs ≡ false → (q : ℕ) → IsProc q → test q ≡ false
any-not test none q is = by_cases (test q) (test q ≡ false) (λ e. let h = any-at test q is e in absurd (cc)) (λ e. e)

-- how many there are after one was put in another's place
pub count_of-put : (count : Option Transit → ℕ) (moving : List (Option Transit)) (p : ℕ) (new : Option Transit) → length moving ≡ 4 → IsProc p
    → count_of count (put_at moving p new) + count (at moving p None) ≡ count_of count moving + count new
count_of-put count moving p new four is =
    by_proc
    (λ r. count_of count (put_at moving r new) + count (at moving r None) ≡ count_of count moving + count new)
    (omega (arith, same 1 first, other 1 2 first second (λ e. absurd (omega arith)), other 1 3 first third (λ e. absurd (omega arith)), other 1 4 first fourth (λ e. absurd (omega arith))))
    (omega (arith, same 2 second, other 2 1 second first (λ e. absurd (omega arith)), other 2 3 second third (λ e. absurd (omega arith)), other 2 4 second fourth (λ e. absurd (omega arith))))
    (omega (arith, same 3 third, other 3 1 third first (λ e. absurd (omega arith)), other 3 2 third second (λ e. absurd (omega arith)), other 3 4 third fourth (λ e. absurd (omega arith))))
    (omega (arith, same 4 fourth, other 4 1 fourth first (λ e. absurd (omega arith)), other 4 2 fourth second (λ e. absurd (omega arith)), other 4 3 fourth third (λ e. absurd (omega arith))))
    p is
  where
    same : (r : ℕ) → IsProc r → count (at (put_at moving r new) r None) ≡ count new
    same r is = ap count (at-put_same moving r new None four is)

    other : (r q : ℕ) → IsProc r → IsProc q → q ≢ r → count (at (put_at moving r new) q None) ≡ count (at moving q None)
    other r q is apart differs = ap count (at-put_other moving r q new None is apart differs)

-- none has more than all
pub count_of-at : (count : Option Transit → ℕ) (moving : List (Option Transit)) (p : ℕ) → IsProc p → count (at moving p None) ≤ count_of count moving
count_of-at count moving = by_proc (λ q. count (at moving q None) ≤ count_of count moving) (omega arith) (omega arith) (omega arith) (omega arith)

-- a test at another process than this one
pub apart-is : (p q : ℕ) (b : Bool) → (not (q == p) && b) ≡ true → (q ≢ p) × (b ≡ true)
apart-is p q b h = (grind (arith, nat_tests, h), grind (arith, nat_tests, h))

pub apart-of : (p q : ℕ) (b : Bool) → q ≢ p → b ≡ true → (not (q == p) && b) ≡ true
apart-of p q b differs is = grind (arith, nat_tests, differs, is)
