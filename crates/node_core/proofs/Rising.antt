-- The programs by rising number.
use Rattle.std.proofs.Common.{◌≡◌, ◌≢◌, ℕ, zero, suc, length, get_or, ◌<◌, ◌++◌, ◌==◌, true, false, inl, inr, is_some, List, [], ◌∷◌, Option, Some, None, refl, sym, ap, subst, ◌∙◌, arith, rules}
use Rattle.std.specs.Prelude.{All, IsTrue, nat_lt, slice_index_or}
use Rattle.std.specs.List.{list_any}
use Rattle.std.proofs.lemmas.Bool.{cases_eq}
use Rattle.std.proofs.lemmas.Bool.Decides.{nat_tests}
use Rattle.std.proofs.lemmas.List.Elements.{All-nil, All-cons, All-head, All-tail}
use Rattle.std.proofs.lemmas.List.Kept.{AllPairs-cons}
use Rattle.uid_names.proofs.InOrder.{AllPairs-nil}
use Rattle.fault_handler.specs.Invariant.{IsProc}
use Rattle.node_runs.specs.Setups.{Given, ArePrograms}
use Rattle.node_runs.proofs.SettingUp.{given-procs}
use Rattle.node_core.specs.Programs.{program_by, program_in, numbers_in, one_of, rising_in, AreRising}
use Rattle.node_core.proofs.FirstPrograms.{has-program}

module _ {S : Type 0} where
  front : (k : ℕ) (o : Option S) (es : List (ℕ × S)) → program_in es k ≡ None → program_in (one_of k o ++ es) k ≡ o
  front k None es none = none
  front k (Some x) es none = let same : (k == k) ≡ true = search rules in ap (λ b. program_by b x (program_in es k)) same

  other : (k : ℕ) (o : Option S) (es : List (ℕ × S)) (q : ℕ) → k ≢ q → program_in (one_of k o ++ es) q ≡ program_in es q
  other k None es q differs = refl
  other k (Some x) es q differs = let unlike : (k == q) ≡ false = search (rules, differs) in ap (λ b. program_by b x (program_in es q)) unlike

  -- each is of a process from 1 to 4
  pub each-number : (es : List (ℕ × S)) → All IsProc (numbers_in es) → (i : ℕ) (x : ℕ × S) → i < length es → x ≡ get_or es i x → IsProc x.0
  each-number [] all i x h is = absurd (omega arith)
  each-number (d ∷ es) all zero x h is = subst (λ (y : ℕ × S). IsProc y.0) (sym is) (All-head IsProc d.0 (numbers_in es) all)
  each-number (d ∷ es) all (suc i) x h is = each-number es (All-tail IsProc d.0 (numbers_in es) all) i x (omega arith) is

  -- a process from 1 to 4 has a program, or none has it
  pub no-program : (es : List (ℕ × S)) → ArePrograms (numbers_in es) → (g : Given) → g.programs ≡ numbers_in es → (q : ℕ) → (IsProc q → ⊥) → program_in es q ≡ None
  no-program es are g same q not_proc = none (program_in es q) refl
    where
      none : (o : Option S) → program_in es q ≡ o → o ≡ None
      none None is = refl
      none (Some x) is = absurd (not_proc (given-procs g (subst ArePrograms (sym same) are) q (ap (λ ps. list_any (λ p. p == q) ps) same ∙ has-program es q ∙ ap is_some is)))

  module _ (es : List (ℕ × S)) (are : ArePrograms (numbers_in es)) (g : Given) (same : g.programs ≡ numbers_in es) where
    abbrev fourth : List (ℕ × S)
    fourth = one_of 4 (program_in es 4) ++ []

    abbrev third : List (ℕ × S)
    third = one_of 3 (program_in es 3) ++ fourth

    abbrev second : List (ℕ × S)
    second = one_of 2 (program_in es 2) ++ third

    in-fourth : (q : ℕ) → 4 ≢ q → program_in fourth q ≡ None
    in-fourth q d = other 4 (program_in es 4) [] q d

    in-third : (q : ℕ) → 4 ≢ q → 3 ≢ q → program_in third q ≡ None
    in-third q d c = other 3 (program_in es 3) fourth q c ∙ in-fourth q d

    in-second : (q : ℕ) → 4 ≢ q → 3 ≢ q → 2 ≢ q → program_in second q ≡ None
    in-second q d c b = other 2 (program_in es 2) third q b ∙ in-third q d c

    -- the programs are the same
    pub rising-program : (q : ℕ) → program_in (rising_in es) q ≡ program_in es q
    rising-program q = elim (cases_eq 1 q) [
      | inl e ↦ subst (λ k. program_in (rising_in es) k ≡ program_in es k) e (front 1 (program_in es 1) second (in-second 1 (λ h. absurd (cc)) (λ h. absurd (cc)) (λ h. absurd (cc))))
      | inr a ↦ other 1 (program_in es 1) second q a ∙ elim (cases_eq 2 q) [
        | inl e ↦ subst (λ k. program_in second k ≡ program_in es k) e (front 2 (program_in es 2) third (in-third 2 (λ h. absurd (cc)) (λ h. absurd (cc))))
        | inr b ↦ other 2 (program_in es 2) third q b ∙ elim (cases_eq 3 q) [
          | inl e ↦ subst (λ k. program_in third k ≡ program_in es k) e (front 3 (program_in es 3) fourth (in-fourth 3 (λ h. absurd (cc))))
          | inr c ↦ other 3 (program_in es 3) fourth q c ∙ elim (cases_eq 4 q) [
            | inl e ↦ subst (λ k. program_in fourth k ≡ program_in es k) e (front 4 (program_in es 4) [] refl)
            | inr d ↦ in-fourth q d ∙ sym (no-program es are g same q (λ proc. let low = proc.0 in let high = proc.1 in a (omega (arith, low, high, b, c, d))))
          ]
        ]
      ]
    ]

  above : (n k : ℕ) (o : Option S) (es : List (ℕ × S)) → n < k → All (λ m. k < m) (numbers_in es) → All (λ m. n < m) (numbers_in (one_of k o ++ es))
  above n k None es h all = λ j d inside. let a = all j d inside in omega (arith, h, a)
  above n k (Some x) es h all = All-cons (λ m. n < m) k (numbers_in es) h (λ j d inside. let a = all j d inside in omega (arith, h, a))

  rises : (k : ℕ) (o : Option S) (es : List (ℕ × S)) → All (λ m. k < m) (numbers_in es) → AreRising (numbers_in es) → AreRising (numbers_in (one_of k o ++ es))
  rises k None es all rising = rising
  rises k (Some x) es all rising =
      AllPairs-cons (λ a b. IsTrue (nat_lt a b)) k (numbers_in es) (λ j d inside. let a = all j d inside in let e : nat_lt k (slice_index_or (numbers_in es) j d) ≡ true = grind (arith, nat_tests, a) in e) rising

  -- and they rise
  pub rising-rises : (es : List (ℕ × S)) → AreRising (numbers_in (rising_in es))
  rising-rises es =
      let d = above 3 4 (program_in es 4) [] (omega arith) (All-nil (λ m. 4 < m)) in
      let c = above 2 3 (program_in es 3) (one_of 4 (program_in es 4) ++ []) (omega arith) d in
      let b = above 1 2 (program_in es 2) (one_of 3 (program_in es 3) ++ (one_of 4 (program_in es 4) ++ [])) (omega arith) c in
      rises 1 (program_in es 1) _ b (rises 2 (program_in es 2) _ c (rises 3 (program_in es 3) _ d (rises 4 (program_in es 4) [] (All-nil (λ m. 4 < m)) (AllPairs-nil (λ a b. IsTrue (nat_lt a b))))))
