-- What the conditions on a set-up give each node.
use Rattle.std.proofs.Common.{◌≡◌, ℕ, ◌-◌, true, List, [], ◌∷◌, length, sym, ap, subst, ◌∙◌, arith}
use Rattle.std.specs.Prelude.{◌==◌, nat_le, nat_lt, ◌&&◌, All}
use Rattle.std.specs.List.{list_any}
use Rattle.std.proofs.lemmas.Bool.Decides.{nat_tests}
use Rattle.std.proofs.lemmas.List.{get_or_past}
use Rattle.std.proofs.lemmas.List.Elements.{All-head, All-tail}
use Rattle.uid_names.proofs.ListLemmas.{by_cases}
use Rattle.dom_history.specs.Objects.{is_node}
use Rattle.fault_handler.specs.Invariant.{IsProc}
use Rattle.node_runs.specs.Setups.{Setup, Given, given, ArePrograms, IsGiven, IsSetup}
use Rattle.node_runs.specs.Incomings.{has_program}
use Rattle.node_runs.specs.CallsKeep.{HasProcs}

listed : (P : ℕ → Type 0) (xs : List ℕ) (p : ℕ) → list_any (λ q. q == p) xs ≡ true → All P xs → P p
listed P [] p is all = absurd (cc)
listed P (x ∷ xs) p is all = by_cases (x == p) (P p)
    (λ h. subst P (let e : x ≡ p = grind (arith, nat_tests, h) in e) (All-head P x xs all))
    (λ h. listed P xs p (rw h at is) (All-tail P x xs all))

-- the processes that have a program are 1 to 4
pub given-procs : (g : Given) → ArePrograms g.programs → (p : ℕ) → has_program g p ≡ true → IsProc p
given-procs g is p has = listed IsProc g.programs p has is.each

-- those of each node, also of one that is none
pub setup-procs : (s : Setup) → IsSetup s → HasProcs s
setup-procs s is n p has = by_cases (nat_lt (n - 1) (length s.programs)) (IsProc p)
    (λ h. given-procs (given s n) (is.programs (n - 1) [] (grind (arith, nat_tests, h))) p has)
    (λ h. absurd (let e = get_or_past s.programs (n - 1) [] (grind (arith, nat_tests, h)) in let f : list_any (λ q. q == p) [] ≡ true = ap (λ xs. list_any (λ q. q == p) xs) (sym e) ∙ has in cc))

-- what each node is given keeps its conditions
pub setup-gives : (s : Setup) → IsSetup s → (n : ℕ) → is_node s.opening n ≡ true → IsGiven (given s n)
setup-gives s is n node =
    let a = is.all_frames in let b = is.all_programs in let c : nat_le 1 n && nat_le n s.opening.nodes ≡ true = node in record {
      start = is.start;
      begins = is.begins;
      wire = is.wire;
      frames = is.frames (n - 1) 0 (grind (arith, nat_tests, a, c));
      programs = is.programs (n - 1) [] (grind (arith, nat_tests, b, c));
      wants = λ p. is.wants (record { node = n; number = p });
    }
