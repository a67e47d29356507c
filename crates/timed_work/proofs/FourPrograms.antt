-- Four processes, each once.
use Rattle.std.proofs.Common.{ℕ, ◌<◌, List, [], ◌∷◌, arith}
use Rattle.std.specs.Prelude.{All, ◌≢◌}
use Rattle.std.proofs.lemmas.List.Elements.{All-cons, All-nil, All-weaker}
use Rattle.std.proofs.lemmas.List.Kept.{AllPairs-cons}
use Rattle.uid_names.specs.Names.{IsProcNumber}
use Rattle.node_runs.specs.Setups.{ArePrograms}

-- a number is none of those above it
others_of : (n : ℕ) (ns : List ℕ) → All (λ m. n < m) ns → All (λ m. n ≢ m) ns
others_of n ns above = All-weaker (λ m. n < m) (λ m. n ≢ m) (λ m h e. absurd (omega (arith, h, e))) ns above

pub four_programs : ArePrograms (1 ∷ 2 ∷ 3 ∷ 4 ∷ [])
four_programs = record {
  each = All-cons IsProcNumber 1 (2 ∷ 3 ∷ 4 ∷ []) (omega arith, omega arith) (All-cons IsProcNumber 2 (3 ∷ 4 ∷ []) (omega arith, omega arith)
      (All-cons IsProcNumber 3 (4 ∷ []) (omega arith, omega arith) (All-cons IsProcNumber 4 [] (omega arith, omega arith) (All-nil IsProcNumber))));
  once =
      AllPairs-cons (λ p q. p ≢ q) 1 (2 ∷ 3 ∷ 4 ∷ [])
      (others_of 1 (2 ∷ 3 ∷ 4 ∷ []) (All-cons (λ m. 1 < m) 2 (3 ∷ 4 ∷ []) (omega arith) (All-cons (λ m. 1 < m) 3 (4 ∷ []) (omega arith) (All-cons (λ m. 1 < m) 4 [] (omega arith) (All-nil (λ m. 1 < m))))))
      (AllPairs-cons (λ p q. p ≢ q) 2 (3 ∷ 4 ∷ [])
      (others_of 2 (3 ∷ 4 ∷ []) (All-cons (λ m. 2 < m) 3 (4 ∷ []) (omega arith) (All-cons (λ m. 2 < m) 4 [] (omega arith) (All-nil (λ m. 2 < m)))))
      (AllPairs-cons (λ p q. p ≢ q) 3 (4 ∷ []) (others_of 3 (4 ∷ []) (All-cons (λ m. 3 < m) 4 [] (omega arith) (All-nil (λ m. 3 < m))))
      (AllPairs-cons (λ p q. p ≢ q) 4 [] (others_of 4 [] (All-nil (λ m. 4 < m))) (λ i j d under below. absurd (omega (arith, below))))));
}
