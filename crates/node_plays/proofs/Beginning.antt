-- The programs of a node under test, one more at a time.
use Rattle.std.proofs.Common.{◌≡◌, ◌≢◌, ℕ, ◌+◌, ◌<◌, ◌++◌, ◌==◌, Bool, true, false, List, [], ◌∷◌, Option, None, get_or, arith}
use Rattle.std.specs.Prelude.{IfSome}
use Rattle.std.proofs.lemmas.List.{map-append}
use Rattle.std.proofs.lemmas.List.Elements.{All-nil, All-push, All-weaker, All-get_or}
use Rattle.std.proofs.lemmas.List.Quantifiers.{all_pairs_push}
use Rattle.uid_names.proofs.InOrder.{AllPairs-nil}
use Rattle.fault_handler.specs.Invariant.{IsProc}
use Rattle.aegis_shell.specs.Shells.{Shelled}
use Rattle.node_core.specs.Programs.{program_by, program_in, numbers_in}
use Rattle.node_plays.specs.Beginners.{IsFresh, AreBeginners}

alone : (is : Bool) (shell : Shelled) → IsFresh shell → IfSome (program_by is shell None) IsFresh
alone true shell fresh = fresh
alone false shell fresh = tt

before : (is : Bool) (shell : Shelled) (others more : Option Shelled) → (IfSome others IsFresh → IfSome more IsFresh) → IfSome (program_by is shell others) IsFresh → IfSome (program_by is shell more) IsFresh
before true shell others more further fresh = fresh
before false shell others more further fresh = further fresh

fresh-push : (programs : List (ℕ × Shelled)) (e : ℕ × Shelled) (p : ℕ) → IsFresh e.1 → IfSome (program_in programs p) IsFresh → IfSome (program_in (programs ++ e ∷ []) p) IsFresh
fresh-push [] e p new fresh = alone (e.0 == p) e.1 new
fresh-push (d ∷ programs) e p new fresh = before (d.0 == p) d.1 (program_in programs p) (program_in (programs ++ e ∷ []) p) (fresh-push programs e p new) fresh

-- there is none at first
pub AreBeginners-nil : (n : ℕ) → AreBeginners n []
AreBeginners-nil n = record { each = All-nil IsProc; once = AllPairs-nil (λ p q. p ≢ q); low = All-nil (λ p. p < n); fresh = λ p. tt }

-- a process without commands has none
pub AreBeginners-more : (n : ℕ) (programs : List (ℕ × Shelled)) → AreBeginners n programs → AreBeginners (n + 1) programs
AreBeginners-more n programs are =
    record {
      each = are.each;
      once = are.once;
      low = All-weaker (λ p. p < n) (λ p. p < n + 1) (λ p low. omega (arith, low)) (numbers_in programs) are.low;
      fresh = are.fresh;
    }

-- the program of the next process comes last
pub AreBeginners-push : (n : ℕ) (programs : List (ℕ × Shelled)) (shell : Shelled) → AreBeginners n programs → IsProc n → IsFresh shell → AreBeginners (n + 1) (programs ++ (n, shell) ∷ [])
AreBeginners-push n programs shell are proc new =
    let ns = numbers_in programs in
    let same : numbers_in (programs ++ (n, shell) ∷ []) ≡ ns ++ n ∷ [] = map-append (λ e. e.0) programs ((n, shell) ∷ []) in
    let more = AreBeginners-more n programs are in
    record {
      each = rw same (All-push IsProc ns n are.each proc);
      once = rw same (all_pairs_push (λ p q. p ≢ q) ns n are.once (λ k d within. apart (get_or ns k d) (All-get_or (λ p. p < n) ns k d within are.low)));
      low = rw same (All-push (λ p. p < n + 1) ns n more.low (omega arith));
      fresh = λ p. fresh-push programs (n, shell) p new (are.fresh p);
    }
  where
    apart : (p : ℕ) → p < n → p ≢ n
    apart p low = omega (arith, low)
