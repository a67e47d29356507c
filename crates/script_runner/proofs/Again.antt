-- A process that is put among others a second time, and what was put before another one.
use Rattle.std.proofs.Common.{◌≡◌, Bool, true, false, List, [], ◌∷◌, refl, sym, ap, subst, ◌∙◌, arith, length, drop, ℕ}
use Rattle.std.proofs.lemmas.Bool.Decides.{nat_tests}
use Rattle.std.proofs.Math.ListN.{set}
use Rattle.std.proofs.lemmas.List.Elements.{All-weaker, All-set}
use Rattle.std.specs.Prelude.{Some, None, Option, IfSome, All, if◌then◌else◌}
use Rattle.uid_names.specs.Names.{ProcName, same_proc, proc_lt}
use Rattle.uid_names.proofs.Orders.{same_proc-itself, proc_lt-same}
use Rattle.script_runs.specs.Processes.{procs_with}
use Rattle.script_runner.specs.PutProcesses.{IsThere, AreThere}

again-first : (p : ProcName) (rest : List ProcName) → procs_with p (p ∷ rest) ≡ p ∷ rest
again-first p rest = rw (proc_lt-same p, same_proc-itself p) refl

again-put : (p q : ProcName) (rest more : List ProcName) (b c : Bool) → proc_lt q p ≡ b → same_proc q p ≡ c → procs_with p more ≡ more
    → procs_with p (if b then q ∷ more else (if c then q ∷ rest else p ∷ q ∷ rest)) ≡ (if b then q ∷ more else (if c then q ∷ rest else p ∷ q ∷ rest))
again-put p q rest more true c below same again = rw below (ap (λ l. q ∷ l) again)
again-put p q rest more false true below same again = rw (below, same) refl
again-put p q rest more false false below same again = again-first p (q ∷ rest)

-- it changes nothing
pub added_again : (p : ProcName) (procs : List ProcName) → procs_with p (procs_with p procs) ≡ procs_with p procs
added_again p [] = again-first p []
added_again p (q ∷ rest) = again-put p q rest (procs_with p rest) (proc_lt q p) (same_proc q p) refl refl (added_again p rest)

-- one that was put there last is there
pub there_again : (last : Option ProcName) (p : ProcName) (procs : List ProcName) → last ≡ Some p → IfSome last (λ q. procs_with q procs ≡ procs) → procs_with p procs ≡ procs
there_again last p procs is holds = subst (λ l. IfSome l (λ q. procs_with q procs ≡ procs)) is holds

-- the first of these is below what is not below it, nor the same
below_first : (p q x : ProcName) → proc_lt x q ≡ false → same_proc x q ≡ false → proc_lt x p ≡ true → proc_lt q p ≡ true
below_first p q x e f g = grind (arith, nat_tests, e, f, g)

below_same : (p q x : ProcName) → proc_lt x q ≡ false → same_proc x q ≡ false → same_proc x p ≡ true → proc_lt q p ≡ true
below_same p q x e f g = grind (arith, nat_tests, e, f, g)

-- a list is not itself behind one element more
not_longer : (p : ProcName) (rest : List ProcName) → p ∷ rest ≡ rest → ⊥
not_longer p rest e = grind (arith, ap length e)

put-behind : (p x : ProcName) (rest : List ProcName) → proc_lt x p ≡ true → procs_with p (x ∷ rest) ≡ x ∷ procs_with p rest
put-behind p x rest l = rw l refl

put-before : (p x : ProcName) (rest : List ProcName) → proc_lt x p ≡ false → same_proc x p ≡ false → procs_with p (x ∷ rest) ≡ p ∷ x ∷ rest
put-before p x rest l s = rw (l, s) refl

-- what is there stays, when another one is put there
kept-put : (p q x : ProcName) (rest more : List ProcName) (b c d e : Bool) → proc_lt x p ≡ b → same_proc x p ≡ c → proc_lt x q ≡ d → same_proc x q ≡ e
    → procs_with p (x ∷ rest) ≡ x ∷ rest → (procs_with p rest ≡ rest → procs_with p more ≡ more)
    → procs_with p (if d then x ∷ more else (if e then x ∷ rest else q ∷ x ∷ rest)) ≡ (if d then x ∷ more else (if e then x ∷ rest else q ∷ x ∷ rest))
kept-put p q x rest more b c false true l s m t there on = there
kept-put p q x rest more true c false false l s m t there on = rw (below_first p q x m t l) (ap (λ k. q ∷ k) there)
kept-put p q x rest more false true false false l s m t there on = rw (below_same p q x m t s) (ap (λ k. q ∷ k) there)
kept-put p q x rest more true c true e l s m t there on = rw l (ap (λ k. x ∷ k) (on (ap (λ k. drop 1 k) (sym (put-behind p x rest l) ∙ there))))
kept-put p q x rest more false true true e l s m t there on = rw (l, s) refl
kept-put p q x rest more false false d e l s m t there on = absurd (not_longer p (x ∷ rest) (sym (put-before p x rest l s) ∙ there))

-- one that is among others
pub stays_there : (p q : ProcName) (procs : List ProcName) → procs_with p procs ≡ procs → procs_with p (procs_with q procs) ≡ procs_with q procs
stays_there p q [] there = absurd (not_longer p [] there)
stays_there p q (x ∷ rest) there = kept-put p q x rest (procs_with q rest) (proc_lt x p) (same_proc x p) (proc_lt x q) (same_proc x q) refl refl refl refl there (stays_there p q rest)

stays_named : (q : ProcName) (procs : List ProcName) (entry : Option ProcName) → IsThere procs entry → IsThere (procs_with q procs) entry
stays_named q procs None is = is
stays_named q procs (Some p) is = stays_there p q procs is

-- and so do all that a table names
stay_there : (q : ProcName) (procs : List ProcName) (table : List (Option ProcName)) → AreThere procs table → AreThere (procs_with q procs) table
stay_there q procs table are = All-weaker (IsThere procs) (IsThere (procs_with q procs)) (stays_named q procs) table are

-- and one more that was put
pub put_there : (q : ProcName) (procs : List ProcName) (table : List (Option ProcName)) (i : ℕ) → AreThere procs table → AreThere (procs_with q procs) (set table i (Some q))
put_there q procs table i are = All-set (IsThere (procs_with q procs)) table i (Some q) (added_again q procs) (stay_there q procs table are)
