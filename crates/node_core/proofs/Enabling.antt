-- What an enabled event says of a process.
use Rattle.std.proofs.Common.{◌≡◌, ℕ, ◌≤◌, true, false, not, ◌&&◌, nat_lt, ◌==◌, None, IsSome, is_none, List, sym, ap, ◌∙◌, arith}
use Rattle.std.proofs.lemmas.Bool.Decides.{nat_tests}
use Rattle.std.specs.List.{list_any}
use Rattle.std.proofs.lemmas.Bool.{not-true}
use Rattle.uid_names.proofs.Passed.{left-true, right-true}
use Rattle.uid_names.proofs.Somes.{none-is}
use Rattle.node_runs.specs.Setups.{Given}
use Rattle.node_runs.specs.NodeStates.{NodeState, proc_of, is_at_end}
use Rattle.node_runs.specs.Incomings.{has_program, may_begin}
use Rattle.node_core.specs.Programs.{program_in, numbers_in}
use Rattle.node_core.proofs.FirstPrograms.{has-program}

-- it has a program
pub program-there : {S : Type 0} (es : List (ℕ × S)) (g : Given) (p : ℕ) → g.programs ≡ numbers_in es → has_program g p ≡ true → IsSome (program_in es p)
program-there es g p same has = sym (ap (λ ps. list_any (λ q. q == p) ps) same ∙ has-program es p) ∙ has

-- nothing is open
pub nothing-open : (g : Given) (n : NodeState) (p : ℕ) → may_begin g n p ≡ true → (proc_of n p).doing ≡ None
nothing-open g n p may = none-is (proc_of n p).doing (left-true (is_none (proc_of n p).doing) (not (is_at_end n p)) (right-true (has_program g p) (is_none (proc_of n p).doing && not (is_at_end n p)) may))

-- it is not at the end of the phase
pub phase-within : (g : Given) (n : NodeState) (p : ℕ) → may_begin g n p ≡ true → (proc_of n p).phase ≤ n.phase
phase-within g n p may =
    let e : nat_lt n.phase (proc_of n p).phase ≡ false = not-true (is_at_end n p) (right-true (is_none (proc_of n p).doing) (not (is_at_end n p)) (right-true (has_program g p) (is_none (proc_of n p).doing && not (is_at_end n p)) may)) in
    grind (arith, nat_tests, e)
