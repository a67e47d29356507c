-- Processes in order, one by one.
use Rattle.std.proofs.Common.{◌≡◌, suc, Bool, true, false, List, [], ◌∷◌, refl, arith, rules}
use Rattle.std.proofs.lemmas.List.Elements.{All-cons, All-nil, All-head, All-tail, All-weaker}
use Rattle.std.proofs.lemmas.List.Kept.{AllPairs-cons}
use Rattle.std.proofs.lemmas.Bool.Decides.{nat_tests}
use Rattle.std.specs.Prelude.{All, AllPairs, IsTrue, fold, if◌then◌else◌}
use Rattle.uid_names.specs.Names.{ProcName, same_proc, proc_lt}
use Rattle.script_reader.specs.declared.script.CommandRow.{CommandRow}
use Rattle.script_runs.specs.Processes.{procs_with, processes_of}

-- processes in order
abbrev pub Rise : List ProcName → Type 0
Rise = AllPairs (λ p q. IsTrue (proc_lt p q))

pub pairs-head : (p : ProcName) (procs : List ProcName) → Rise (p ∷ procs) → All (λ q. IsTrue (proc_lt p q)) procs
pairs-head p procs h k d below = h 0 (suc k) d (omega arith) (omega (arith, below))

pub pairs-tail : (p : ProcName) (procs : List ProcName) → Rise (p ∷ procs) → Rise procs
pairs-tail p procs h i j d under below = h (suc i) (suc j) d (omega (arith, under)) (omega (arith, below))

proc_lt-trans : (p q r : ProcName) → IsTrue (proc_lt p q) → IsTrue (proc_lt q r) → IsTrue (proc_lt p r)
proc_lt-trans p q r e f =
    let first : proc_lt p q ≡ true = search (rules, e) in
    let second : proc_lt q r ≡ true = search (rules, f) in
    let both : proc_lt p r ≡ true = grind (arith, nat_tests, first, second) in
    search (rules, both)

proc_lt-total : (q p : ProcName) → proc_lt q p ≡ false → same_proc q p ≡ false → IsTrue (proc_lt p q)
proc_lt-total q p e f = let h : proc_lt p q ≡ true = grind (arith, nat_tests, e, f) in search (rules, h)

All-put : (P : ProcName → Type 0) (p q : ProcName) (procs later : List ProcName) (b c : Bool) → P p → All P (q ∷ procs) → All P later → All P (if b then q ∷ later else (if c then q ∷ procs else p ∷ q ∷ procs))
All-put P p q procs later true c here rest behind = All-cons P q later (All-head P q procs rest) behind
All-put P p q procs later false true here rest behind = rest
All-put P p q procs later false false here rest behind = All-cons P p (q ∷ procs) here rest

-- what holds of a process and of the others holds of all of them
procs_with-All : (P : ProcName → Type 0) (p : ProcName) (procs : List ProcName) → P p → All P procs → All P (procs_with p procs)
procs_with-All P p [] here rest = All-cons P p [] here (All-nil P)
procs_with-All P p (q ∷ procs) here rest = All-put P p q procs (procs_with p procs) (proc_lt q p) (same_proc q p) here rest (procs_with-All P p procs here (All-tail P q procs rest))

rises_by : (p q : ProcName) (procs later : List ProcName) (b c : Bool) → proc_lt q p ≡ b → same_proc q p ≡ c → Rise (q ∷ procs) → Rise later → (IsTrue (proc_lt q p) → All (λ r. IsTrue (proc_lt q r)) later) → Rise (if b then q ∷ later else (if c then q ∷ procs else p ∷ q ∷ procs))
rises_by p q procs later true c e f rise later_rise behind = AllPairs-cons (λ a b. IsTrue (proc_lt a b)) q later (behind (search (rules, e))) later_rise
rises_by p q procs later false true e f rise later_rise behind = rise
rises_by p q procs later false false e f rise later_rise behind =
    let first = proc_lt-total q p e f in
    AllPairs-cons (λ a b. IsTrue (proc_lt a b)) p (q ∷ procs)
    (All-cons (λ r. IsTrue (proc_lt p r)) q procs first (All-weaker (λ r. IsTrue (proc_lt q r)) (λ r. IsTrue (proc_lt p r)) (λ r h. proc_lt-trans p q r first h) procs (pairs-head q procs rise)))
    rise

-- the order stays
procs_with-rises : (p : ProcName) (procs : List ProcName) → Rise procs → Rise (procs_with p procs)
procs_with-rises p [] rise = AllPairs-cons (λ a b. IsTrue (proc_lt a b)) p [] (All-nil (λ r. IsTrue (proc_lt p r))) rise
procs_with-rises p (q ∷ procs) rise =
    rises_by p q procs (procs_with p procs) (proc_lt q p) (same_proc q p) refl refl rise (procs_with-rises p procs (pairs-tail q procs rise))
    (λ below. procs_with-All (λ r. IsTrue (proc_lt q r)) p procs below (pairs-head q procs rise))

-- processes with those of commands
abbrev pub procs_from : List ProcName → List CommandRow → List ProcName
procs_from procs rows = fold (λ found row. procs_with row.proc found) procs rows

procs_from-rises : (procs : List ProcName) (rows : List CommandRow) → Rise procs → Rise (procs_from procs rows)
procs_from-rises procs [] rise = rise
procs_from-rises procs (row ∷ rows) rise = procs_from-rises (procs_with row.proc procs) rows (procs_with-rises row.proc procs rise)

procs_from-All : (P : ProcName → Type 0) (procs : List ProcName) (rows : List CommandRow) → All P procs → All (λ row. P row.proc) rows → All P (procs_from procs rows)
procs_from-All P procs [] here rest = here
procs_from-All P procs (row ∷ rows) here rest =
    procs_from-All P (procs_with row.proc procs) rows (procs_with-All P row.proc procs (All-head (λ r. P r.proc) row rows rest) here) (All-tail (λ r. P r.proc) row rows rest)

-- the processes of commands stand in order
pub processes_of-rises : (rows : List CommandRow) → Rise (processes_of rows)
processes_of-rises rows = procs_from-rises [] rows (λ i j d under below. absurd (omega (arith, below)))

-- what holds of the process of each command holds of each of them
pub processes_of-All : (P : ProcName → Type 0) (rows : List CommandRow) → All (λ row. P row.proc) rows → All P (processes_of rows)
processes_of-All P rows all = procs_from-All P [] rows (All-nil P) all
