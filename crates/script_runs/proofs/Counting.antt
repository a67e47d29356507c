-- All answers are as many as all commands.
use Rattle.std.proofs.Common.{◌≡◌, ℕ, suc, ◌+◌, Bool, true, false, List, [], ◌∷◌, length, map, refl, sym, ap, subst, ◌∙◌, arith, rules}
use Rattle.std.specs.Prelude.{◌||◌, All, IsTrue, filter, if◌then◌else◌}
use Rattle.std.specs.List.{list_any}
use Rattle.std.proofs.lemmas.Bool.Decides.{nat_tests}
use Rattle.std.proofs.lemmas.List.{length-map, length-append}
use Rattle.std.proofs.lemmas.List.Concat.{flat_map-cons}
use Rattle.std.proofs.lemmas.List.Elements.{All-cons, All-nil, All-head, All-tail, All-weaker}
use Rattle.uid_names.specs.Names.{ProcName, same_proc, proc_lt}
use Rattle.uid_names.proofs.ListLemmas.{by_cases}
use Rattle.uid_names.proofs.Orders.{same_proc_is, same_proc-itself}
use Rattle.dom_history.specs.Follows.{Heard}
use Rattle.script_reader.specs.declared.script.CommandRow.{CommandRow}
use Rattle.script_reader.specs.Scripts.{Content}
use Rattle.script_reader.specs.Variables.{declared_object}
use Rattle.aegis_shell.specs.Asking.{answers}
use Rattle.aegis_shell.specs.Work.{job_of, jobs_of}
use Rattle.script_runs.specs.Processes.{processes_of}
use Rattle.script_runs.specs.Reports.{ProcAnswers, rows_of}
use Rattle.script_runs.specs.Summaries.{all_answers}
use Rattle.script_runs.proofs.Driven.{procs_from-any}
use Rattle.script_runs.proofs.ProcsWith.{Rise, pairs-head, pairs-tail, processes_of-rises}

-- how many commands these processes have
abbrev total : List ProcName → List CommandRow → ℕ
total [] rows = 0
total (p ∷ procs) rows = length (filter (λ row. same_proc row.proc p) rows) + total procs rows

total-none : (procs : List ProcName) → total procs [] ≡ 0
total-none [] = refl
total-none (p ∷ procs) = let rest = total-none procs in omega (arith, rest)

module _ (row : CommandRow) (rows : List CommandRow) where
  more-if : (b : Bool) (p : ProcName) → same_proc row.proc p ≡ b → length (filter (λ r. same_proc r.proc p) (row ∷ rows)) ≡ (if b then suc (length (filter (λ r. same_proc r.proc p) rows)) else length (filter (λ r. same_proc r.proc p) rows))
  more-if true p same = ap (λ b. length (if b then row ∷ filter (λ r. same_proc r.proc p) rows else filter (λ r. same_proc r.proc p) rows)) same
  more-if false p same = ap (λ b. length (if b then row ∷ filter (λ r. same_proc r.proc p) rows else filter (λ r. same_proc r.proc p) rows)) same

  -- one of none of them is not counted
  none-more : (procs : List ProcName) → All (λ q. IsTrue (proc_lt row.proc q)) procs → total procs (row ∷ rows) ≡ total procs rows
  none-more [] above = refl
  none-more (q ∷ procs) above =
      let below : proc_lt row.proc q ≡ true = (let h = All-head (λ q. IsTrue (proc_lt row.proc q)) q procs above in search (rules, h)) in
      let apart : same_proc row.proc q ≡ false = grind (arith, nat_tests, below) in
      let here = more-if false q apart in
      let rest = none-more procs (All-tail (λ q. IsTrue (proc_lt row.proc q)) q procs above) in
      omega (arith, here, rest)

  -- one of them is counted once
  one-more : (procs : List ProcName) → Rise procs → list_any (λ q. same_proc row.proc q) procs ≡ true → total procs (row ∷ rows) ≡ suc (total procs rows)
  one-more [] rise is = absurd (cc)
  one-more (p ∷ procs) rise is = by_cases (same_proc row.proc p) (total (p ∷ procs) (row ∷ rows) ≡ suc (total (p ∷ procs) rows))
      (λ same.
      let name : p ≡ row.proc = sym (same_proc_is row.proc p same) in
      let here = more-if true p same in
      let rest = none-more procs (subst (λ r. All (λ q. IsTrue (proc_lt r q)) procs) name (pairs-head p procs rise)) in
      omega (arith, here, rest))
      (λ apart.
      let here = more-if false p apart in
      let rest = one-more procs (pairs-tail p procs rise) (sym (ap (λ b. b || list_any (λ q. same_proc row.proc q) procs) apart) ∙ is) in
      omega (arith, here, rest))

total-all : (procs : List ProcName) → Rise procs → (rows : List CommandRow) → All (λ row. list_any (λ q. same_proc row.proc q) procs ≡ true) rows → total procs rows ≡ length rows
total-all procs rise [] all = total-none procs
total-all procs rise (row ∷ rows) all =
    let here = one-more row rows procs rise (All-head (λ row. list_any (λ q. same_proc row.proc q) procs ≡ true) row rows all) in
    let rest = total-all procs rise rows (All-tail (λ row. list_any (λ q. same_proc row.proc q) procs ≡ true) row rows all) in
    omega (arith, here, rest)

-- each command is of one of the processes of all commands
or-right : (a b : Bool) → b ≡ true → (a || b) ≡ true
or-right true b is = refl
or-right false b is = is

own-among : (rows : List CommandRow) → All (λ row. list_any (λ r. same_proc row.proc r.proc) rows ≡ true) rows
own-among [] = All-nil (λ row. list_any (λ (r : CommandRow). same_proc row.proc r.proc) [] ≡ true)
own-among (x ∷ rows) =
    All-cons (λ row. list_any (λ r. same_proc row.proc r.proc) (x ∷ rows) ≡ true) x rows
    (ap (λ b. b || list_any (λ r. same_proc x.proc r.proc) rows) (same_proc-itself x.proc))
    (All-weaker (λ row. list_any (λ r. same_proc row.proc r.proc) rows ≡ true) (λ row. list_any (λ r. same_proc row.proc r.proc) (x ∷ rows) ≡ true)
    (λ row is. or-right (same_proc row.proc x.proc) (list_any (λ r. same_proc row.proc r.proc) rows) is) rows (own-among rows))

all-among : (rows : List CommandRow) → All (λ row. list_any (λ q. same_proc row.proc q) (processes_of rows) ≡ true) rows
all-among rows =
    All-weaker (λ row. list_any (λ r. same_proc row.proc r.proc) rows ≡ true) (λ row. list_any (λ q. same_proc row.proc q) (processes_of rows) ≡ true)
    (λ row is. procs_from-any (λ q. same_proc row.proc q) [] rows ∙ is) rows (own-among rows)

module _ (s : Content) (f : ProcName → Heard) (each : (p : ProcName) → length (answers s p (f p)) ≡ length (jobs_of s p)) where
  abbrev row_of : ProcName → ProcAnswers
  row_of p = record { proc = p; answers = answers s p (f p) }

  answers-total : (procs : List ProcName) → length (all_answers (map row_of procs)) ≡ total procs s.commands
  answers-total [] = refl
  answers-total (p ∷ procs) =
      let first = ap (λ (xs : List (List ℕ)). length xs) (flat_map-cons (λ (row : ProcAnswers). row.answers) (row_of p) (map row_of procs)) in
      let both = length-append (answers s p (f p)) (all_answers (map row_of procs)) in
      let here = each p in
      let jobs = length-map (filter (λ row. same_proc row.proc p) s.commands) (job_of (declared_object s.objects)) in
      let rest = answers-total procs in
      omega (arith, first, both, here, jobs, rest)

  pub all-answered : length (all_answers (rows_of s f)) ≡ length s.commands
  all-answered = answers-total (processes_of s.commands) ∙ total-all (processes_of s.commands) (processes_of-rises s.commands) s.commands (all-among s.commands)
