-- A process of a script that has no program has no command, and so it wants nothing.
use Rattle.std.proofs.Common.{◌≡◌, ℕ, zero, suc, ◌-◌, ◌<◌, ◌≤◌, ◌==◌, Bool, true, false, List, [], ◌∷◌, length, take, map, refl, sym, ◌∙◌, ap, subst, arith}
use Rattle.std.specs.Prelude.{◌&&◌, ◌||◌, filter, slice_index_or, if◌then◌else◌}
use Rattle.std.specs.List.{list_any}
use Rattle.std.proofs.Math.Bool.{or-false}
use Rattle.std.proofs.lemmas.Bool.Decides.{nat_tests}
use Rattle.std.proofs.lemmas.List.{length-take, get_or-map, get_or-take}
use Rattle.std.proofs.lemmas.List.Elements.{All-weaker}
use Rattle.std.proofs.lemmas.List.Folds.{list_any_none}
use Rattle.uid_names.specs.Names.{ProcName, same_proc, proc_lt}
use Rattle.uid_names.proofs.Finds.{list_any-and}
use Rattle.uid_names.proofs.ListLemmas.{by_cases}
use Rattle.uid_names.proofs.Orders.{same_proc_is}
use Rattle.dom_history.specs.declared.op.Want.TheVariants.{Done}
use Rattle.dom_history.specs.Objects.{is_node}
use Rattle.script_reader.specs.declared.script.CommandRow.{CommandRow}
use Rattle.script_reader.specs.Commands.{IsCommandRow}
use Rattle.script_reader.specs.Scripts.{Content, IsContent}
use Rattle.script_reader.specs.Variables.{declared_object}
use Rattle.aegis_shell.specs.Standing.{first_standing}
use Rattle.aegis_shell.specs.Work.{job_of, part_of}
use Rattle.aegis_shell.specs.Asking.{ask, reach}
use Rattle.node_runs.specs.Doings.{node_numbers}
use Rattle.node_runs.specs.Setups.{given}
use Rattle.node_runs.specs.Incomings.{has_program}
use Rattle.run_laws.specs.Paced.{is_driven}
use Rattle.script_runs.specs.Processes.{procs_with, processes_of}
use Rattle.script_runs.specs.Setups.{numbers_at, programs_of, setup_of}
use Rattle.script_runs.proofs.ProcsWith.{procs_from}

or-swap : (a b c : Bool) → (a || (b || c)) ≡ (b || (a || c))
or-swap true true c = refl
or-swap true false c = refl
or-swap false true c = refl
or-swap false false c = refl

or-twice : (a c : Bool) → (a || c) ≡ (a || (a || c))
or-twice true c = refl
or-twice false c = refl

or-turn : (a b c : Bool) → ((a || b) || c) ≡ (b || (a || c))
or-turn true true c = refl
or-turn true false c = refl
or-turn false true c = refl
or-turn false false c = refl

any-put : (f : ProcName → Bool) (p q : ProcName) (procs later : List ProcName) (b c : Bool) → same_proc q p ≡ c → list_any f later ≡ (f p || list_any f procs)
    → list_any f (if b then q ∷ later else (if c then q ∷ procs else p ∷ q ∷ procs)) ≡ (f p || (f q || list_any f procs))
any-put f p q procs later true c same rest = ap (λ b. f q || b) rest ∙ or-swap (f q) (f p) (list_any f procs)
any-put f p q procs later false true same rest = subst (λ r. (f q || list_any f procs) ≡ (f r || (f q || list_any f procs))) (same_proc_is q p same) (or-twice (f q) (list_any f procs))
any-put f p q procs later false false same rest = refl

-- a process among others passes, or one of them does
procs_with-any : (f : ProcName → Bool) (p : ProcName) (procs : List ProcName) → list_any f (procs_with p procs) ≡ (f p || list_any f procs)
procs_with-any f p [] = refl
procs_with-any f p (q ∷ procs) = any-put f p q procs (procs_with p procs) (proc_lt q p) (same_proc q p) refl (procs_with-any f p procs)

pub procs_from-any : (f : ProcName → Bool) (procs : List ProcName) (rows : List CommandRow) → list_any f (procs_from procs rows) ≡ (list_any f procs || list_any (λ row. f row.proc) rows)
procs_from-any f procs [] = sym (or-false (list_any f procs))
procs_from-any f procs (row ∷ rows) =
    procs_from-any f (procs_with row.proc procs) rows
    ∙ (ap (λ b. b || list_any (λ r. f r.proc) rows) (procs_with-any f row.proc procs)
    ∙ or-turn (f row.proc) (list_any f procs) (list_any (λ r. f r.proc) rows))

any-map : {X Y : Type 0} (f : X → Y) (test : Y → Bool) (xs : List X) → list_any test (map f xs) ≡ list_any (λ x. test (f x)) xs
any-map f test [] = refl
any-map f test (x ∷ xs) = ap (λ b. test (f x) || b) (any-map f test xs)

-- what no element passes leaves nothing of them
none-left : {X : Type 0} (test : X → Bool) (xs : List X) → list_any test xs ≡ false → filter test xs ≡ []
none-left test [] none = refl
none-left test (x ∷ xs) none = by_first (test x) refl none (none-left test xs)
  where
    by_first : (b : Bool) → test x ≡ b → (b || list_any test xs) ≡ false → (list_any test xs ≡ false → filter test xs ≡ []) → (if b then x ∷ filter test xs else filter test xs) ≡ []
    by_first true is none rest = absurd (cc)
    by_first false is none rest = rest none

-- the node of this number is the first, the second and so on
number-at : (n : ℕ) → 1 ≤ n → n ≤ 8 → slice_index_or node_numbers (n - 1) 0 ≡ n
number-at zero low high = absurd (let h : 1 ≤ 0 = low in omega (arith, h))
number-at (suc zero) low high = refl
number-at (suc (suc zero)) low high = refl
number-at (suc (suc (suc zero))) low high = refl
number-at (suc (suc (suc (suc zero)))) low high = refl
number-at (suc (suc (suc (suc (suc zero))))) low high = refl
number-at (suc (suc (suc (suc (suc (suc zero)))))) low high = refl
number-at (suc (suc (suc (suc (suc (suc (suc zero))))))) low high = refl
number-at (suc (suc (suc (suc (suc (suc (suc (suc zero)))))))) low high = refl
number-at (suc (suc (suc (suc (suc (suc (suc (suc (suc n))))))))) low high = absurd (let h : suc (suc (suc (suc (suc (suc (suc (suc (suc n)))))))) ≤ 8 = high in omega (arith, h))

module _ (s : Content) (content : IsContent s) (p : ProcName) where
  abbrev own : CommandRow → Bool
  own row = same_proc row.proc p

  -- the programs of a node are its processes
  programs-at : 1 ≤ p.node → p.node ≤ length s.nodes → slice_index_or (programs_of s) (p.node - 1) [] ≡ numbers_at (processes_of s.commands) p.node
  programs-at low high =
      let few = content.draft.few_nodes in
      let short : p.node - 1 < length s.nodes = omega (arith, low, high) in
      let within : p.node - 1 < length (take (length s.nodes) node_numbers) = omega (arith, short, few, length-take (length s.nodes) node_numbers) in
      get_or-map (numbers_at (processes_of s.commands)) (take (length s.nodes) node_numbers) (p.node - 1) 0 [] within
      ∙ ap (numbers_at (processes_of s.commands)) (get_or-take (length s.nodes) node_numbers (p.node - 1) 0 short ∙ number-at p.node low (omega (arith, high, few)))

  -- it has a program where it has a command
  program-is : 1 ≤ p.node → p.node ≤ length s.nodes → has_program (given (setup_of s) p.node) p.number ≡ list_any own s.commands
  program-is low high =
      ap (list_any (λ q. q == p.number)) (programs-at low high)
      ∙ (any-map (λ (q : ProcName). q.number) (λ q. q == p.number) (filter (λ q. q.node == p.node) (processes_of s.commands))
      ∙ (sym (list_any-and (λ (q : ProcName). q.node == p.node) (λ q. q.number == p.number) (processes_of s.commands))
      ∙ procs_from-any (λ q. same_proc q p) [] s.commands))

  away-none : is_node s.opening p.node ≡ false → list_any own s.commands ≡ false
  away-none away = list_any_none own s.commands
      (All-weaker (IsCommandRow (length s.nodes) s.phases) (λ row. own row ≡ false) (λ row h.
      let low = h.proc.node.0 in
      let high = h.node in
      let count = content.draft.opening_nodes in
      grind (arith, nat_tests, away, low, high, count)) s.commands content.draft.commands)

  no-command : is_driven (setup_of s) p ≡ false → list_any own s.commands ≡ false
  no-command none = by_cases (is_node s.opening p.node) (list_any own s.commands ≡ false)
      (λ here.
      let low : 1 ≤ p.node = grind (arith, nat_tests, here) in
      let below : p.node ≤ s.opening.nodes = grind (arith, nat_tests, here) in
      let high : p.node ≤ length s.nodes = subst (λ n. p.node ≤ n) content.draft.opening_nodes below in
      sym (program-is low high) ∙ subst (λ b. (b && has_program (given (setup_of s) p.node) p.number) ≡ false) here none)
      away-none

  pub wants-nothing : is_driven (setup_of s) p ≡ false → ask s p [] ≡ Done
  wants-nothing none =
      ap (λ jobs. (reach (part_of s p) 1 (first_standing (part_of s p)) jobs []).want) (ap (map (job_of (declared_object s.objects))) (none-left own s.commands (no-command none)))
