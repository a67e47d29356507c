-- The shells of nodes that did the events of a journal.
use Rattle.std.proofs.Common.{◌≡◌, ℕ, ◌+◌, ◌-◌, Option, Some, Result, Ok, Err, List, length, map, slice_index_or, refl, sym, ◌∙◌, ap, subst, arith}
use Rattle.std.specs.Prelude.{All, IsSome, IfErr}
use Rattle.std.specs.Result.{IsErrAnd}
use Rattle.std.specs.Option.{option_map}
use Rattle.uid_names.specs.Names.{ProcName}
use Rattle.uid_names.specs.Steps.{◌>>=◌}
use Rattle.uid_names.proofs.ListLemmas.{get-within}
use Rattle.dom_history.specs.declared.plan.FateRow.{FateRow}
use Rattle.dom_history.specs.Follows.{Heard}
use Rattle.dom_history.specs.Programs.{program_after}
use Rattle.fault_handler.specs.Desks.{IsNode}
use Rattle.script_reader.specs.Scripts.{Content, IsContent}
use Rattle.aegis_shell.specs.Asking.{answers}
use Rattle.aegis_shell.specs.Shells.{Shelled, shell_of, shell_wants, shell_after, shell_answers}
use Rattle.node_runs.specs.Runs.{World}
use Rattle.node_runs.specs.Setups.{given}
use Rattle.node_core.specs.Nodes.{Noted, Stands, program_of}
use Rattle.world_core.specs.Stands.{AreNodes}
use Rattle.script_runs.specs.Histories.{heard_in}
use Rattle.script_runs.specs.Processes.{processes_of}
use Rattle.script_runs.specs.Reports.{names_of, rows_of}
use Rattle.script_runs.specs.Setups.{setup_of}
use Rattle.script_runs.proofs.Running.{map-each}
use Rattle.journal_check.specs.Journals.{CanRun}
use Rattle.journal_check.specs.Verdicts.{IsGivenOf, IsAcceptedIn}
use Rattle.journal_check.specs.declared.pass.Pass.{Pass}
use Rattle.journal_check.specs.declared.verdict.CheckFault.{CheckFault}
use Rattle.journal_check.specs.Passes.{AreNodesOf}
use Rattle.script_runner.specs.Answered.{answers_by}
use Rattle.script_runner.specs.declared.run.AnswerRow.{AnswerRow}
use Rattle.script_runner.specs.Checked.{row_at, shell_at, IsCheckedOf}
use Rattle.script_runner.specs.Nodes.{made_shell}
use Rattle.script_runner.specs.Reports.{answers_in}
use Rattle.script_runner.proofs.RanNodes.{AnswerByHistory, AreAsOneStore, processes_named, shells_made}

-- the nodes of a script as they were made are given so, with its plan and its names
pub given-nodes : (s : Content) → CanRun s → (nodes : List (Noted Shelled)) → AreNodes shell_wants shell_after (made_shell s) (setup_of s) nodes
    → (plan : List FateRow) → plan ≡ s.plan → (names : List (List ℕ)) → names ≡ names_of s → IsGivenOf shell_wants shell_after (made_shell s) s nodes plan names
given-nodes s can nodes are plan plan_is names names_are = record {
  can = can;
  nodes_are = record { count = are.count; node = are.node };
  plan_is = plan_is;
  names_are = names_are;
}

module _ (s : Content) (content : IsContent s) (w : World) (nodes : List (Noted Shelled)) (are : AreNodesOf shell_wants shell_after (made_shell s) (setup_of s) w nodes) where
  -- the shell of each process is what it became by what its program heard
  shells_are : All (λ p. shell_at nodes p ≡ Some (program_after shell_after (shell_of s p) (heard_in w p))) (processes_of s.commands)
  shells_are i d below =
      let p = slice_index_or (processes_of s.commands) i d in
      let node : IsNode (length s.nodes) p.node = processes_named s content i d below in
      let low = node.0 in
      let high = node.1 in
      let many = are.count in
      let same = content.draft.opening_nodes in
      let x = get-within nodes (p.node - 1) (omega (arith, low, high, many, same)) in
      let number : p.node - 1 + 1 ≡ p.node = omega (arith, low) in
      let told = (subst (λ n. Stands shell_wants shell_after (made_shell s n) (given (setup_of s) n) x.0 (w.nodes n)) number (are.node (p.node - 1) x.0 x.1)).told p.number in
      ap (λ (o : Option (Noted Shelled)). o >>= λ y. program_of y p.number) x.1 ∙ (told ∙ ap (option_map (λ y. program_after shell_after y (heard_in w p))) (shells_made s i d below))

  -- each has one
  pub shells_at : (procs : List ProcName) → procs ≡ processes_of s.commands → All (λ p. IsSome (shell_at nodes p)) procs
  shells_at procs same = subst (All (λ p. IsSome (shell_at nodes p))) (sym same) (λ i d below. subst IsSome (sym (shells_are i d below)) refl)

  -- their answers are those over what was heard
  pub rows_at : ((p : ProcName) (heard : Heard) → shell_answers (program_after shell_after (shell_of s p) heard) ≡ answers s p heard)
      → (procs : List ProcName) → procs ≡ processes_of s.commands → map (row_at nodes) procs ≡ rows_of s (heard_in w)
  rows_at law procs same =
      ap (map (row_at nodes)) same
      ∙ map-each (row_at nodes) (λ p. record { proc = p; answers = answers s p (heard_in w p) }) (processes_of s.commands)
      (λ i d below.
      let p = slice_index_or (processes_of s.commands) i d in
      ap (λ (texts : List (List ℕ)). record { proc = p; answers = texts }) (ap answers_by (shells_are i d below) ∙ law p (heard_in w p)))

-- a fault that is passed on
pub passed-on : {T : Type 0} (r : Result T CheckFault) (fault : CheckFault) (P : CheckFault → Type 0) → IsErrAnd r (λ f. f ≡ fault) → P fault → IfErr r P
passed-on (Ok x) fault P is holds = absurd is
passed-on (Err f) fault P is holds = subst P (sym is) holds

-- what a journal tells that is accepted, by the pass over its events
pub told-of : {G : Type 0} (s : Content) → CanRun s → AreAsOneStore → AnswerByHistory
    → ((p : ProcName) (heard : Heard) → shell_answers (program_after shell_after (shell_of s p) heard) ≡ answers s p heard)
    → (bytes : List ℕ) (count : ℕ) (pass : Pass Shelled G) → IsAcceptedIn shell_wants shell_after (made_shell s) s bytes count pass
    → (procs : List ProcName) → procs ≡ processes_of s.commands → (rows : List AnswerRow) → map answers_in rows ≡ map (row_at pass.nodes.items) procs
    → IsCheckedOf s bytes (record { events = count; answers = rows })
told-of s can one_store by_history answered bytes count pass is procs same rows told = record {
  events = is.events;
  world = is.world;
  is = is.is;
  one_store = one_store s can.content can.start is.events is.world is.is.run;
  count = is.count_is;
  answered = told
      ∙ (rows_at s can.content is.world pass.nodes.items is.stands.nodes answered procs same
      ∙ by_history s can.content can.start is.events is.world is.is.run);
}
