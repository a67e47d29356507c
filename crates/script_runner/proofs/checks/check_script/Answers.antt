use Rattle.std.proofs.Common.{◌≡◌, ◌∙◌, ap, sym, subst}
use Rattle.std.specs.Prelude.{All, IsSome, map}
use Rattle.uid_names.specs.Openings.{IsStart}
use Rattle.dom_history.specs.NodeTexts.{AreNodeNames}
use Rattle.aegis_shell.proofs.Parts.{node_names}
use Rattle.journal_check.specs.Journals.{CanRun}
use Rattle.journal_check.specs.Verdicts.{IsNoMemory, IsRefused}
use Rattle.script_runs.specs.Processes.{processes_of}
use Rattle.script_runs.specs.Reports.{names_of}
use Rattle.script_runner.specs.Checked.{row_at, shell_at}
use Rattle.script_runner.specs.Nodes.{made_shell}
use Rattle.script_runner.proofs.CheckedNodes.{given-nodes, passed-on, shells_at, told-of}
use Rattle.script_runner.proofs.checks.check_script.Goals as goal

pub names_of-requires : goal.names_of-requires
names_of-requires c = subst (λ rows. AreNodeNames (map (λ n. n.name) rows)) (sym c.nodes.ensures.value) (node_names c.args.script.now c.nodes.ensures.content)

pub check-requires-clause-given : goal.check-requires-clause-given
check-requires-clause-given c =
    let s = c.args.script.now in
    let can : CanRun s = record { content = c.nodes.ensures.content; start = subst IsStart c.opening.ensures.value c.nodes-start.ensures.start } in
    let names : c.in_ok-names.names ≡ names_of s = c.in_ok-names.ensures ∙ ap (λ rows. map (λ n. n.name) rows) c.nodes.ensures.value in (
      made_shell s,
      s,
      given-nodes s can c.in_ok-nodes.nodes.items c.in_ok-nodes.ensures c.plan.result.now c.plan.ensures.value c.in_ok-names.names names,
    )

pub returns-in_err-checked-clause-no : goal.returns-in_err-checked-clause-no
returns-in_err-checked-clause-no c =
    let s = c.args.script.now in
    let can : CanRun s = record { content = c.nodes.ensures.content; start = subst IsStart c.opening.ensures.value c.nodes-start.ensures.start } in
    let names : c.in_ok-names.names ≡ names_of s = c.in_ok-names.ensures ∙ ap (λ rows. map (λ n. n.name) rows) c.nodes.ensures.value in
    let given = given-nodes s can c.in_ok-nodes.nodes.items c.in_ok-nodes.ensures c.plan.result.now c.plan.ensures.value c.in_ok-names.names names in
    passed-on c.from_residual-in_err-checked.result c.in_err-checked.field-0.0 (IsRefused s c.args.journal.now) c.from_residual-in_err-checked.ensures.1
    (c.in_err-checked.ensures.no (made_shell s) s given)

pub returns-in_err-checked-clause-only : goal.returns-in_err-checked-clause-only
returns-in_err-checked-clause-only c = λ accepted.
    let s = c.args.script.now in
    let can : CanRun s = record { content = c.nodes.ensures.content; start = subst IsStart c.opening.ensures.value c.nodes-start.ensures.start } in
    let names : c.in_ok-names.names ≡ names_of s = c.in_ok-names.ensures ∙ ap (λ rows. map (λ n. n.name) rows) c.nodes.ensures.value in
    let given = given-nodes s can c.in_ok-nodes.nodes.items c.in_ok-nodes.ensures c.plan.result.now c.plan.ensures.value c.in_ok-names.names names in
    passed-on c.from_residual-in_err-checked.result c.in_err-checked.field-0.0 IsNoMemory c.from_residual-in_err-checked.ensures.1
    (c.in_err-checked.ensures.only (made_shell s) s given accepted)

pub answers_at-requires : goal.answers_at-requires
answers_at-requires c =
    let s = c.args.script.now in
    let can : CanRun s = record { content = c.nodes.ensures.content; start = subst IsStart c.opening.ensures.value c.nodes-start.ensures.start } in
    let names : c.in_ok-names.names ≡ names_of s = c.in_ok-names.ensures ∙ ap (λ rows. map (λ n. n.name) rows) c.nodes.ensures.value in
    let given = given-nodes s can c.in_ok-nodes.nodes.items c.in_ok-nodes.ensures c.plan.result.now c.plan.ensures.value c.in_ok-names.names names in
    let is = c.in_ok-checked.ensures.yes (made_shell s) s given in
    let procs : c.as_slice.result.now ≡ processes_of s.commands = c.as_slice.ensures.value ∙ (c.in_ok-procs.ensures ∙ ap processes_of c.commands.ensures.value) in
    subst (λ nodes. All (λ p. IsSome (shell_at nodes p)) c.as_slice.result.now) (sym c.nodes-2.ensures)
    (shells_at s can.content is.world c.in_ok-checked.checked.pass.nodes.items is.stands.nodes c.as_slice.result.now procs)

pub returns-clause-yes : goal.returns-clause-yes
returns-clause-yes c =
    let s = c.args.script.now in
    let can : CanRun s = record { content = c.nodes.ensures.content; start = subst IsStart c.opening.ensures.value c.nodes-start.ensures.start } in
    let names : c.in_ok-names.names ≡ names_of s = c.in_ok-names.ensures ∙ ap (λ rows. map (λ n. n.name) rows) c.nodes.ensures.value in
    let given = given-nodes s can c.in_ok-nodes.nodes.items c.in_ok-nodes.ensures c.plan.result.now c.plan.ensures.value c.in_ok-names.names names in
    let procs : c.as_slice.result.now ≡ processes_of s.commands = c.as_slice.ensures.value ∙ (c.in_ok-procs.ensures ∙ ap processes_of c.commands.ensures.value) in
    told-of s can c.ended_runs_of_scripts_are_as_one_store.ensures c.answers_are_functions_of_histories.ensures.ended (c.shells_go_by_all_they_heard.ensures.answers s)
    c.args.journal.now c.in_ok-checked.checked.events c.in_ok-checked.checked.pass (c.in_ok-checked.ensures.yes (made_shell s) s given)
    c.as_slice.result.now procs c.in_ok-answers.answers (c.in_ok-answers.ensures ∙ ap (λ nodes. map (row_at nodes) c.as_slice.result.now) c.nodes-2.ensures)
