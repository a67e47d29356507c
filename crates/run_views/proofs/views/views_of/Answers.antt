use Rattle.std.proofs.Common.{◌≡◌, ◌∙◌, refl, sym, ap, subst}
use Rattle.std.specs.Prelude.{map}
use Rattle.uid_names.specs.Openings.{IsStart}
use Rattle.dom_history.specs.NodeTexts.{AreNodeNames}
use Rattle.aegis_shell.specs.Shells.{shell_wants, shell_after}
use Rattle.aegis_shell.proofs.Parts.{node_names}
use Rattle.journal_check.specs.Journals.{CanRun}
use Rattle.journal_check.proofs.Verdicts.{few-nodes}
use Rattle.node_runs.specs.Runs.{first_world}
use Rattle.script_runs.specs.Reports.{names_of as names_in}
use Rattle.script_runs.specs.Setups.{setup_of}
use Rattle.script_runner.specs.Nodes.{made_shell}
use Rattle.script_runner.proofs.CheckedNodes.{given-nodes}
use Rattle.event_views.specs.Runs.{AreNamed}
use Rattle.run_views.proofs.RisingRuns.{views-named}
use Rattle.run_views.proofs.views.views_of.Goals as goal

pub names_of-requires : goal.names_of-requires
names_of-requires c = subst (λ rows. AreNodeNames (map (λ n. n.name) rows)) (sym c.nodes.ensures.value) (node_names c.args.script.now c.nodes.ensures.content)

pub new-requires-2 : goal.new-requires-2
new-requires-2 c =
    let s = c.args.script.now in
    let can : CanRun s = record { content = c.nodes.ensures.content; start = subst IsStart c.opening.ensures.value c.nodes-start.ensures.start } in
    let given = given-nodes s can c.in_ok-nodes.nodes.items c.in_ok-nodes.ensures s.plan refl (names_in s) refl in
    record { nodes = few-nodes shell_wants shell_after (made_shell s) s c.in_ok-nodes.nodes.items s.plan (names_in s) given }

pub view_all-requires-clause-first : goal.view_all-requires-clause-first
view_all-requires-clause-first c =
    let s = c.args.script.now in
    let can : CanRun s = record { content = c.nodes.ensures.content; start = subst IsStart c.opening.ensures.value c.nodes-start.ensures.start } in
    let given = given-nodes s can c.in_ok-nodes.nodes.items c.in_ok-nodes.ensures s.plan refl (names_in s) refl in
    let setup = c.scripts_set_nodes_up.ensures s can.content can.start in
    record { world = first_world (setup_of s); stands = c.in_ok-pass.ensures (made_shell s) (setup_of s) setup given.nodes_are; done = refl }

pub new-requires-3 : goal.new-requires-3
new-requires-3 c =
    let s = c.args.script.now in
    let same : c.in_ok-names.names ≡ names_in s = c.in_ok-names.ensures ∙ ap (λ rows. map (λ n. n.name) rows) c.nodes.ensures.value in
    record { named = subst (λ names. AreNamed names c.in_ok-views.views) (sym same) (views-named (names_in s) c.in_ok-views.views c.args.events.now c.in_ok-views.ensures c.requires.named) }
