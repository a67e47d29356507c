use Rattle.std.proofs.Common.{◌≡◌, ◌∙◌, sym, ap, subst, map}
use Rattle.std.specs.Prelude.{All}
use Rattle.dom_history.specs.NodeTexts.{AreNodeNames}
use Rattle.journal_text.specs.Lines.{Names, journal}
use Rattle.script_runs.specs.Reports.{names_of}
use Rattle.script_runs.specs.Histories.{script_history}
use Rattle.aegis_shell.proofs.Parts.{node_names}
use Rattle.script_runs.specs.Runs.{last_tick}
use Rattle.script_runner.specs.Reports.{RunOf, answers_in}
use Rattle.script_runner.specs.DueTexts.{told_for}
use Rattle.script_runner.proofs.Due.{told_is}
use Rattle.script_runner.proofs.domain.run_due.Goals as goal

pub names_of-requires : goal.names_of-requires
names_of-requires g c =
    subst (λ rows. AreNodeNames (map (λ n. n.name) rows)) (sym c.nodes.ensures.value) (node_names c.args.script.now c.nodes.ensures.content)

pub new-requires : goal.new-requires
new-requires g c =
    let are : c.in_ok-names.names ≡ names_of c.args.script.now = c.in_ok-names.ensures ∙ ap (λ rows. map (λ n. n.name) rows) c.nodes.ensures.value in
    subst (λ names. All (Names names) c.in-Ok.ran.events.events) (sym are) c.in-Ok.ensures.named

pub returns-clause-due : goal.returns-clause-due
returns-clause-due g c = λ left source.
    let s = c.args.script.now in
    let run = subst (λ turns. RunOf c.args.script.now turns last_tick (record { events = c.in-Ok.ran.events.events; answers = c.in-Ok.ran.answers })) c.turns.ensures c.in-Ok.ensures.ran in
    let names : c.in_ok-names.names ≡ names_of s = c.in_ok-names.ensures ∙ ap (λ rows. map (λ n. n.name) rows) c.nodes.ensures.value in
    let rows = ap (map answers_in) c.items.ensures ∙ run.answered in
    record {
      script = s;
      source = source;
      ran = record { events = c.in-Ok.ran.events.events; answers = c.in-Ok.ran.answers };
      run = run;
      told = c.in_ok-text.ensures
          ∙ (ap (λ names. told_for c.args.asked names (map answers_in c.items.result.now)) names
          ∙ (ap (told_for c.args.asked (names_of s)) rows ∙ told_is c.args.asked s (script_history s run.events)));
      written = c.new.ensures ∙ (ap (λ names. journal names c.in-Ok.ran.events.events) names ∙ ap (journal (names_of s)) run.by_place);
    }
