use Rattle.std.proofs.Common.{◌≡◌, ◌∙◌, ap, sym, subst}
use Rattle.std.specs.Prelude.{All, IsSome, map}
use Rattle.uid_names.specs.Openings.{IsStart}
use Rattle.ended_nodes.specs.Ended.{named}
use Rattle.script_runs.specs.Processes.{processes_of}
use Rattle.script_runner.specs.Answered.{row_in}
use Rattle.script_runner.proofs.RanNodes.{shells_there, ran_is, names_are}
use Rattle.script_runner.proofs.run.what_came.Goals as goal

pub answers-requires : goal.answers-requires
answers-requires c =
    let s = c.args.script.now in
    let ended = c.requires.ended.2 in
    let procs : c.as_slice-2.result.now ≡ processes_of c.args.script.now.commands = c.as_slice-2.ensures.value ∙ (c.in_ok-procs.ensures ∙ ap processes_of c.commands.ensures.value) in
    subst (λ shells. All (λ p. IsSome (named shells p)) c.as_slice-2.result.now) (sym c.as_slice.ensures.value)
    (shells_there s c.commands.ensures.content c.requires.ended.0 c.requires.ended.1 c.args.ended.0.events c.args.ended.1.items ended c.as_slice-2.result.now procs)

pub returns-clause-named : goal.returns-clause-named
returns-clause-named c =
    let s = c.args.script.now in
    names_are s c.commands.ensures.content c.requires.ended.0 c.requires.ended.1 c.args.ended.0.events c.args.ended.1.items c.requires.ended.2 (subst IsStart c.opening.ensures.value c.nodes-start.ensures.start)
    c.ended_runs_of_scripts_name_their_nodes.ensures

pub returns-clause-ran : goal.returns-clause-ran
returns-clause-ran c turns last ended =
    let s = c.args.script.now in
    let procs : c.as_slice-2.result.now ≡ processes_of c.args.script.now.commands = c.as_slice-2.ensures.value ∙ (c.in_ok-procs.ensures ∙ ap processes_of c.commands.ensures.value) in
    ran_is s c.commands.ensures.content turns last c.args.ended.0.events c.args.ended.1.items ended (subst IsStart c.opening.ensures.value c.nodes-start.ensures.start)
    c.ended_runs_of_scripts_are_as_one_store.ensures c.ended_runs_keep_mailboxes.ensures c.answers_are_functions_of_histories.ensures.ended (c.shells_go_by_all_they_heard.ensures.answers s)
    c.as_slice-2.result.now procs c.in_ok-answers.answers
    (c.in_ok-answers.ensures ∙ ap (λ shells. map (row_in shells) c.as_slice-2.result.now) c.as_slice.ensures.value)
