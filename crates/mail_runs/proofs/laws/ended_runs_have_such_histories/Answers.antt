use Rattle.std.proofs.Common.{◌<◌, ◌-◌, ◌^◌, Option, length, map, sym, subst, arith}
use Rattle.std.specs.Prelude.{IfSome}
use Rattle.std.proofs.lemmas.List.Elements.{All-nil}
use Rattle.uid_names.specs.Names.{ProcName}
use Rattle.uid_names.proofs.ListLemmas.{by_cases}
use Rattle.uid_names.proofs.Passed.{left-true, right-true}
use Rattle.dom_history.specs.Objects.{is_node}
use Rattle.dom_history.specs.Ranges.{AreNamedReplies, IsNamedReply}
use Rattle.aegis_shell.specs.Asking.{ask}
use Rattle.node_runs.specs.Incomings.{has_program}
use Rattle.node_runs.specs.RunHistories.{all_told, history_if}
use Rattle.node_runs.specs.Runs.{choice_of, World}
use Rattle.node_runs.specs.Setups.{given}
use Rattle.node_runs.specs.Told.{AreFitting}
use Rattle.node_runs.proofs.SettingUp.{setup-procs}
use Rattle.run_laws.specs.Paced.{is_driven}
use Rattle.script_runs.specs.Answers.{heard_as}
use Rattle.script_runs.specs.Histories.{script_history}
use Rattle.script_runs.specs.Setups.{setup_of}
use Rattle.mail_runs.proofs.Runs.{absent_hears, events_few, items_few}
use Rattle.mail_runs.proofs.laws.ended_runs_have_such_histories.Goals as goal

pub returns : goal.returns
returns c = λ s content start events w is.
    let h = script_history s events in
    let setup = c.scripts_set_nodes_up.ensures s content start in
    let paced = c.scripts_are_paced.ensures s content in
    let one = c.ended_runs_of_scripts_are_as_one_store.ensures s content start events w is in
    let leads = is.run.leads in
    let said = c.histories_say_what_was_heard.ensures.ended (setup_of s) s.plan setup paced events w is.run is.timely in
    let rising = c.entries_stand_within_their_operations.ensures.rising (setup_of s) (map choice_of events) w leads in
    let heard : (p : ProcName) → AreFitting (ask s p) (heard_as s h p) × AreNamedReplies (heard_as s h p) =
    λ p.
    by_cases (is_driven (setup_of s) p) (AreFitting (ask s p) (heard_as s h p) × AreNamedReplies (heard_as s h p))
    (λ driven.
    let node = left-true (is_node s.opening p.node) (has_program (given (setup_of s) p.node) p.number) driven in
    let proc = setup-procs (setup_of s) setup p.node p.number (right-true (is_node s.opening p.node) (has_program (given (setup_of s) p.node) p.number) driven) in
    let followed = (c.each_node_of_a_run_agrees_with_its_desk.ensures.nodes (setup_of s) setup (map choice_of events) w leads is.timely p.node node).followed p.number proc in
    (subst (AreFitting (ask s p)) (said p proc) followed.fitting, subst AreNamedReplies (said p proc) followed.named))
    (λ none.
    let nothing = absent_hears (ask s p) s.phases (paced.absent p none) (one.follows p).reaches in
    (subst (AreFitting (ask s p)) (sym nothing) tt, subst AreNamedReplies (sym nothing) (All-nil (λ t. IfSome t IsNamedReply)))) in
    record {
      legal = one.legal;
      follows = one.follows;
      ended = one.whole;
      fitting = λ p. (heard p).0;
      named = λ p. (heard p).1;
      few =
          let events_of = events_few (setup_of s) setup (map choice_of events) w leads is.timely rising in
          let items = items_few w (all_told w.trace) w.trace in
          subst (λ (o : Option World). length (history_if (setup_of s) o).items < 2 ^ 64 - 1) (sym leads) (omega (arith, events_of, items));
    }
