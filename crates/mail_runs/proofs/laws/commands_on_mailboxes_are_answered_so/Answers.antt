use Rattle.std.proofs.Common.{[], refl}
use Rattle.script_runs.specs.Setups.{setup_of}
use Rattle.mail_runs.proofs.Answers.{answered_right}
use Rattle.mail_runs.proofs.Given.{all_asked}
use Rattle.mail_runs.proofs.Works.{all_works, legal_closed}
use Rattle.mail_runs.proofs.laws.commands_on_mailboxes_are_answered_so.Goals as goal

pub returns : goal.returns
returns c = λ s content start h is u only p number mail on.
    let asked =
    all_asked s h is.follows (λ q. c.each_entry_is_of_a_command.ensures.asked s content h q (is.follows q)) (c.scripts_set_nodes_up.ensures s content start).wants is.fitting is.named [] h.items refl in
    answered_right s start (all_works s content) h (legal_closed s h is) is.legal.rising asked is.few
    (λ q. c.histories_say_what_was_heard.ensures.ended_history (setup_of s) (c.scripts_are_paced.ensures s content) h is.ended q) u only p number mail on
