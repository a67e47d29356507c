use Rattle.mail_runs.proofs.laws.histories_keep_mailboxes.Goals as goal

pub returns : goal.returns
returns c = λ s content start h is u only. record {
  queue = c.histories_keep_their_queues.ensures s content start h is u only;
  answered = c.commands_on_mailboxes_are_answered_so.ensures s content start h is u only;
}
