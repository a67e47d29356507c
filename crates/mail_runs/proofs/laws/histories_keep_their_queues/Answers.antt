use Rattle.std.proofs.Common.{◌<◌, ◌-◌, ◌^◌, [], length, subst}
use Rattle.dom_history.specs.Histories.{IsRising}
use Rattle.dom_history.specs.Legal.{AreLegal}
use Rattle.mail_runs.specs.Mailboxes.{OnlyMails}
use Rattle.mail_runs.proofs.Given.{all_asked, all_ranged, few_behind, legal_behind, only_behind, rising_behind}
use Rattle.mail_runs.proofs.Queue.{all_right, queue_of}
use Rattle.mail_runs.proofs.Works.{all_works, legal_closed}
use Rattle.mail_runs.proofs.laws.histories_keep_their_queues.Goals as goal

pub returns : goal.returns
returns c = λ s content start h is u only newer past stands.
    let works = all_works s content in
    let legal = legal_behind s newer past (subst (AreLegal s.opening []) stands (legal_closed s h is)) in
    let asked =
    all_asked s h is.follows (λ p. c.each_entry_is_of_a_command.ensures.asked s content h p (is.follows p)) (c.scripts_set_nodes_up.ensures s content start).wants is.fitting is.named newer past stands in
    queue_of s start works u past
    (all_right s start works u past legal (rising_behind newer past (subst IsRising stands is.legal.rising)) (all_ranged s past legal asked) asked
    (few_behind newer past (2 ^ 64 - 1) (subst (λ items. length items < 2 ^ 64 - 1) stands is.few)) (only_behind s u newer past (subst (OnlyMails s u) stands only)))
