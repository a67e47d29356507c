-- A machine of a mailbox says what its dialogue says, and is not over while it asks.
use Rattle.std.proofs.Common.{◌≡◌, Bool, true, false, Option, Some, None, refl, subst, sym, ◌∙◌, ap}
use Rattle.uid_names.specs.Names.{ObjectName}
use Rattle.dom_history.specs.declared.op.Reply.{Reply}
use Rattle.dom_history.specs.Fitting.{Fits}
use Rattle.naming_tree.specs.Sessions.{closers_if}
use Rattle.naming_tree.specs.Entering.{unmap_if}
use Rattle.naming_tree.specs.declared.step.Step.TheVariants.{Do}
use Rattle.mail_box.specs.Dialogues.{Dialogue, says, unless_over, FitsSaid}
use Rattle.mail_box.specs.Mails.{come_of, handling}
use Rattle.mail_box.specs.States.{closing_left, left, message_op, stage_left, stage_op}
use Rattle.mail_box.specs.declared.boxes.Head.{Head}
use Rattle.mail_box.specs.declared.mailing.Mailing.{Mailing}
use Rattle.mail_box.specs.declared.mailing.Opened.{Opened}
use Rattle.mail_box.specs.declared.mailing.Stage.{Stage}
use Rattle.mail_box.specs.declared.mailing.Stage.TheVariants.{Lock, Length, Map, Numbers, Message, Count, Close}
use Rattle.mail_box.specs.declared.step.MailResult.{MailResult}
use Rattle.mail_box.specs.declared.work.MailWork.{MailWork}
use Rattle.mail_box.specs.declared.work.MailWork.TheVariants.{Put, Take}
use Rattle.naming_tree.proofs.Standing.{asks_on}

close_says : (u : ObjectName) (mapped : Bool) (decided : Option MailResult) (result : MailResult) → says (closing_left (closers_if mapped u) decided result) ≡ Do (unmap_if mapped u)
close_says u true None result = refl
close_says u true (Some earlier) result = refl
close_says u false None result = refl
close_says u false (Some earlier) result = refl

message_says : (u : ObjectName) (work : MailWork) (o : Opened) (h : Head) → says (handling u o work h) ≡ Do (message_op work o h)
message_says u (Put text) o h = refl
message_says u (Take text) o h = refl

stage_says : (u : ObjectName) (work : MailWork) (decided : Option MailResult) (stage : Stage) → says (stage_left u work decided stage) ≡ Do (stage_op u work stage)
stage_says u work decided Lock = refl
stage_says u work decided Length = refl
stage_says u work decided (Map n) = refl
stage_says u work decided (Numbers o) = refl
stage_says u work decided (Message o h) = message_says u work o h
stage_says u work decided (Count o h) = refl
stage_says u work decided (Close mapped) = close_says u mapped decided (come_of work)

pub says_op : (m : Mailing) → says (left m) ≡ Do (stage_op m.uid m.work m.stage)
says_op m = stage_says m.uid m.work m.decided m.stage

-- what fits its dialogue fits its operation
pub fits_op : (m : Mailing) (reply : Reply) → FitsSaid (says (left m)) reply → Fits (stage_op m.uid m.work m.stage) reply
fits_op m reply fits = subst (λ step. FitsSaid step reply) (says_op m) fits

-- where it stands at what is left of a dialogue
pub stands_on : (m : Mailing) (d : Dialogue) → left m ≡ d → Some (left m) ≡ unless_over d
stands_on m d e = sym (asks_on (left m) (stage_op m.uid m.work m.stage) (says_op m)) ∙ ap unless_over e

pub says_on : (m : Mailing) (d : Dialogue) → left m ≡ d → Do (stage_op m.uid m.work m.stage) ≡ says d
says_on m d e = sym (says_op m) ∙ ap says e
