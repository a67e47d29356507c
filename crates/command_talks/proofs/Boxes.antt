-- What the code knows of machines of mailboxes, and where they stand.
use Rattle.std.proofs.Common.{◌≡◌, Option, Some, None, refl, ap, ◌∙◌, subst}
use Rattle.dom_history.specs.declared.op.Op.{Op}
use Rattle.dom_history.specs.declared.op.Reply.{Reply}
use Rattle.naming_tree.specs.declared.step.Step.TheVariants as steps
use Rattle.naming_tree.specs.Dialogues.{asked}
use Rattle.naming_tree.specs.Dialogues as names
use Rattle.mail_box.specs.Dialogues.{Dialogue, said_to}
use Rattle.mail_box.specs.States.{left, rest, IsMailing}
use Rattle.mail_box.specs.Turns.{stood_after}
use Rattle.mail_box.specs.declared.mailing.Mailing.{Mailing}
use Rattle.mail_box.specs.declared.step.MailResult.{MailResult}
use Rattle.mail_box.proofs.Turning.{IsOn, on_next}
use Rattle.command_talks.specs.FileTalks.{mail_asks, mail_told, mail_turn}
use Rattle.command_talks.specs.declared.file_talk.FileTalk.TheVariants.{Mails}
use Rattle.command_talks.specs.declared.file_talk.FileTurn.TheVariants.{Goes, Comes}
use Rattle.command_talks.specs.Mailed.{mail_outcome}

-- it goes on with what it says, or has come to its result
pub mail_goes : (m : Option Mailing) (last : Option Reply) (op : Op) → Some (steps.Do op) ≡ said_to (rest m) last → Some (Goes (Mails (stood_after m last)) op) ≡ mail_told m last
mail_goes m last op says = ap (λ step. mail_turn step (Mails (stood_after m last))) says

pub mail_comes : (m : Option Mailing) (last : Option Reply) (result : MailResult) → Some (steps.Over result) ≡ said_to (rest m) last → Some (Comes (mail_outcome result)) ≡ mail_told m last
mail_comes m last result says = ap (λ step. mail_turn step (Mails (stood_after m last))) says

-- it stands where its dialogue does
pub mail_begun : (m : Mailing) → IsMailing m → (said_to (rest (Some m)) None ≡ Some (names.says (left m))) × IsOn (stood_after (Some m) None) (left m)
mail_begun m h = (refl, (h, refl))

mail_says : (m : Option Mailing) (d : Dialogue) (reply : Reply) → IsOn m d → names.FitsSaid (names.says d) reply → said_to (rest m) (Some reply) ≡ Some (names.says (names.told d reply))
mail_says None d reply h fits = absurd (subst (λ (x : Dialogue). names.FitsSaid (names.says x) reply) h.1 fits)
mail_says (Some m) d reply h fits = ap (λ (x : Dialogue). Some (names.says (names.told x reply))) h.1

pub mail_told_on : (m : Option Mailing) (d : Dialogue) (reply : Reply) → IsOn m d → names.FitsSaid (names.says d) reply
    → (said_to (rest m) (Some reply) ≡ Some (names.says (names.told d reply))) × IsOn (stood_after m (Some reply)) (names.told d reply)
mail_told_on m d reply h fits = (mail_says m d reply h fits, on_next m d reply h fits)

pub mail_asked : (m : Option Mailing) (op : Op) (further : Reply → Dialogue) → IsOn m (names.Asks op further) → mail_asks m ≡ Some op
mail_asked None op further h = cc
mail_asked (Some m) op further h = ap asked h.1
