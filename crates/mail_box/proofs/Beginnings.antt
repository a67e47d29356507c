-- A machine of a mailbox begins with its whole dialogue.
use Rattle.std.proofs.Common.{◌≡◌, ℕ, Option, Some, List, [], ap, ◌∙◌}
use Rattle.uid_names.specs.Names.{ObjectName}
use Rattle.mail_box.specs.Mails.{mailing, put_mail, take_mail}
use Rattle.mail_box.specs.States.{mailing_of, rest}
use Rattle.mail_box.specs.declared.mailing.Mailing.{Mailing}
use Rattle.mail_box.specs.declared.work.MailWork.TheVariants.{Put, Take}

pub take_begins : (u : ObjectName) (m : Option Mailing) (bytes : List ℕ) → m ≡ Some (mailing_of u (Take bytes)) → bytes ≡ [] → rest m ≡ Some (take_mail u)
take_begins u m bytes made e = ap rest made ∙ ap (λ text. Some (mailing u (Take text))) e

pub take_made : (u : ObjectName) (m : Option Mailing) (bytes : List ℕ) → m ≡ Some (mailing_of u (Take bytes)) → bytes ≡ [] → m ≡ Some (mailing_of u (Take []))
take_made u m bytes made e = made ∙ ap (λ text. Some (mailing_of u (Take text))) e

pub put_begins : (u : ObjectName) (m : Option Mailing) (bytes text : List ℕ) → m ≡ Some (mailing_of u (Put bytes)) → bytes ≡ text → rest m ≡ Some (put_mail u text)
put_begins u m bytes text made e = ap rest made ∙ ap (λ t. Some (put_mail u t)) e

pub put_made : (u : ObjectName) (m : Option Mailing) (bytes text : List ℕ) → m ≡ Some (mailing_of u (Put bytes)) → bytes ≡ text → m ≡ Some (mailing_of u (Put text))
put_made u m bytes text made e = made ∙ ap (λ t. Some (mailing_of u (Put t))) e
