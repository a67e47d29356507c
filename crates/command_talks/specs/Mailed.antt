-- What comes of a command on a mailbox.
use Rattle.std.specs.Prelude.{ℕ, List, codes}
use Rattle.mapped_streams.specs.declared.step.StreamResult.TheVariants as streams
use Rattle.mail_box.specs.declared.step.MailResult.{MailResult}
use Rattle.mail_box.specs.declared.step.MailResult.TheVariants.{Put, Taken, Full, Empty, BadMail, Store}
use Rattle.command_talks.specs.declared.outcome.Outcome.{Outcome}
use Rattle.command_talks.specs.declared.outcome.Outcome.TheVariants.{Streamed, Written}

-- the answers of a command that its mailbox refuses
abbrev pub mailbox_full : List ℕ
mailbox_full = codes "mailbox full"

abbrev pub mailbox_empty : List ℕ
mailbox_empty = codes "mailbox empty"

abbrev pub bad_mailbox : List ℕ
bad_mailbox = codes "bad mailbox"

-- a text that is put or taken is told as bytes that are written or read
abbrev pub mail_outcome : MailResult → Outcome
mail_outcome Put = Streamed streams.Fine
mail_outcome (Taken text) = Streamed (streams.Bytes text)
mail_outcome (Store reply) = Streamed (streams.Store reply)
mail_outcome Full = Written mailbox_full
mail_outcome Empty = Written mailbox_empty
mail_outcome BadMail = Written bad_mailbox
