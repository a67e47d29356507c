-- What a command on names or files asks of the store, one operation after another, and what it comes to.
use Rattle.std.specs.Prelude.{Option, List}
use Rattle.dom_history.specs.declared.op.Op.{Op}
use Rattle.dom_history.specs.declared.op.Reply.{Reply}
use Rattle.naming_tree.specs.declared.step.NameResult.{NameResult}
use Rattle.naming_tree.specs.declared.step.NameResult.TheVariants.{Store}
use Rattle.naming_tree.specs.declared.step.Step.{Step}
use Rattle.naming_tree.specs.Dialogues.{DialogueOf, ask_or}
pub use Rattle.naming_tree.specs.Dialogues.{Ends, Asks, told, asked, led_on, closing}
use Rattle.mapped_streams.specs.declared.step.StreamResult.{StreamResult}
use Rattle.mail_box.specs.declared.step.MailResult.{MailResult}
use Rattle.command_talks.specs.declared.outcome.Outcome.{Outcome}
use Rattle.command_talks.specs.declared.outcome.Outcome.TheVariants.{Came, Streamed}
use Rattle.command_talks.specs.Mailed.{mail_outcome}

abbrev pub Dialogue : Type 0
Dialogue = DialogueOf Outcome

abbrev pub TalkStep : Type 0
TalkStep = Step Outcome

-- what a name or a stream came to is what the command came to
abbrev pub came : NameResult → Dialogue
came result = Ends (Came result)

abbrev pub streamed : StreamResult → Dialogue
streamed result = Ends (Streamed result)

-- so is what a mailbox came to
abbrev pub mailed : MailResult → Dialogue
mailed result = Ends (mail_outcome result)

-- an operation that is refused is the outcome, once what is open is closed
abbrev pub refused : Reply → Outcome
refused reply = Came (Store reply)

abbrev pub ask : {A : Type 0} → (Reply → Option A) → List Op → Op → (A → Dialogue) → Dialogue
ask answer held op further = ask_or refused answer held op further
