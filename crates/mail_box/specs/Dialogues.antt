-- The dialogues of mailboxes.
use Rattle.std.specs.Prelude.{Option, List}
use Rattle.dom_history.specs.declared.op.Op.{Op}
use Rattle.dom_history.specs.declared.op.Reply.{Reply}
use Rattle.naming_tree.specs.declared.step.Step.{Step}
use Rattle.naming_tree.specs.Dialogues.{DialogueOf, ask_or}
pub use Rattle.naming_tree.specs.Dialogues.{Ends, Asks, told, after, says, IsStep, FitsSaid, FitsHeard, closing}
pub use Rattle.naming_tree.specs.Standing.{told_last, MayTell, MayHear, said_to, unless_over, left_after, machine_left, machine_says}
use Rattle.mail_box.specs.declared.step.MailResult.{MailResult}
use Rattle.mail_box.specs.declared.step.MailResult.TheVariants.{Store}

abbrev pub Dialogue : Type 0
Dialogue = DialogueOf MailResult

abbrev pub MailStep : Type 0
MailStep = Step MailResult

-- an operation that is done goes on; one that is refused is the result, once what is open is closed
abbrev pub ask : {A : Type 0} → (Reply → Option A) → List Op → Op → (A → Dialogue) → Dialogue
ask answer held op further = ask_or Store answer held op further
