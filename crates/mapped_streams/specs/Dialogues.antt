-- The dialogues of streams.
use Rattle.naming_tree.specs.declared.step.Step.{Step}
use Rattle.naming_tree.specs.Dialogues.{DialogueOf}
pub use Rattle.naming_tree.specs.Dialogues.{Ends, Asks, told, after, says, IsStep, FitsSaid, FitsHeard}
pub use Rattle.naming_tree.specs.Standing.{told_last, MayTell, MayHear, said_to, unless_over, left_after, machine_left, machine_says}
use Rattle.mapped_streams.specs.declared.step.StreamResult.{StreamResult}

abbrev pub Dialogue : Type 0
Dialogue = DialogueOf StreamResult

abbrev pub StreamStep : Type 0
StreamStep = Step StreamResult
