-- Where a machine of one dialogue stands, whatever its result is.
use Rattle.std.specs.Prelude.{Option, Some, None, List, [], ◌∷◌}
use Rattle.dom_history.specs.declared.op.Reply.{Reply}
use Rattle.naming_tree.specs.declared.step.Step.{Step}
use Rattle.naming_tree.specs.Dialogues.{DialogueOf, Ends, Asks, told, says, FitsSaid}

module _ {R : Type 0} where
  -- A machine is told a reply; told nothing, as at its first call, it says what it is at.
  abbrev pub told_last : DialogueOf R → Option Reply → DialogueOf R
  told_last d None = d
  told_last d (Some reply) = told d reply

  -- Where a machine stands is what is left of its dialogue; None once it is over or found no memory. What may be told to one:
  abbrev pub MayTell : DialogueOf R → Option Reply → Type 0
  MayTell d None = Unit {0}
  MayTell d (Some reply) = FitsSaid (says d) reply

  abbrev pub MayHear : Option (DialogueOf R) → Option Reply → Type 0
  MayHear None last = ⊥
  MayHear (Some d) last = MayTell d last

  -- what it says then
  abbrev pub said_to : Option (DialogueOf R) → Option Reply → Option (Step R)
  said_to None last = None
  said_to (Some d) last = Some (says (told_last d last))

  -- and where it stands then
  abbrev pub unless_over : DialogueOf R → Option (DialogueOf R)
  unless_over (Ends result) = None
  unless_over (Asks op further) = Some (Asks op further)

  abbrev pub left_after : Option (DialogueOf R) → Option Reply → Option (DialogueOf R)
  left_after None last = None
  left_after (Some d) last = unless_over (told_last d last)

  -- where a machine of this dialogue stands once it was told these replies, the newest first; its first call told nothing
  abbrev pub machine_left : DialogueOf R → List Reply → Option (DialogueOf R)
  machine_left d [] = left_after (Some d) None
  machine_left d (reply ∷ heard) = left_after (machine_left d heard) (Some reply)

  -- and what it said to the newest
  abbrev pub machine_says : DialogueOf R → List Reply → Option (Step R)
  machine_says d [] = said_to (Some d) None
  machine_says d (reply ∷ heard) = said_to (machine_left d heard) (Some reply)
