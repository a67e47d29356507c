-- What an operation may be told, and dialogues that ask in the ranges of operations where they are told no other.
use Rattle.dom_history.specs.Fitting.{Fits}
use Rattle.dom_history.specs.Ranges.{IsNamedReply, IsOp}
use Rattle.dom_history.specs.declared.op.Op.{Op}
use Rattle.dom_history.specs.declared.op.Reply.{Reply}
use Rattle.naming_tree.specs.Dialogues.{DialogueOf, Ends, Asks}

-- a reply that the operation can have, and that tells of no object but a real one
abbrev pub MayTell : Op → Reply → Type 0
MayTell op reply = Fits op reply × IsNamedReply reply

-- each operation that is asked is in its ranges, whatever fits was told before, and what it comes to is such
abbrev pub AsksInRange : {R : Type 0} → (R → Type 0) → DialogueOf R → Type 0
AsksInRange IsSuch (Ends result) = IsSuch result
AsksInRange IsSuch (Asks op further) = IsOp op × ((reply : Reply) → MayTell op reply → AsksInRange IsSuch (further reply))
