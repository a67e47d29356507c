-- What is asked of the store, one operation after another, and what comes of it.
use Rattle.std.specs.Prelude.{Option, Some, None, List, [], ◌∷◌}
use Rattle.dom_history.specs.declared.op.Op.{Op}
use Rattle.dom_history.specs.declared.op.Reply.{Reply}
use Rattle.dom_history.specs.Fitting.{Fits}
use Rattle.dom_history.specs.Ranges.{IsOp}
use Rattle.naming_tree.specs.declared.step.NameResult.{NameResult}
use Rattle.naming_tree.specs.declared.step.Step.{Step}
use Rattle.naming_tree.specs.declared.step.Step.TheVariants.{Do, Over}

-- an operation is asked, and what follows depends on its reply; in the end there is a result
pub data DialogueOf (R : Type 0) : Type 0 where
  Ends : (result : R) → DialogueOf R
  Asks : (op : Op) → (further : Reply → DialogueOf R) → DialogueOf R

module _ {R : Type 0} where
  -- what is left of it once it was told a reply
  abbrev pub told : DialogueOf R → Reply → DialogueOf R
  told (Ends result) reply = Ends result
  told (Asks op further) reply = further reply

  -- what is left of it behind replies, of which the newest stands first
  abbrev pub after : DialogueOf R → List Reply → DialogueOf R
  after d [] = d
  after d (reply ∷ heard) = told (after d heard) reply

  -- the operation that is asked next, while there is one
  abbrev pub asked : DialogueOf R → Option Op
  asked (Ends result) = None
  asked (Asks op further) = Some op

  -- what it says: the operation that is asked next, or the result
  abbrev pub says : DialogueOf R → Step R
  says (Ends result) = Over result
  says (Asks op further) = Do op

  -- an operation in its ranges
  abbrev pub IsStep : Step R → Type 0
  IsStep (Do op) = IsOp op
  IsStep (Over result) = Unit {0}

  -- a reply fits what was said before it
  abbrev pub FitsSaid : Step R → Reply → Type 0
  FitsSaid (Do op) reply = Fits op reply
  FitsSaid (Over result) reply = ⊥

  -- so do all of these, of which the newest stands first
  abbrev pub FitsHeard : DialogueOf R → List Reply → Type 0
  FitsHeard d [] = Unit {0}
  FitsHeard d (reply ∷ heard) = FitsHeard d heard × FitsSaid (says (after d heard)) reply

  -- what is open is closed, by the operations that are held, newest first, and the result stays
  abbrev pub closing : List Op → R → DialogueOf R
  closing [] result = Ends result
  closing (op ∷ held) result = Asks op (λ _. closing held result)

  -- an operation that is done goes on; one that is refused is the result, once what is open is closed
  abbrev pub go_on_or : {A : Type 0} → (Reply → R) → Option A → Reply → List Op → (A → DialogueOf R) → DialogueOf R
  go_on_or refused None reply held further = closing held (refused reply)
  go_on_or refused (Some answer) reply held further = further answer

  abbrev pub ask_or : {A : Type 0} → (Reply → R) → (Reply → Option A) → List Op → Op → (A → DialogueOf R) → DialogueOf R
  ask_or refused answer held op further = Asks op (λ reply. go_on_or refused (answer reply) reply held further)

-- a dialogue, and the one that follows its result
abbrev pub led_on : {A B : Type 0} → DialogueOf A → (A → DialogueOf B) → DialogueOf B
led_on (Ends result) further = further result
led_on (Asks op next) further = Asks op (λ reply. led_on (next reply) further)

-- of names
abbrev pub Dialogue : Type 0
Dialogue = DialogueOf NameResult

abbrev pub NameStep : Type 0
NameStep = Step NameResult
