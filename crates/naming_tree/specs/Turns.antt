-- What a reply makes of a machine.
use Rattle.std.specs.Prelude.{Bool, true, false, Option, Some, None, List, [], ◌∷◌, option_map, IsSome}
use Rattle.dom_history.specs.declared.op.Op.{Op}
use Rattle.dom_history.specs.declared.op.Reply.{Reply}
use Rattle.dom_history.specs.Fitting.{Fits}
use Rattle.naming_tree.specs.declared.step.NameResult.{NameResult}
use Rattle.naming_tree.specs.declared.step.Step.TheVariants.{Do, Over}
use Rattle.naming_tree.specs.Dialogues.{NameStep}

-- it goes on in a state, or comes to a result
pub data Turn (S : Type 0) : Type 0 where
  Goes : (state : S) → Turn S
  Comes : (result : NameResult) → Turn S

-- what is said where this is asked
abbrev pub does : Option Op → Option NameStep
does asked = option_map Do asked

module _ {S : Type 0} where
  -- the turn of a state and of the result, if there is one
  abbrev pub turn_of : Option NameResult → S → Turn S
  turn_of None state = Goes state
  turn_of (Some result) state = Comes result

  -- the state behind it; None once it is over
  abbrev pub state_of : Turn S → Option S
  state_of (Goes state) = Some state
  state_of (Comes result) = None

  -- what it says, by what a state asks
  abbrev pub step_of : (S → Option Op) → Turn S → Option NameStep
  step_of asks (Goes state) = does (asks state)
  step_of asks (Comes result) = Some (Over result)

-- what may be told to one that asks this: a reply that fits, and nothing before it asked anything
abbrev pub FitsAsked : Option Op → Option Reply → Type 0
FitsAsked None None = Unit {0}
FitsAsked None (Some reply) = ⊥
FitsAsked (Some op) None = ⊥
FitsAsked (Some op) (Some reply) = Fits op reply

-- Where a machine stands is None once it is over or found no memory. What may be told to one:
abbrev pub FitsStood : {S : Type 0} → (S → Option Op) → Option S → Option Reply → Type 0
FitsStood asks None last = ⊥
FitsStood asks (Some state) last = FitsAsked (asks state) last

-- where it stands once it is told this
abbrev pub stood_after : {S : Type 0} → (S → Option Reply → Turn S) → Option S → Option Reply → Option S
stood_after after None last = None
stood_after after (Some state) last = state_of (after state last)

-- and what it says then
abbrev pub stood_says : {S : Type 0} → (S → Option Op) → (S → Option Reply → Turn S) → Option S → Option Reply → Option NameStep
stood_says asks after None last = None
stood_says asks after (Some state) last = step_of asks (after state last)

-- a state, unless what was said is a result
abbrev pub still : {S : Type 0} → NameStep → S → Option S
still (Do op) state = Some state
still (Over result) state = None

-- what holds where an operation was said
abbrev pub IfAsked : NameStep → Type 0 → Type 0
IfAsked (Do op) P = P
IfAsked (Over result) P = Unit {0}

-- a state, unless it is over
abbrev pub unless : {S : Type 0} → Bool → S → Option S
unless true state = None
unless false state = Some state

-- what holds while it is not over
abbrev pub IfStill : Bool → Type 0 → Type 0
IfStill true P = Unit {0}
IfStill false P = P

-- where a machine that was made so stands once it was told these replies, the newest first; its first call told nothing
abbrev pub machine_after : {S : Type 0} → (S → Option Reply → Turn S) → Option S → List Reply → Option S
machine_after after made [] = stood_after after made None
machine_after after made (reply ∷ heard) = stood_after after (machine_after after made heard) (Some reply)

-- and what it said to the newest
abbrev pub machine_says : {S : Type 0} → (S → Option Op) → (S → Option Reply → Turn S) → Option S → List Reply → Option NameStep
machine_says asks after made [] = stood_says asks after made None
machine_says asks after made (reply ∷ heard) = stood_says asks after (machine_after after made heard) (Some reply)

-- a machine that may be told this
pub record IsReady {S : Type 0} (asks : S → Option Op) (m : Option S) (last : Option Reply) : Type 0 where
  pub still : IsSome m
  pub fits : FitsStood asks m last
