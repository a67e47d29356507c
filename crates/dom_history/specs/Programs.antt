-- What a program wants and becomes, from one call of `next` to the next.
use Rattle.std.specs.Prelude.{Option, Some, None, [], ◌∷◌}
use Rattle.dom_history.specs.declared.op.Reply.{Reply}
use Rattle.dom_history.specs.declared.op.Want.{Want}
use Rattle.dom_history.specs.declared.op.Want.TheVariants.{Do, Phase, Done}
use Rattle.dom_history.specs.Fitting.{Fits}
use Rattle.dom_history.specs.Follows.{Heard}

-- what may be told to a program that wants this: a reply that fits the operation, or nothing where it waits for a
-- phase; one that is done is told no more
abbrev pub FitsWant : Want → Option Reply → Type 0
FitsWant (Do op) (Some reply) = Fits op reply
FitsWant (Do op) None = ⊥
FitsWant Phase (Some reply) = ⊥
FitsWant Phase None = Unit {0}
FitsWant Done last = ⊥

module _ {S : Type 0} where
  -- a program that was made so, once it has heard this; its first call tells it nothing
  abbrev pub program_after : (S → Option Reply → S) → S → Heard → S
  program_after becomes made [] = becomes made None
  program_after becomes made (told ∷ heard) = becomes (program_after becomes made heard) told

  -- what it asks once it has heard this: what it wants then
  abbrev pub asked_by : (S → Want) → (S → Option Reply → S) → S → Heard → Want
  asked_by wants becomes made heard = wants (program_after becomes made heard)
