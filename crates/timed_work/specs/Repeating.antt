-- A program that does one operation, and then two others in turn, whatever it is told.
use Rattle.std.specs.Prelude.{Bool, false, Option, Some, None}
use Rattle.dom_history.specs.declared.op.Op.{Op}
use Rattle.dom_history.specs.declared.op.Want.{Want}
use Rattle.dom_history.specs.declared.op.Want.TheVariants.{Do, Phase}
use Rattle.timed_work.specs.declared.repeat.Turn.{Turn}
use Rattle.timed_work.specs.declared.repeat.Turn.TheVariants.{First, Odd, Even}

-- its operations, whose turn it is, and whether it found no memory
pub record Repeated : Type 0 where
  pub first : Op
  pub odd : Op
  pub even : Op
  pub turn : Option Turn
  pub spent : Bool

abbrev pub following : Option Turn → Turn
following None = First
following (Some First) = Odd
following (Some Odd) = Even
following (Some Even) = Odd

abbrev pub op_at : Turn → Repeated → Op
op_at First r = r.first
op_at Odd r = r.odd
op_at Even r = r.even

abbrev pub want_at : Option Turn → Repeated → Want
want_at None r = Phase
want_at (Some turn) r = Do (op_at turn r)

abbrev pub want_of : Repeated → Want
want_of r = want_at r.turn r

abbrev pub moved : Repeated → Repeated
moved r = record { first = r.first; odd = r.odd; even = r.even; turn = Some (following r.turn); spent = false }
