-- A program that goes round a list, whatever it is told.
use Rattle.std.specs.Prelude.{◌≡◌, ℕ, zero, suc, ◌+◌, ◌%◌, nat_lt, Bool, false, if◌then◌else◌, Option, List, All, length, slice_index_or}
use Rattle.dom_history.specs.declared.op.Reply.{Reply}
use Rattle.dom_history.specs.declared.op.Want.{Want}
use Rattle.dom_history.specs.declared.op.Want.TheVariants.{Phase, Done}
use Rattle.dom_history.specs.Ranges.{IsWant}

-- what stands in the list, how often it wants something of it, how often it was asked, and whether it found no memory
pub record Round : Type 0 where
  pub wants : List Want
  pub count : ℕ
  pub asked : ℕ
  pub spent : Bool

-- before it was asked it waits for the first phase; behind its count it is done
abbrev pub want_in : List Want → ℕ → ℕ → Want
want_in wants count zero = Phase
want_in wants count (suc i) = if nat_lt i count then slice_index_or wants (i % length wants) Done else Done

abbrev pub round_wants : Round → Want
round_wants r = want_in r.wants r.count r.asked

abbrev pub round_after : Round → Option Reply → Round
round_after r told = record { wants = r.wants; count = r.count; asked = r.asked + 1; spent = false }

-- it was not asked yet, and all that it will want is in its ranges
pub record IsReady (r : Round) : Type 0 where
  pub whole : r.spent ≡ false
  pub fresh : r.asked ≡ 0
  pub wants : All IsWant r.wants
