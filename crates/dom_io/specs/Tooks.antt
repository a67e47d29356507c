-- What a read or a write answered.
use Rattle.std.specs.Prelude.{ℕ, Bool, true, false}
use Rattle.dom_io.specs.Counts.{one_more}
use Rattle.dom_io.specs.declared.outside.Took.{Took}
use Rattle.dom_io.specs.declared.outside.Took.TheVariants as took

-- a fact of the number of bytes that were taken
abbrev pub IfTook : Took → (ℕ → Type 0) → Type 0
IfTook (took.Some count) P = P count
IfTook took.Failed P = Unit {0}

-- a fact where the call failed
abbrev pub OnFailed : Took → Type 0 → Type 0
OnFailed (took.Some count) P = Unit {0}
OnFailed took.Failed P = P

-- the answer of a call that failed or took so many bytes
abbrev pub answer_of : Bool → ℕ → Took
answer_of true count = took.Failed
answer_of false count = took.Some count

-- the count of faults after a call with this answer
abbrev pub faults_after : Took → ℕ → ℕ
faults_after (took.Some count) faults = faults
faults_after took.Failed faults = one_more faults
