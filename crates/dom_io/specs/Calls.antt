-- The calls of a source or a sink in memory: which fail, how many were made, and how many failed.
use Rattle.std.specs.Prelude.{ℕ, ◌+◌, ◌==◌, Bool, true, false, List}
use Rattle.std.specs.List.{list_any}
use Rattle.dom_io.specs.Counts.{one_more}

-- which calls fail, and how many were made and failed
pub record Schedule : Type 0 where
  -- the calls that fail, counted from 1
  pub fails : List ℕ
  -- how many were made, up to the last count, above which no number can be listed
  pub made : ℕ
  -- how many failed, up to the last count
  pub faults : ℕ

-- the schedule before the first call
abbrev pub fresh_schedule : List ℕ → Schedule
fresh_schedule fails = record { fails = fails; made = 0; faults = 0 }

-- whether the next call is a listed one
abbrev pub next_fails : Schedule → Bool
next_fails calls = list_any (λ number. number == calls.made + 1) calls.fails

-- the count of faults after a call that failed or did not
abbrev pub faults_counted : Bool → ℕ → ℕ
faults_counted true faults = one_more faults
faults_counted false faults = faults

-- the schedule after a call that failed or did not
abbrev pub counted : Bool → Schedule → Schedule
counted failed calls = record { fails = calls.fails; made = one_more calls.made; faults = faults_counted failed calls.faults }
