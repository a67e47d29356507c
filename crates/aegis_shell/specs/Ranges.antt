-- The ranges that a process's commands keep.
use Rattle.std.specs.Prelude.{◌+◌, ◌<◌, ◌≤◌, ◌^◌, ℕ, List, All}
use Rattle.uid_names.specs.declared.limits.TheConstants.{PAGE_BYTES}
use Rattle.dom_history.specs.declared.op.Spot.{Spot}
use Rattle.dom_history.specs.Ranges.{IsSpot}
use Rattle.script_reader.specs.Commands.{IsCount}
use Rattle.command_talks.specs.Ranges.{IsRanged}
use Rattle.aegis_shell.specs.Work.{Job}
use Rattle.aegis_shell.specs.Operations.{place_of}

-- so many bytes from a spot, as a command can name them
abbrev pub IsRange : Spot → ℕ → Type 0
IsRange spot count = IsSpot spot × IsCount count × (place_of spot + PAGE_BYTES < 2 ^ 32)

-- a job's command is one that a script can have, and so is its phase
pub record IsJob (job : Job) : Type 0 where
  pub phase : job.phase ≤ 1000
  pub command : IsRanged job.command

abbrev pub AreJobs : List Job → Type 0
AreJobs jobs = All IsJob jobs
