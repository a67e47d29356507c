-- A call that waits for its answer.
use Rattle.std.specs.Prelude.{ℕ, ◌==◌, if◌then◌else◌}
use Rattle.call_once.specs.declared.asking.TheConstants.{MOST_NOTICES}
use Rattle.call_once.specs.declared.asking.Noticed.{Noticed}
use Rattle.call_once.specs.declared.asking.Noticed.TheVariants.{Resend, GiveUp}

-- the number of a call, and how many of its frames were noticed as lost or late
pub record Waiting : Type 0 where
  pub number : ℕ
  pub notices : ℕ

-- what a notice means, by how many there are with it: the last one gives the call up
abbrev pub noticed : ℕ → Noticed
noticed notices = if notices == MOST_NOTICES then GiveUp else Resend
