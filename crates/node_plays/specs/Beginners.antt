-- The programs of a node under test, as they are at the start.
use Rattle.std.specs.Prelude.{◌≡◌, ◌≢◌, ◌<◌, ℕ, false, List, All, AllPairs, IfSome}
use Rattle.dom_history.specs.declared.op.Want.TheVariants.{Phase}
use Rattle.fault_handler.specs.Invariant.{IsProc}
use Rattle.aegis_shell.specs.Shells.{Shelled, shell_wants}
use Rattle.node_core.specs.Programs.{program_in, numbers_in}

-- a shell that was never asked
pub record IsFresh (shell : Shelled) : Type 0 where
  pub whole : shell.spent ≡ false
  pub waits : shell_wants shell ≡ Phase

-- shells that were never asked, each that of another process, of a number below this one
pub record AreBeginners (below : ℕ) (programs : List (ℕ × Shelled)) : Type 0 where
  pub each : All IsProc (numbers_in programs)
  pub once : AllPairs (λ p q. p ≢ q) (numbers_in programs)
  pub low : All (λ p. p < below) (numbers_in programs)
  pub fresh : (p : ℕ) → IfSome (program_in programs p) IsFresh
