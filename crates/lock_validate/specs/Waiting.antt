-- For what a process waits.
use Rattle.std.specs.Prelude.{◌≡◌, ◌≢◌, ℕ, true}
use Rattle.fault_handler.specs.Transits.{is_moving}
use Rattle.fault_handler.specs.Desks.{DeskState, moving_of}
use Rattle.fault_handler.specs.Outcomes.{Turn}
use Rattle.fault_handler.specs.Drops.{WaitsFor}
use Rattle.fault_handler.specs.Invariant.{IsProc}
use Rattle.lock_validate.specs.Causes.{Cause}

-- for a page that another process moves, either way
abbrev pub WaitsForAnother : DeskState → ℕ → Turn → Type 0
WaitsForAnother d p (Turn.Ends reply) = Unit {0}
WaitsForAnother d p (Turn.Asks home ask) = Unit {0}
WaitsForAnother d p (Turn.Waits u k) = (q : ℕ) × IsProc q × (q ≢ p) × (is_moving u k (moving_of d q) ≡ true)

-- a load or store waits for one that another process asked for
abbrev pub WaitsForFetch : Cause → DeskState → ℕ → Turn → Type 0
WaitsForFetch (Cause.Accesses op) d p turn = WaitsFor d p turn
WaitsForFetch (Cause.PageCame a) d p turn = WaitsFor d p turn
WaitsForFetch c d p turn = Unit {0}
