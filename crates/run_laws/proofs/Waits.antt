-- A process that waits for a page waits for one with an open call.
use Rattle.std.proofs.Common.{◌≡◌, ℕ, Bool, true, false, Option, Some, None, refl, ap}
use Rattle.std.specs.Prelude.{◌||◌}
use Rattle.uid_names.specs.Names.{ObjectName}
use Rattle.fault_handler.specs.Conditions.{IsIdle}
use Rattle.fault_handler.specs.Desks.{DeskState, moving_of, is_in_transit_there}
use Rattle.fault_handler.specs.Invariant.{IsProc}
use Rattle.fault_handler.specs.Transits.{is_moving}
use Rattle.fault_handler.proofs.Fours.{first, second, third, fourth}
use Rattle.node_runs.specs.Agreements.{IsDoing, Agrees}
use Rattle.node_runs.specs.NodeStates.{Await, OpenOp}
use Rattle.run_laws.specs.OpenAsks.{IsAnswerAwaited, HasCall}

-- without an open call a process is idle
pub idle-without : (d : DeskState) (p last : ℕ) (o : Option OpenOp) → Agrees d p last o → (HasCall o → ⊥) → IsIdle d p
idle-without d p last None is without = is
idle-without d p last (Some o) is without = by o.awaits is.1 without
  where
    by : (a : Await) → IsDoing d p last o.began.op a → (IsAnswerAwaited a → ⊥) → IsIdle d p
    by (Await.Answer c) doing none = absurd (none tt)
    by (Await.Page u k) doing none = doing.idle

four-false : (a b c d : Bool) → a ≡ false → b ≡ false → c ≡ false → d ≡ false → (a || (b || (c || (d || false)))) ≡ false
four-false false false false false p q r s = refl
four-false true b c d p q r s = absurd (cc)
four-false false true c d p q r s = absurd (cc)
four-false false false true d p q r s = absurd (cc)
four-false false false false true p q r s = absurd (cc)

-- and where all are, no page is on its way
pub none-in-transit : (d : DeskState) → ((p : ℕ) → IsProc p → IsIdle d p) → (u : ObjectName) (k : ℕ) → is_in_transit_there d.moving u k ≡ false
none-in-transit d idle u k = four-false _ _ _ _ (still 1 first) (still 2 second) (still 3 third) (still 4 fourth)
  where
    still : (p : ℕ) → IsProc p → is_moving u k (moving_of d p) ≡ false
    still p proc = ap (is_moving u k) (idle p proc).no_page
