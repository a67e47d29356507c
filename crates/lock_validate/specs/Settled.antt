-- What was sent home before a lock that writes is given up, or before its object is removed.
use Rattle.std.specs.Prelude.{◌≡◌, ◌≢◌, ℕ, true, false}
use Rattle.uid_names.specs.Names.{ObjectName}
use Rattle.dom_history.specs.Replies.{may_write}
use Rattle.page_cache.specs.Caches.{page_at}
use Rattle.ring_messages.specs.Bodies.{Ask}
use Rattle.fault_handler.specs.Lengths.{known_of, is_changed}
use Rattle.fault_handler.specs.Transits.{is_moving}
use Rattle.fault_handler.specs.Desks.{DeskState, state_of, moving_of}
use Rattle.fault_handler.specs.Invariant.{IsProc, is_dirty}
use Rattle.fault_handler.specs.Outcomes.{Turn}

-- no page of the object is dirty, no other process moves one, and its length is unchanged
pub record IsSettled (d : DeskState) (p : ℕ) (u : ObjectName) : Type 0 where
  pub clean : (k : ℕ) → is_dirty (page_at d.cache.pages u k) ≡ false
  pub still : (q : ℕ) → IsProc q → q ≢ p → (k : ℕ) → is_moving u k (moving_of d q) ≡ false
  pub length : is_changed (known_of u d.known) ≡ false

-- a request that gives up a lock that is held in a mode that writes, or removes an object, finds it so
abbrev pub GivesUpSettled : DeskState → ℕ → Turn → Type 0
GivesUpSettled d p (Turn.Asks home (Ask.Unlock u)) = may_write (state_of d p u) ≡ true → IsSettled d p u
GivesUpSettled d p (Turn.Asks home (Ask.Remove u)) = IsSettled d p u
GivesUpSettled d p turn = Unit {0}
