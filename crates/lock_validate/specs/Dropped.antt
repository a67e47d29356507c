-- Which pages a call may drop.
use Rattle.std.specs.Prelude.{ℕ, List, [], ◌∷◌}
use Rattle.uid_names.specs.Names.{ObjectName}
use Rattle.fault_handler.specs.Desks.{DeskState}
use Rattle.fault_handler.specs.Drops.{MayDrop, anew_of}
use Rattle.lock_validate.specs.GrantDrops.{MayDropAt}
use Rattle.lock_validate.specs.Causes.{Cause}

-- a load or store drops one page at most, to make room where it is made, or made anew; an answer to a lock or a removal drops
-- those of an object that no process keeps; no other call drops any
abbrev pub MayDropSome : DeskState → ℕ → Cause → List (ObjectName × ℕ) → Type 0
MayDropSome d p (Cause.Accesses op) dropped = MayDrop d dropped
MayDropSome d p (Cause.PageCame a) dropped = MayDrop (anew_of d p a) dropped
MayDropSome d p (Cause.AnswerCame a) dropped = MayDropAt d a
MayDropSome d p c dropped = ⊥

abbrev pub MayDropPages : DeskState → ℕ → Cause → List (ObjectName × ℕ) → Type 0
MayDropPages d p c [] = Unit {0}
MayDropPages d p c (name ∷ names) = MayDropSome d p c (name ∷ names)
