-- Numbers that a decision gives: each is above all that were given, and at most the greatest from then on.
use Rattle.std.specs.Prelude.{ℕ, ◌≡◌, ◌<◌, ◌≤◌}
use Rattle.uid_names.specs.Names.{ObjectName}
use Rattle.uid_names.specs.declared.mode.ObjKind.{ObjKind}
use Rattle.object_store.specs.HomeStates.{HomeState}
use Rattle.lock_manager.specs.Tables.{Table}
use Rattle.ring_messages.specs.Bodies.{Answer}
use Rattle.page_server.specs.Decisions.{Decision}

-- an object that the decision makes has a counter that was not given before
abbrev pub MakesNewOnes : HomeState → Decision → Type 0
MakesNewOnes home d = (u : ObjectName) → d.answer ≡ Answer.Made u → (home.greatest < u.counter) × (u.counter ≤ d.home.greatest)

-- a grant that the decision gives has a number that was not given before
abbrev pub GrantsNewOnes : Table → Decision → Type 0
GrantsNewOnes locks d =
    (grant stamp : ℕ) (kind : ObjKind) (room length : ℕ) → d.answer ≡ Answer.Granted grant stamp kind room length → (locks.last < grant) × (grant ≤ d.locks.last)
