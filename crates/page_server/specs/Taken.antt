-- Writes that a home takes, and on which base.
use Rattle.std.specs.Prelude.{ℕ, ◌≡◌, ◌+◌, ◌*◌, ◌<◌, ◌≤◌, true, List, Some}
use Rattle.std.specs.Option.{option_map}
use Rattle.uid_names.specs.Names.{ProcName, ObjectName}
use Rattle.uid_names.specs.declared.limits.TheConstants.{PAGE_BYTES}
use Rattle.object_store.specs.declared.attributes.Attr.{Attr}
use Rattle.object_store.specs.HomeStates.{HomeState, attr_of}
use Rattle.lock_manager.specs.Tables.{Table}
use Rattle.ring_messages.specs.Bodies.{Ask, Answer}
use Rattle.page_server.specs.Decisions.{Decision, decide, is_granted}
use Rattle.page_server.specs.Outcomes.{write_in}

-- the home takes this write, and raises the stamp by one
abbrev pub Takes : HomeState → Table → ProcName → Ask → Attr → Type 0
Takes home locks p ask before = (decide home locks p ask).answer ≡ Answer.Stored (before.stamp + 1)

-- it takes a page within the room of what is there, under a grant of the process's node and on the stamp
abbrev pub TakesPages : HomeState → Table → ProcName → Type 0
TakesPages home locks p =
    (u : ObjectName) (page grant base : ℕ) (bytes : List ℕ) (before : Attr) → attr_of home u ≡ Some before → page < before.room → is_granted locks grant u p.node ≡ true → base ≡ before.stamp
    → Takes home locks p (Ask.PageOut u page grant base bytes) before

-- it takes a length that fits the room of what is there, under such a grant and on the stamp
abbrev pub TakesLengths : HomeState → Table → ProcName → Type 0
TakesLengths home locks p =
    (u : ObjectName) (length grant base : ℕ) (before : Attr) → attr_of home u ≡ Some before → length ≤ PAGE_BYTES * before.room → is_granted locks grant u p.node ≡ true → base ≡ before.stamp
    → Takes home locks p (Ask.AttrOut u length grant base) before

-- a write to what is there that the decision took was on the stamp, and raised it by one
abbrev pub TookOnStamp : HomeState → Ask → Decision → Type 0
TookOnStamp home ask d =
    (u : ObjectName) (base stamp : ℕ) (before : Attr) → write_in ask ≡ Some (u, base) → attr_of home u ≡ Some before → d.answer ≡ Answer.Stored stamp
    → (base ≡ before.stamp) × (stamp ≡ before.stamp + 1) × (option_map (λ (after : Attr). after.stamp) (attr_of d.home u) ≡ Some stamp)
