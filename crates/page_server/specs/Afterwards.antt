-- What a request leaves as it was.
use Rattle.std.specs.Prelude.{ℕ, ◌≡◌, ◌≤◌, Some}
use Rattle.uid_names.specs.Names.{ProcName, ObjectName}
use Rattle.object_store.specs.declared.attributes.Attr.{Attr}
use Rattle.object_store.specs.HomeStates.{HomeState, attr_of}
use Rattle.lock_manager.specs.Grants.{grant_of}
use Rattle.call_once.specs.declared.served.Looked.TheVariants.{Fresh}
use Rattle.call_once.specs.Calls.{last_of, looked}
use Rattle.ring_messages.specs.Bodies.{Ask, Answer}
use Rattle.page_server.specs.Serving.{HomeSide, serve_of}

-- the number is above the last one of the process
abbrev pub IsNewNumber : HomeSide → ProcName → ℕ → Type 0
IsNewNumber side p number = looked number (last_of p side.served) ≡ Fresh

-- the request is answered so
abbrev pub IsTold : HomeSide → ProcName → ℕ → Ask → Answer → Type 0
IsTold side p number ask answer = (serve_of side p number ask).answer ≡ Some answer

-- the request changes nothing but the last numbers and answers
abbrev pub ChangesServed : HomeSide → ProcName → ℕ → Ask → Type 0
ChangesServed side p number ask = (serve_of side p number ask).side ≡ record side { served = (serve_of side p number ask).side.served }

-- q holds on u what it held before
abbrev pub HoldsAsBefore : ProcName → ObjectName → HomeSide → HomeSide → Type 0
HoldsAsBefore q u before after = grant_of q u after.locks.grants ≡ grant_of q u before.locks.grants

-- where u is there before and after, its stamp did not fall
abbrev pub KeepsStamp : ObjectName → HomeState → HomeState → Type 0
KeepsStamp u old new = (before after : Attr) → attr_of old u ≡ Some before → attr_of new u ≡ Some after → before.stamp ≤ after.stamp
