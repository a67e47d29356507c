-- What contracts see of a page server, and what each keeps.
use Rattle.std.specs.Prelude.{ℕ, ◌+◌, ◌≤◌, List, [], ◌∷◌, All, refl}
use Rattle.std.specs.Coded.{Coded, code_by, coded×, coded_list, coded_ℕ}
use Rattle.uid_names.specs.Names.{ProcName}
use Rattle.uid_names.specs.Wires.{IsWire, wire_room}
use Rattle.uid_names.specs.contracts.ids.ProcId as proc_id
use Rattle.object_store.specs.declared.attributes.ObjectRow.{ObjectRow}
use Rattle.uid_names.specs.declared.limits.TheConstants.{VOLUME_ROOM}
use Rattle.object_store.specs.HomeStates.{HomeState, home_code}
use Rattle.object_store.specs.Kept.{IsHome}
use Rattle.lock_manager.specs.declared.grants.Grant.{Grant}
use Rattle.lock_manager.specs.contracts.grants.Grant as granted
use Rattle.lock_manager.specs.Tables.{Table, IsTable}
use Rattle.call_once.specs.Calls.{Call}
use Rattle.ring_messages.specs.Bodies.{Answer, body_of_answer}
use Rattle.ring_messages.specs.Ranges.{LiesWithin}
use Rattle.page_server.specs.Answers.{answer_code, IsCarried}
use Rattle.page_server.specs.Serving.{HomeSide, first_side}

-- a page server: the home side of its node, the tick of the last event at which it served, and the version of the frames
-- that it takes and sends
pub record ServerState : Type 0 where
  pub side : HomeSide
  pub tick : ℕ
  pub wire : ℕ

-- how it is stored
abbrev table_code : Coded Table
table_code = code_by (List Grant × ℕ) (coded× (coded_list granted.the_row.coded) coded_ℕ) (λ t. (t.grants, t.last)) (λ p. record { grants = p.0; last = p.1 }) (λ _. refl)

abbrev call_code : Coded (Call Answer)
call_code =
    code_by (ProcName × (ℕ × Answer)) (coded× proc_id.the_row.coded (coded× coded_ℕ answer_code))
    (λ call. (call.proc, (call.number, call.body))) (λ p. record { proc = p.0; number = p.1.0; body = p.1.1 }) (λ _. refl)

abbrev pub server_code : Coded ServerState
server_code =
    code_by (HomeState × (Table × (List (Call Answer) × (ℕ × ℕ)))) (coded× home_code (coded× table_code (coded× (coded_list call_code) (coded× coded_ℕ coded_ℕ))))
    (λ s. (s.side.home, (s.side.locks, (s.side.served, (s.tick, s.wire)))))
    (λ p. record { side = record { home = p.0; locks = p.1.0; served = p.1.1.0 }; tick = p.1.1.1.0; wire = p.1.1.1.1 }) (λ _. refl)

-- no stamp is above this one
abbrev pub AreStampedTo : ℕ → List ObjectRow → Type 0
AreStampedTo high [] = Unit {0}
AreStampedTo high (row ∷ rest) = (row.attr.stamp ≤ high) × AreStampedTo high rest

-- no room is above this one
abbrev pub AreRoomsWithin : ℕ → List ObjectRow → Type 0
AreRoomsWithin room [] = Unit {0}
AreRoomsWithin room (row ∷ rest) = (row.attr.room ≤ room) × AreRoomsWithin room rest

-- what a home is like that no request has reached
pub record IsBegun (home : HomeState) : Type 0 where
  pub counters : home.greatest ≤ VOLUME_ROOM
  pub stamps : AreStampedTo 1 home.objects

-- a page server at the start
abbrev pub first_server : HomeState → ℕ → ServerState
first_server home wire = record { side = first_side home; tick = 0; wire = wire }

-- what each home side keeps, whatever is asked of it: a home, a lock table, and answers that frames can carry
pub record IsSide (side : HomeSide) : Type 0 where
  pub home : IsHome side.home
  pub table : IsTable side.locks
  pub kept : All (λ call. IsCarried call.body) side.served

-- a home side all whose objects, and whose kept answers, lie within this room
pub record IsSideWithin (room : ℕ) (side : HomeSide) : Type 0 where
  pub rooms : AreRoomsWithin room side.home.objects
  pub kept : All (λ call. LiesWithin room (body_of_answer call.body)) side.served

-- how far a home side has counted where at each tick at most one number was given, of grants, of counters and of each
-- stamp
pub record IsCountedTo (tick : ℕ) (side : HomeSide) : Type 0 where
  pub grants : side.locks.last ≤ tick
  pub counters : side.home.greatest ≤ VOLUME_ROOM + tick
  pub stamps : AreStampedTo (1 + tick) side.home.objects

-- what each page server keeps
pub record IsServer (server : ServerState) : Type 0 where
  pub side : IsSide server.side
  pub counted : IsCountedTo server.tick server.side
  pub wire : IsWire server.wire
  pub within : IsSideWithin (wire_room server.wire) server.side
