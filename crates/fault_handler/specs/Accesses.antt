-- Loads, stores, lengths and mappings at a desk: what begins, or goes on after a wait.
use Rattle.std.specs.Prelude.{ℕ, ◌+◌, ◌*◌, nat_lt, Bool, true, false, is_some, Option, Some, None, List, [], ◌∷◌, length, take, drop, Result, Ok, Err}
use Rattle.std.specs.Option.{ForSome}
use Rattle.uid_names.specs.Names.{ObjectName}
use Rattle.dom_history.specs.declared.op.Spot.{Spot}
use Rattle.dom_history.specs.declared.op.Spot.TheVariants.{Of, Addr}
use Rattle.dom_history.specs.declared.op.Op.{Op}
use Rattle.dom_history.specs.declared.op.Op.TheVariants as ops
use Rattle.dom_history.specs.declared.op.Reply.{Reply}
use Rattle.dom_history.specs.declared.op.Reply.TheVariants.{Fine, Bytes, Size, At, NoLock, WrongMode, PastRoom, PastEnd, TooManyMaps, NoSegment, NotMapped}
use Rattle.dom_history.specs.Locks.{is_held}
use Rattle.dom_history.specs.Replies.{may_write}
use Rattle.page_cache.specs.Caches.{Resident, page_at, free_count}
use Rattle.address_map.specs.declared.map.MapRefusal.{MapRefusal}
use Rattle.address_map.specs.declared.map.MapRefusal.TheVariants as refusals
use Rattle.uid_names.specs.Segments.{segments}
use Rattle.address_map.specs.Mappings.{mapping_of, mapping_at, target_in, without_mapping}
use Rattle.address_map.specs.Runs.{lowest_run}
use Rattle.address_map.specs.Maps.{is_full, map_answer, mappings_after}
use Rattle.ring_messages.specs.Bodies.{Ask}
use Rattle.uid_names.specs.declared.limits.TheConstants.{PAGE_BYTES}
use Rattle.fault_handler.specs.declared.tasks.Work.{Work}
use Rattle.fault_handler.specs.declared.tasks.Work.TheVariants.{Load, Store}
use Rattle.fault_handler.specs.declared.tasks.Task.{Task}
use Rattle.fault_handler.specs.Lengths.{known_of, room_of, length_of}
use Rattle.fault_handler.specs.Entries.{grant_in}
use Rattle.fault_handler.specs.Tasks.{page_of, start_of}
use Rattle.fault_handler.specs.Desks.{DeskState, maps_of, state_of, entry_at, others_fetch, writing_grant, base_of}
use Rattle.fault_handler.specs.Outcomes.{Turn, Moved, ended, waiting}
use Rattle.fault_handler.specs.Victims.{Victim, MayMakeRoom, named_victim}
use Rattle.fault_handler.specs.Changes.{with_used, with_stored, with_dropped, with_end, with_fetch, with_eviction, with_maps}

-- an operation that the process's own node answers, by its pages and mappings
pub data DeskOp : Type 0 where
  Loads : (spot : Spot) (count : ℕ) → DeskOp
  Stores : (spot : Spot) (bytes : List ℕ) → DeskOp
  Measures : (uid : ObjectName) → DeskOp
  Maps : (uid : ObjectName) → DeskOp
  Unmaps : (uid : ObjectName) → DeskOp

abbrev pub desk_op : Op → Option DeskOp
desk_op (ops.Load spot count) = Some (DeskOp.Loads spot count)
desk_op (ops.Store spot bytes) = Some (DeskOp.Stores spot bytes)
desk_op (ops.Length u) = Some (DeskOp.Measures u)
desk_op (ops.Map u) = Some (DeskOp.Maps u)
desk_op (ops.Unmap u) = Some (DeskOp.Unmaps u)
desk_op _ = None

-- what an access comes to: it is settled, or room has to be made for the page of its load or store
pub data Accessed : Type 0 where
  Settled : (moved : Moved) → Accessed
  NeedsRoom : (desk : DeskState) (task : Task) → Accessed

abbrev pub replied : DeskState → Reply → Accessed
replied d reply = Accessed.Settled (ended d reply)

-- a page that a process sends home under its own grant
abbrev pub own_page_out : DeskState → ℕ → ObjectName → ℕ → List ℕ → Ask
own_page_out d p u k bytes = Ask.PageOut u k (grant_in (entry_at d.entries p u)) (base_of d.seen u) bytes

-- a page sent home: under the grant under which its node writes the object, with the seen stamp as base
abbrev pub page_out : DeskState → ObjectName → ℕ → List ℕ → Ask
page_out d u k bytes = Ask.PageOut u k (writing_grant d.entries u) (base_of d.seen u) bytes

-- the load or store, at its page
abbrev pub performed : DeskState → Task → Work → Resident → Moved
performed d task (Load count) r = ended (with_used d task.uid (page_of task)) (Bytes (take count (drop (start_of task) r.bytes)))
performed d task (Store bytes) r =
    ended (with_end (with_stored d task.uid (page_of task) (start_of task) bytes) task.uid (task.offset + length bytes)) Fine

-- the page is asked for, where a frame is free
abbrev pub fetched : DeskState → ℕ → Task → List (ObjectName × ℕ) → Moved
fetched d p task dropped =
    record { desk = with_fetch d p task; turn = Turn.Asks task.uid.home (Ask.PageIn task.uid (page_of task)); dropped = dropped }

-- room is made for it: a page is dropped, or sent home
abbrev pub room_made : DeskState → ℕ → Task → Victim → Moved
room_made d p task (Victim.Drops u k) = fetched (with_dropped d u k) p task ((u, k) ∷ [])
room_made d p task (Victim.SendsHome r) =
    record { desk = with_eviction d p task r.uid r.page; turn = Turn.Asks r.uid.home (page_out d r.uid r.page r.bytes); dropped = [] }

-- the page is not resident: whether a frame is free
abbrev pub frame_by : DeskState → ℕ → Task → Bool → Accessed
frame_by d p task true = Accessed.Settled (fetched d p task [])
frame_by d p task false = Accessed.NeedsRoom d task

-- whether another process has it in transit from its home
abbrev pub missed_by : DeskState → ℕ → Task → Bool → Accessed
missed_by d p task true = Accessed.Settled (waiting d task.uid (page_of task))
missed_by d p task false = frame_by d p task (nat_lt 0 (free_count d.cache))

abbrev pub page_by : DeskState → ℕ → Task → Option Resident → Accessed
page_by d p task (Some r) = Accessed.Settled (performed d task task.work r)
page_by d p task None = missed_by d p task (others_fetch d.moving p task.uid (page_of task))

-- the load or store, its local tests passed
abbrev pub page_access : DeskState → ℕ → Task → Accessed
page_access d p task = page_by d p task (page_at d.cache.pages task.uid (page_of task))

abbrev pub task_at : ObjectName → ℕ → Work → Task
task_at u offset work = record { uid = u; offset = offset; work = work }

-- the object and the offset of a spot; None where it is not mapped
abbrev pub target_of : DeskState → ℕ → Spot → Option (ObjectName × ℕ)
target_of d p (Of u offset) = Some (u, offset)
target_of d p (Addr address) = target_in address (mapping_at address (maps_of d p))

-- whether the process is Held, and whether the range ends past the length
abbrev pub load_by : DeskState → ℕ → Task → Bool → Bool → Accessed
load_by d p task false past = replied d NoLock
load_by d p task true true = replied d PastEnd
load_by d p task true false = page_access d p task

abbrev pub load_at : DeskState → ℕ → ℕ → Option (ObjectName × ℕ) → Accessed
load_at d p count None = replied d NotMapped
load_at d p count (Some (u, offset)) =
    load_by d p (task_at u offset (Load count)) (is_held (state_of d p u)) (nat_lt (length_of (known_of u d.known)) (offset + count))

-- whether the process is Held, whether in a mode that writes, and whether the range ends past the room
abbrev pub store_by : DeskState → ℕ → Task → Bool → Bool → Bool → Accessed
store_by d p task false writes past = replied d NoLock
store_by d p task true false past = replied d WrongMode
store_by d p task true true true = replied d PastRoom
store_by d p task true true false = page_access d p task

abbrev pub store_at : DeskState → ℕ → List ℕ → Option (ObjectName × ℕ) → Accessed
store_at d p bytes None = replied d NotMapped
store_at d p bytes (Some (u, offset)) =
    store_by d p (task_at u offset (Store bytes)) (is_held (state_of d p u)) (may_write (state_of d p u)) (nat_lt (PAGE_BYTES * room_of (known_of u d.known)) (offset + length bytes))

abbrev pub length_by : DeskState → ObjectName → Bool → Accessed
length_by d u false = replied d NoLock
length_by d u true = replied d (Size (length_of (known_of u d.known)))

-- the reply to a Map, by the answer of the address space
abbrev pub map_reply : Result (ℕ × Bool) MapRefusal → Reply
map_reply (Ok (address, fresh)) = At address fresh
map_reply (Err refusals.TooManyMaps) = TooManyMaps
map_reply (Err refusals.NoSegment) = NoSegment

-- a mapping of so many segments
abbrev pub mapped : DeskState → ℕ → ObjectName → ℕ → Accessed
mapped d p u count =
    replied
    (with_maps d p (mappings_after u count (mapping_of u (maps_of d p)) (is_full (maps_of d p)) (lowest_run count (maps_of d p)) (maps_of d p)))
    (map_reply (map_answer (mapping_of u (maps_of d p)) (is_full (maps_of d p)) (lowest_run count (maps_of d p))))

abbrev pub map_by : DeskState → ℕ → ObjectName → Bool → Accessed
map_by d p u false = replied d NoLock
map_by d p u true = mapped d p u (segments (room_of (known_of u d.known)))

abbrev pub unmap_by : DeskState → ℕ → ObjectName → Bool → Accessed
unmap_by d p u false = replied d NotMapped
unmap_by d p u true = replied (with_maps d p (without_mapping u (maps_of d p))) Fine

-- an access begins, or goes on
abbrev pub access_of : DeskState → ℕ → DeskOp → Accessed
access_of d p (DeskOp.Loads spot count) = load_at d p count (target_of d p spot)
access_of d p (DeskOp.Stores spot bytes) = store_at d p bytes (target_of d p spot)
access_of d p (DeskOp.Measures u) = length_by d u (is_held (state_of d p u))
access_of d p (DeskOp.Maps u) = map_by d p u (is_held (state_of d p u))
access_of d p (DeskOp.Unmaps u) = unmap_by d p u (is_some (mapping_of u (maps_of d p)))

-- what holds of what an access comes to, where room is made as the cache names it
abbrev pub Comes : ℕ → (Moved → Type 0) → Accessed → Type 0
Comes p P (Accessed.Settled m) = P m
Comes p P (Accessed.NeedsRoom d task) = ForSome (named_victim d) (λ victim. P (room_made d p task victim))

-- what holds of it however room is made
abbrev pub Always : ℕ → (Moved → Type 0) → Accessed → Type 0
Always p P (Accessed.Settled m) = P m
Always p P (Accessed.NeedsRoom d task) = (victim : Victim) → MayMakeRoom d victim → P (room_made d p task victim)
