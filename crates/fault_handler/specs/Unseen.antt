-- What only private functions and the views of private parts are said by: no public clause cites it.
use Rattle.std.specs.Prelude.{◌≡◌, ◌-◌, ℕ, Bool, true, false, not, is_some, nat_lt, length, [], ◌∷◌, Option, Some, None, IfSome, List, map, take, drop}
use Rattle.std.specs.List.{All}
use Rattle.uid_names.specs.Names.{ObjectName}
use Rattle.uid_names.specs.declared.limits.TheConstants.{NODE_PROCESSES}
use Rattle.page_cache.specs.Caches.{Resident, Cached, page_at}
use Rattle.fault_handler.specs.declared.tasks.Work.{Work}
use Rattle.fault_handler.specs.declared.tasks.Work.TheVariants.{Load, Store}
use Rattle.fault_handler.specs.declared.access.Access.{Access}
use Rattle.fault_handler.specs.declared.access.Access.TheVariants.{Hit, Refuse}
use Rattle.fault_handler.specs.declared.access.Local.{Local}
use Rattle.fault_handler.specs.declared.access.Local.TheVariants.{Done, Refused, Misses}
use Rattle.fault_handler.specs.declared.transits.Transit.{Transit}
use Rattle.fault_handler.specs.Tasks.{page_of}
use Rattle.fault_handler.specs.ShownPages.{settled, fresh_page}
use Rattle.fault_handler.specs.Desks.{DeskState, put_at, task_of, base_of, is_in_transit_there}
use Rattle.fault_handler.specs.Outcomes.{Moved, Gives, as_access}
use Rattle.fault_handler.specs.Accesses.{Accessed, DeskOp, Comes, page_by, page_access}
use Rattle.fault_handler.specs.Invariant.{IsAllowed}
use Rattle.ring_messages.specs.Bodies.{Answer}
use Rattle.ring_messages.specs.declared.body.Body.{Body}
use Rattle.ring_messages.specs.declared.body.Body.TheVariants.{Page, Stored, Stale}
use Rattle.fault_handler.specs.LockCalls.{LockCall, lock_answer}
use Rattle.fault_handler.specs.PageReplies.{PageAnswer, page_answer, page_by_stamp, room_taken}

-- a page as a desk shows it: which frame it is in is not told, nor the frame's mark that it is in transit
abbrev pub bare : Resident → Resident
bare r = record r { frame = 0; flags = record r.flags { transit = false } }

abbrev pub shown : Cached → Cached
shown c = record c { pages = map bare c.pages }

-- the shown pages, and the page that each process moves
pub record Paged : Type 0 where
  pub cache : Cached
  pub moving : List (Option Transit)

abbrev pub paged : Cached → List (Option Transit) → Paged
paged c moving = record { cache = shown c; moving = moving }

-- with other resident pages
abbrev pub repaged : Paged → List Resident → Paged
repaged p pages = record p { cache = record p.cache { pages = pages } }

-- a page came into its reserved frame, and is in transit no more
abbrev pub arrived : Paged → ℕ → ObjectName → ℕ → List ℕ → Paged
arrived paged p u k bytes = record {
  cache = record paged.cache { reserved = paged.cache.reserved - 1; pages = fresh_page u k bytes ∷ paged.cache.pages };
  moving = put_at paged.moving p None;
}

-- the mark of a page's frame says whether a process moves it
abbrev pub IsMarkedBy : List (Option Transit) → Resident → Type 0
IsMarkedBy moving r = r.flags.transit ≡ is_in_transit_there moving r.uid r.page

-- each page is marked so
abbrev pub AreMarked : List Resident → List (Option Transit) → Type 0
AreMarked pages moving = All (IsMarkedBy moving) pages

-- the same, of what is moved by the four processes
pub record AreFour (pages : List Resident) (moving : List (Option Transit)) : Type 0 where
  pub four : length moving ≡ NODE_PROCESSES
  pub marked : AreMarked pages moving

-- sent home: a mark is set
abbrev pub marked_sent : Resident → Resident
marked_sent r = record r { flags = record r.flags { sent = true; transit = true } }

-- no longer on its way: it is taken away
abbrev pub marked_settled : Bool → Resident → Resident
marked_settled taken r = record r { flags = record (settled taken r).flags { transit = false } }

-- the bytes that a load takes from its page; a store takes none
abbrev pub loaded_from : List ℕ → ℕ → Work → Option (List ℕ)
loaded_from page start (Load count) = Some (take count (drop start page))
loaded_from page start (Store bytes) = None

-- how many bytes these are
abbrev pub loaded_size : Work → ℕ
loaded_size (Load count) = count
loaded_size (Store bytes) = 0

-- the desk and the access are those that are given
abbrev pub GivesTo : DeskState → Moved → Access → Type 0
GivesTo new m access = Gives as_access new m access

-- they are those to which an access comes
abbrev pub ComesTo : ℕ → DeskState → Accessed → Access → Type 0
ComesTo p new accessed access = Comes p (λ m. Gives as_access new m access) accessed

-- they are those of the open load or store of a process, whose page came with this stamp
abbrev pub ComesOfPage : DeskState → DeskState → ℕ → ℕ → List ℕ → Access → Type 0
ComesOfPage old new p stamp bytes access = IfSome (task_of old p) (λ task. GivesTo new (page_by_stamp old p task stamp bytes (nat_lt stamp (base_of old.seen task.uid))) access)

-- and those, where its home took the page that makes room, which has this stamp there
abbrev pub ComesOfRoom : DeskState → DeskState → ℕ → Transit → ℕ → Access → Type 0
ComesOfRoom old new p t stamp access =
    IfSome (task_of old p) (λ task. IfSome (page_at old.cache.pages t.uid t.page) (λ r. ComesTo p new (page_access (room_taken old p r stamp) p task) access))

-- whether a body answers a page-in, where a page comes, or else a page-out
abbrev pub fits_way : Bool → Body → Bool
fits_way inward (Page stamp bytes) = inward
fits_way inward (Stored stamp) = not inward
fits_way inward (Stale stamp) = not inward
fits_way inward _ = false

-- whether it answers a lock, an unlock, a removal, or what is sent before one
abbrev pub fits_lock : Option LockCall → Option Answer → Bool
fits_lock (Some call) (Some answer) = is_some (lock_answer call answer)
fits_lock _ _ = false

-- what an answer says to a load or store
abbrev pub said_to : DeskState → ℕ → Option Answer → Option PageAnswer
said_to d p None = None
said_to d p (Some answer) = page_answer d p answer

-- what the tests and the resident pages of a desk alone come to: a reply, or a load or store whose page is not resident
abbrev pub IsLocal : ℕ → DeskState → DeskState → Accessed → Local → Type 0
IsLocal p old new accessed (Done reply) = ComesTo p new accessed (Hit reply [])
IsLocal p old new accessed (Refused reply) = ComesTo p new accessed (Refuse reply [])
IsLocal p old new accessed (Misses task) =
    (accessed ≡ page_by old p task None) × (new ≡ old) × (page_at old.cache.pages task.uid (page_of task) ≡ None) × IsAllowed old.entries p task

-- only a load or store has a page
abbrev pub MayMiss : DeskOp → Local → Type 0
MayMiss (DeskOp.Loads spot count) local = Unit {0}
MayMiss (DeskOp.Stores spot bytes) local = Unit {0}
MayMiss o (Misses task) = ⊥
MayMiss o local = Unit {0}
