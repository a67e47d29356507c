-- What changes in a desk. Each machine call is made of these.
use Rattle.std.specs.Prelude.{ℕ, ◌+◌, ◌-◌, Bool, true, false, Option, Some, None, List, ◌∷◌}
use Rattle.uid_names.specs.Names.{ObjectName}
use Rattle.dom_history.specs.declared.deed.LockState.{LockState}
use Rattle.page_cache.specs.Caches.{Resident}
use Rattle.page_cache.specs.Changes.{without_page, without_object, used}
use Rattle.version_stamps.specs.Stamps.{stamp_of, with_stamp, without_stamp, raised}
use Rattle.address_map.specs.declared.mapping.Mapping.{Mapping}
use Rattle.fault_handler.specs.declared.lengths.Known.{Known}
use Rattle.fault_handler.specs.declared.tasks.Task.{Task}
use Rattle.fault_handler.specs.declared.transits.Transit.{Transit}
use Rattle.fault_handler.specs.declared.open_call.OpenCall.{OpenCall}
use Rattle.fault_handler.specs.declared.open_call.OpenCall.TheVariants.{Access as AccessCall}
use Rattle.fault_handler.specs.Entries.{entries_after, entries_noted}
use Rattle.fault_handler.specs.Lengths.{known_of, with_known, known_after, grown, sent_length}
use Rattle.fault_handler.specs.ShownPages.{fresh_page, changed_page, stored, as_sent, settled}
use Rattle.fault_handler.specs.Transits.{coming, going}
use Rattle.fault_handler.specs.Tasks.{page_of}
use Rattle.fault_handler.specs.Desks.{DeskState, put_at, entries_of, moving_of}

-- the desk with other resident pages
abbrev pub with_pages : DeskState → List Resident → DeskState
with_pages d pages = record d { cache = record d.cache { pages = pages } }

-- a page was used
abbrev pub with_used : DeskState → ObjectName → ℕ → DeskState
with_used d u k = with_pages d (used d.cache.pages u k)

-- bytes were stored in a resident page
abbrev pub with_stored : DeskState → ObjectName → ℕ → ℕ → List ℕ → DeskState
with_stored d u k offset bytes = with_pages d (stored u k offset bytes d.cache.pages)

-- a page was dropped
abbrev pub with_dropped : DeskState → ObjectName → ℕ → DeskState
with_dropped d u k = with_pages d (without_page d.cache.pages u k)

-- all pages of an object were dropped
abbrev pub with_no_page : DeskState → ObjectName → DeskState
with_no_page d u = with_pages d (without_object d.cache.pages u)

-- a store ended there
abbrev pub with_end : DeskState → ObjectName → ℕ → DeskState
with_end d u end = record d { known = known_after (grown end) (known_of u d.known) d.known }

-- the rows of what is known once a length was sent: the home took it, or not
abbrev pub known_sent : Bool → ObjectName → ℕ → List Known → List Known
known_sent true u length known = known_after (sent_length length) (known_of u known) known
known_sent false u length known = known

-- a length that was sent is settled
abbrev pub with_length_done : DeskState → ObjectName → ℕ → Bool → DeskState
with_length_done d u length taken = record d { known = known_sent taken u length d.known }

-- a row of what is known of an object was set
abbrev pub with_known_row : DeskState → Known → DeskState
with_known_row d row = record d { known = with_known row d.known }

-- a stamp was set
abbrev pub with_seen : DeskState → ObjectName → ℕ → DeskState
with_seen d u stamp = record d { seen = with_stamp (record { uid = u; stamp = stamp }) d.seen }

-- the seen stamp became the greater of both
abbrev pub with_raised : DeskState → ObjectName → ℕ → DeskState
with_raised d u stamp = with_seen d u (raised stamp (stamp_of u d.seen))

-- a stamp was forgotten
abbrev pub with_forgotten : DeskState → ObjectName → DeskState
with_forgotten d u = record d { seen = without_stamp u d.seen }

-- a process asks for the page of its load or store, into a frame that is reserved
abbrev pub with_fetch : DeskState → ℕ → Task → DeskState
with_fetch d p task =
    record d {
      cache = record d.cache { reserved = d.cache.reserved + 1 };
      calls = put_at d.calls p (Some AccessCall);
      tasks = put_at d.tasks p (Some task);
      moving = put_at d.moving p (coming task.uid (page_of task));
    }

-- a process sends a page home
abbrev pub with_sent_page : DeskState → ℕ → ObjectName → ℕ → DeskState
with_sent_page d p u k =
    record d {
      cache = record d.cache { pages = changed_page u k as_sent d.cache.pages };
      moving = put_at d.moving p (going u k);
    }

-- a process sends a page home to make room for that of its load or store
abbrev pub with_eviction : DeskState → ℕ → Task → ObjectName → ℕ → DeskState
with_eviction d p task u k =
    record (with_sent_page d p u k) { calls = put_at d.calls p (Some AccessCall); tasks = put_at d.tasks p (Some task) }

-- a page that is on its way home was sent again
abbrev pub with_sent_again : DeskState → ObjectName → ℕ → DeskState
with_sent_again d u k = with_pages d (changed_page u k as_sent d.cache.pages)

-- a process's load or store is open no more, and it moves no page
abbrev pub with_task_ended : DeskState → ℕ → DeskState
with_task_ended d p = record d { calls = put_at d.calls p None; tasks = put_at d.tasks p None; moving = put_at d.moving p None }

-- the page came that a load or store asked for
abbrev pub with_arrival : DeskState → ℕ → ObjectName → ℕ → List ℕ → DeskState
with_arrival d p u k bytes =
    record (with_task_ended d p) { cache = record d.cache { reserved = d.cache.reserved - 1; pages = fresh_page u k bytes ∷ d.cache.pages } }

-- it will not come
abbrev pub with_loss : DeskState → ℕ → DeskState
with_loss d p = record (with_task_ended d p) { cache = record d.cache { reserved = d.cache.reserved - 1 } }

-- the page that made room is on its way no more
abbrev pub with_room_settled : DeskState → ℕ → ObjectName → ℕ → Bool → DeskState
with_room_settled d p u k taken =
    record (with_task_ended d p) { cache = record d.cache { pages = changed_page u k (settled taken) d.cache.pages } }

-- the pages once that which a process sent home is on its way no more
abbrev pub settled_by : Option Transit → Bool → List Resident → List Resident
settled_by None taken pages = pages
settled_by (Some t) taken pages = changed_page t.uid t.page (settled taken) pages

-- the transit of the page that a process sent home ended, if it had one: the home took it, or not
abbrev pub with_page_done : DeskState → ℕ → Bool → DeskState
with_page_done d p taken =
    record d { cache = record d.cache { pages = settled_by (moving_of d p) taken d.cache.pages }; moving = put_at d.moving p None }

-- a process's open call, other than that of a load or store
abbrev pub with_call : DeskState → ℕ → Option OpenCall → DeskState
with_call d p call = record d { calls = put_at d.calls p call }

-- a process's mappings
abbrev pub with_maps : DeskState → ℕ → List Mapping → DeskState
with_maps d p maps = record d { maps = put_at d.maps p maps }

-- a process's state on an object
abbrev pub with_state : DeskState → ℕ → ObjectName → LockState → ℕ → DeskState
with_state d p u s grant = record d { entries = put_at d.entries p (entries_after u s grant (entries_of d p)) }

-- its release or removal was sent
abbrev pub with_note : DeskState → ℕ → ObjectName → DeskState
with_note d p u = record d { entries = put_at d.entries p (entries_noted u (entries_of d p)) }
