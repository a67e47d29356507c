-- The desk of a node: its cached pages, the stamps that it has seen, what it knows of objects, and for each of its
-- four processes the locks, the mappings, the open call, the load or store that is open, and the page that it moves.
use Rattle.std.specs.Prelude.{ℕ, ◌-◌, ◌≤◌, nat_le, ◌==◌, Bool, not, ◌&&◌, if◌then◌else◌, Option, None, List, [], ◌∷◌, slice_index_or, slice_set, unwrap_or, sum_by}
use Rattle.std.specs.List.{list_any}
use Rattle.uid_names.specs.Names.{ObjectName}
use Rattle.dom_history.specs.declared.deed.LockState.{LockState}
use Rattle.page_cache.specs.Caches.{Cached}
use Rattle.page_cache.specs.Numbers.{lesser}
use Rattle.version_stamps.specs.declared.stamps.Stamp.{Stamp}
use Rattle.version_stamps.specs.Stamps.{stamp_of}
use Rattle.address_map.specs.declared.mapping.Mapping.{Mapping}
use Rattle.fault_handler.specs.declared.entries.LockEntry.{LockEntry}
use Rattle.fault_handler.specs.declared.lengths.Known.{Known}
use Rattle.fault_handler.specs.declared.transits.Transit.{Transit}
use Rattle.fault_handler.specs.declared.tasks.Task.{Task}
use Rattle.fault_handler.specs.declared.open_call.OpenCall.{OpenCall}
use Rattle.fault_handler.specs.Entries.{entry_of, state_in, grant_in, keeps, keeps_writing}
use Rattle.fault_handler.specs.Transits.{is_moving, is_coming, moved_page}

pub record DeskState : Type 0 where
  pub node : ℕ
  pub nodes : ℕ
  pub cache : Cached
  pub seen : List Stamp
  pub known : List Known
  pub entries : List (List LockEntry)
  pub maps : List (List Mapping)
  pub calls : List (Option OpenCall)
  pub tasks : List (Option Task)
  pub moving : List (Option Transit)

-- the processes of a node
abbrev pub procs : List ℕ
procs = 1 ∷ 2 ∷ 3 ∷ 4 ∷ []

-- what is kept for a process, of the four
abbrev pub at : {A : Type 0} → List A → ℕ → A → A
at kept p none = slice_index_or kept (p - 1) none

-- the four, with another for a process
abbrev pub put_at : {A : Type 0} → List A → ℕ → A → List A
put_at kept p new = slice_set kept (p - 1) new

abbrev pub entries_of : DeskState → ℕ → List LockEntry
entries_of d p = at d.entries p []

abbrev pub maps_of : DeskState → ℕ → List Mapping
maps_of d p = at d.maps p []

abbrev pub open_call_of : DeskState → ℕ → Option OpenCall
open_call_of d p = at d.calls p None

abbrev pub task_of : DeskState → ℕ → Option Task
task_of d p = at d.tasks p None

abbrev pub moving_of : DeskState → ℕ → Option Transit
moving_of d p = at d.moving p None

-- a process's state on u
abbrev pub state_of : DeskState → ℕ → ObjectName → LockState
state_of d p u = state_in (entry_of u (entries_of d p))

-- a process's entry of u
abbrev pub entry_at : List (List LockEntry) → ℕ → ObjectName → Option LockEntry
entry_at entries p u = entry_of u (at entries p [])

-- whether another process of the node keeps u
abbrev pub others_keep : List (List LockEntry) → ℕ → ObjectName → Bool
others_keep entries p u = list_any (λ q. not (q == p) && keeps (entry_at entries q u)) procs

-- whether a process of the node keeps u
abbrev pub any_keeps : List (List LockEntry) → ObjectName → Bool
any_keeps entries u = list_any (λ q. keeps (entry_at entries q u)) procs

-- whether a process of the node keeps u in a mode that writes
abbrev pub any_writes : List (List LockEntry) → ObjectName → Bool
any_writes entries u = list_any (λ q. keeps_writing (entry_at entries q u)) procs

-- whether another process keeps u in a mode that writes
abbrev pub others_write : List (List LockEntry) → ℕ → ObjectName → Bool
others_write entries p u = list_any (λ q. not (q == p) && keeps_writing (entry_at entries q u)) procs

-- the grant of the process with the lowest number, of these, that keeps u in a mode that writes
abbrev pub grant_among : List (List LockEntry) → ObjectName → List ℕ → ℕ
grant_among entries u [] = 0
grant_among entries u (q ∷ qs) =
    if keeps_writing (entry_at entries q u) then grant_in (entry_at entries q u) else grant_among entries u qs

-- the grant under which the node writes u
abbrev pub writing_grant : List (List LockEntry) → ObjectName → ℕ
writing_grant entries u = grant_among entries u procs

-- whether another process has this page in transit from its home
abbrev pub others_fetch : List (Option Transit) → ℕ → ObjectName → ℕ → Bool
others_fetch moving p u k = list_any (λ q. not (q == p) && is_coming u k (at moving q None)) procs

-- the lowest page of u that another process, of these, has in transit, either way
abbrev pub transit_among : List (Option Transit) → ℕ → ObjectName → List ℕ → Option ℕ
transit_among moving p u [] = None
transit_among moving p u (q ∷ qs) =
    lesser (if q == p then None else moved_page u (at moving q None)) (transit_among moving p u qs)

abbrev pub other_transit : List (Option Transit) → ℕ → ObjectName → Option ℕ
other_transit moving p u = transit_among moving p u procs

-- whether a process of the node has this page in transit, either way
abbrev pub is_in_transit_there : List (Option Transit) → ObjectName → ℕ → Bool
is_in_transit_there moving u k = list_any (λ q. is_moving u k (at moving q None)) procs

-- the number is that of one of so many nodes
abbrev pub IsNode : ℕ → ℕ → Type 0
IsNode nodes home = (1 ≤ home) × (home ≤ nodes)

abbrev pub is_node : ℕ → ℕ → Bool
is_node nodes home = nat_le 1 home && nat_le home nodes

-- the stamp on which a write of u is based: the seen one
abbrev pub base_of : List Stamp → ObjectName → ℕ
base_of seen u = unwrap_or (stamp_of u seen) 0

-- how many of something the four processes have
abbrev pub count_of : (Option Transit → ℕ) → List (Option Transit) → ℕ
count_of count moving = sum_by (λ q. count (at moving q None)) procs
