-- What is left of a stream's work on an object that is open.
use Rattle.std.specs.Prelude.{◌≡◌, ℕ, ◌+◌, ◌<◌, ◌≤◌, nat_le, Bool, true, false, Option, Some, None, List, [], ◌++◌, length, take, drop, IfSome}
use Rattle.uid_names.specs.declared.limits.TheConstants.{PAGE_BYTES}
use Rattle.uid_names.specs.declared.mode.Mode.{Mode}
use Rattle.uid_names.specs.declared.mode.Mode.TheVariants as modes
use Rattle.dom_history.specs.declared.op.Op.{Op}
use Rattle.dom_history.specs.declared.op.Op.TheVariants as ops
use Rattle.dom_history.specs.declared.op.Spot.TheVariants.{Addr}
use Rattle.naming_tree.specs.Entering.{pages}
use Rattle.naming_tree.specs.Sessions.{fine}
use Rattle.mapped_streams.specs.declared.step.StreamResult.{StreamResult}
use Rattle.mapped_streams.specs.declared.step.StreamResult.TheVariants.{Fine}
use Rattle.dom_history.specs.declared.op.Reply.{Reply}
use Rattle.dom_history.specs.declared.op.Reply.TheVariants.{Bytes, Fine as Done}
use Rattle.mapped_streams.specs.declared.mapped.Mapped.{Mapped}
use Rattle.mapped_streams.specs.declared.gathered.Gathered.{Gathered}
use Rattle.mapped_streams.specs.declared.work.Side.{Side}
use Rattle.mapped_streams.specs.declared.work.Side.TheVariants.{Before, Behind}
use Rattle.mapped_streams.specs.declared.work.Work.{Work}
use Rattle.mapped_streams.specs.declared.work.Work.TheVariants.{Read, Append, Copy}
use Rattle.mapped_streams.specs.Pages.{IsMapped, bytes_in, pages_from, page_load, loads_from, page_store, end_of, room_at, store_before, store_behind}
use Rattle.mapped_streams.specs.Gathering.{come_to, gathered_with, IsGathered}
use Rattle.mapped_streams.specs.Dialogues.{Dialogue}
use Rattle.mapped_streams.specs.Streams.{ask, shutting, loading, storing, copying}

-- how its object is locked
abbrev pub mode_of : Work → Mode
mode_of (Read page gathered) = modes.Read
mode_of (Append text side) = modes.Write
mode_of (Copy source page loaded) = modes.Write

-- what it comes to
abbrev pub come_of : Work → StreamResult
come_of (Read page gathered) = come_to gathered
come_of (Append text side) = Fine
come_of (Copy source page loaded) = Fine

-- the stores of a text that are left
abbrev pub stores_left : ℕ → List ℕ → Option Side → List Op
stores_left place text (Some Before) = store_before place text ++ store_behind place text
stores_left place text (Some Behind) = store_behind place text
stores_left place text None = []

-- a page that is loaded is to be stored
abbrev pub copy_left : List Op → Mapped → Mapped → ℕ → Option (List ℕ) → Dialogue → Dialogue
copy_left held source target page None further = copying held source target (pages_from source page) further
copy_left held source target page (Some some) further = ask fine held (page_store target page some) (λ _. copying held source target (pages_from source (page + 1)) further)

-- what is left of it, at an object as it is mapped
abbrev pub work_left : List Op → Mapped → Work → Dialogue
work_left held at (Read page gathered) = loading held (loads_from at page) gathered (λ all. shutting held (come_to all))
work_left held at (Append text side) = storing held (stores_left (end_of at) text side) (shutting held Fine)
work_left held at (Copy source page loaded) = copy_left held source at page loaded (shutting held Fine)

-- whether nothing is left but to close
abbrev pub is_stored : ℕ → List ℕ → Option Side → Bool
is_stored place text (Some Before) = false
is_stored place text (Some Behind) = nat_le (length text) (room_at place)
is_stored place text None = true

abbrev pub is_done : Mapped → Work → Bool
is_done at (Read page gathered) = nat_le (pages at.length) page
is_done at (Append text side) = is_stored (end_of at) text side
is_done at (Copy source page loaded) = nat_le (pages source.length) page

-- what it asks while there is something left
abbrev pub append_op : ℕ → List ℕ → Option Side → Op
append_op place text (Some Before) = ops.Store (Addr place) (take (room_at place) text)
append_op place text _ = ops.Store (Addr (place + room_at place)) (drop (room_at place) text)

abbrev pub copy_op : Mapped → Mapped → ℕ → Option (List ℕ) → Op
copy_op source target page None = page_load source page
copy_op source target page (Some some) = page_store target page some

abbrev pub work_op : Mapped → Work → Op
work_op at (Read page gathered) = page_load at page
work_op at (Append text side) = append_op (end_of at) text side
work_op at (Copy source page loaded) = copy_op source at page loaded

-- what a reply makes of it; None where it is refused
abbrev pub read_after : ℕ → Gathered → Reply → Option Work
read_after page gathered (Bytes more) = Some (Read (page + 1) (gathered_with gathered more))
read_after page gathered _ = None

abbrev pub side_after : Option Side → Option Side
side_after (Some Before) = Some Behind
side_after _ = None

abbrev pub append_after : List ℕ → Option Side → Reply → Option Work
append_after text side Done = Some (Append text (side_after side))
append_after text side _ = None

abbrev pub load_after : Mapped → ℕ → Reply → Option Work
load_after source page (Bytes bytes) = Some (Copy source page (Some bytes))
load_after source page _ = None

abbrev pub store_after : Mapped → ℕ → Reply → Option Work
store_after source page Done = Some (Copy source (page + 1) None)
store_after source page _ = None

abbrev pub copy_after : Mapped → ℕ → Option (List ℕ) → Reply → Option Work
copy_after source page None reply = load_after source page reply
copy_after source page (Some bytes) reply = store_after source page reply

abbrev pub work_after : Work → Reply → Option Work
work_after (Read page gathered) reply = read_after page gathered reply
work_after (Append text side) reply = append_after text side reply
work_after (Copy source page loaded) reply = copy_after source page loaded reply

abbrev pub if_taken : Bool → Work → Option Work
if_taken true work = Some work
if_taken false work = None

-- a text that can be put behind an object: some bytes, and at most a page of them
pub record IsText (text : List ℕ) : Type 0 where
  pub some : 1 ≤ length text
  pub few : length text ≤ PAGE_BYTES

-- a page that was loaded has the bytes that were asked for
pub record IsLoaded (source : Mapped) (page : ℕ) (bytes : List ℕ) : Type 0 where
  pub there : page < pages source.length
  pub whole : length bytes ≡ bytes_in source page

-- what each keeps
abbrev pub IsWork : Work → Type 0
IsWork (Read page gathered) = IsGathered page gathered
IsWork (Append text side) = IsText text
IsWork (Copy source page loaded) = IsMapped source × IfSome loaded (λ bytes. IsLoaded source page bytes)
