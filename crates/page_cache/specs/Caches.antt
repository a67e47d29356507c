-- What contracts see of a cache: its resident pages, the last used first.
use Rattle.std.specs.Prelude.{ℕ, ◌+◌, ◌-◌, ◌≤◌, Bool, ◌&&◌, ◌==◌, List, length, Option, IsSome, count_by}
use Rattle.std.specs.List.{find}
use Rattle.uid_names.specs.Names.{ObjectName, same_uid}
use Rattle.page_frames.specs.declared.frame.Flags.{Flags}
use Rattle.page_frames.specs.declared.frame.TheConstants.{FEWEST_FRAMES, MOST_FRAMES}

-- a resident page: its object, its number there, its frame, and the frame's bytes and flags
pub record Resident : Type 0 where
  pub uid : ObjectName
  pub page : ℕ
  pub frame : ℕ
  pub bytes : List ℕ
  pub flags : Flags

-- how many frames there are, how many of them are reserved, and the resident pages, the last used first
pub record Cached : Type 0 where
  pub frames : ℕ
  pub reserved : ℕ
  pub pages : List Resident

-- whether it is a page of this object
abbrev pub is_of : ObjectName → Resident → Bool
is_of uid r = same_uid r.uid uid

-- whether it is this page of this object
abbrev pub is_page : ObjectName → ℕ → Resident → Bool
is_page uid page r = same_uid r.uid uid && (r.page == page)

-- whether it is in this frame
abbrev pub is_in : ℕ → Resident → Bool
is_in frame r = r.frame == frame

-- the page of this object and number
abbrev pub page_at : List Resident → ObjectName → ℕ → Option Resident
page_at pages uid page = find (is_page uid page) pages

-- the page in this frame
abbrev pub page_in : List Resident → ℕ → Option Resident
page_in pages frame = find (is_in frame) pages

-- the page is resident
abbrev pub IsResident : List Resident → ObjectName → ℕ → Type 0
IsResident pages uid page = IsSome (page_at pages uid page)

-- a resident page is in this frame
abbrev pub IsFrame : List Resident → ℕ → Type 0
IsFrame pages frame = IsSome (page_in pages frame)

-- how many frames are neither taken nor reserved
abbrev pub free_count : Cached → ℕ
free_count c = c.frames - (length c.pages + c.reserved)

-- what each cache keeps: as many frames as a pool may have, of which no more are taken and reserved than there are;
-- each page stands once, and each frame
pub record IsCache (c : Cached) : Type 0 where
  pub few : FEWEST_FRAMES ≤ c.frames
  pub many : c.frames ≤ MOST_FRAMES
  pub room : length c.pages + c.reserved ≤ c.frames
  pub pages : (uid : ObjectName) (page : ℕ) → count_by (is_page uid page) c.pages ≤ 1
  pub frames : (frame : ℕ) → count_by (is_in frame) c.pages ≤ 1
