-- The page whose frame is taken for another where no frame is free.
use Rattle.std.specs.Prelude.{ℕ, Bool, not, ◌&&◌, List, reverse, Option}
use Rattle.std.specs.List.{find}
use Rattle.std.specs.Option.{option_or}
use Rattle.uid_names.specs.Names.{ObjectName}
use Rattle.page_cache.specs.Caches.{Resident}

-- clean, and not in transit
abbrev pub is_clean_choice : Resident → Bool
is_clean_choice r = not r.flags.dirty && not r.flags.transit

-- dirty, and not in transit
abbrev pub is_dirty_choice : Resident → Bool
is_dirty_choice r = r.flags.dirty && not r.flags.transit

-- the page used longest ago that passes the test
abbrev pub oldest : (Resident → Bool) → List Resident → Option Resident
oldest test pages = find test (reverse pages)

-- the clean page used longest ago, or else the dirty one, of those that are not in transit
abbrev pub victim_of : List Resident → Option Resident
victim_of pages = option_or (oldest is_clean_choice pages) (oldest is_dirty_choice pages)

-- the object and number of a page
abbrev pub name_of : Resident → ObjectName × ℕ
name_of r = (r.uid, r.page)
