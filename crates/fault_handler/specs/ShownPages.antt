-- The resident pages as a desk shows them: by their objects and numbers, the last used first. Which frame a page
-- is in is not told, and that it is in transit is said by the process that moves it.
use Rattle.std.specs.Prelude.{ℕ, Bool, true, false, not, ◌&&◌, List, map}
use Rattle.uid_names.specs.Names.{ObjectName}
use Rattle.page_frames.specs.Pools.{no_flags}
use Rattle.page_cache.specs.Caches.{Resident, is_page}
use Rattle.page_cache.specs.Changes.{changed_if, spliced, used}

-- a page as it comes from its home
abbrev pub fresh_page : ObjectName → ℕ → List ℕ → Resident
fresh_page u k bytes = record { uid = u; page = k; frame = 0; bytes = bytes; flags = no_flags }

-- the pages, with that of this name changed in its place
abbrev pub changed_page : ObjectName → ℕ → (Resident → Resident) → List Resident → List Resident
changed_page u k change pages = map (λ r. changed_if (is_page u k r) change r) pages

-- the page after a store: modified, and changed since it was last sent
abbrev pub written : ℕ → List ℕ → Resident → Resident
written offset bytes r =
    record r {
      bytes = spliced r.bytes offset bytes;
      flags = record r.flags { dirty = true; sent = false };
    }

-- the pages after a store, which used this one last
abbrev pub stored : ObjectName → ℕ → ℕ → List ℕ → List Resident → List Resident
stored u k offset bytes pages = changed_page u k (written offset bytes) (used pages u k)

-- sent home, and not changed since
abbrev pub as_sent : Resident → Resident
as_sent r = record r { flags = record r.flags { sent = true } }

-- no longer on its way; clean where its home took it and it was not changed since it was sent
abbrev pub settled : Bool → Resident → Resident
settled taken r = record r { flags = record r.flags { dirty = r.flags.dirty && not (taken && r.flags.sent) } }
