-- What changes in a cache's pages.
use Rattle.std.specs.Prelude.{ℕ, ◌+◌, ◌-◌, Bool, true, false, not, List, ◌∷◌, ◌++◌, length, take, drop, map, filter, Option, Some, None}
use Rattle.uid_names.specs.Names.{ObjectName}
use Rattle.page_frames.specs.declared.frame.Flags.{Flags}
use Rattle.page_frames.specs.Pools.{no_flags}
use Rattle.page_cache.specs.Caches.{Resident, Cached, is_of, is_page, is_in, page_at}

-- all pages but this one
abbrev pub without_page : List Resident → ObjectName → ℕ → List Resident
without_page pages uid page = filter (λ r. not (is_page uid page r)) pages

-- all pages but the object's
abbrev pub without_object : List Resident → ObjectName → List Resident
without_object pages uid = filter (λ r. not (is_of uid r)) pages

-- the pages with this one, if there is one, in front
abbrev pub with_front : Option Resident → List Resident → List Resident
with_front None pages = pages
with_front (Some r) pages = r ∷ pages

-- the pages after the use of this one, which comes to the front
abbrev pub used : List Resident → ObjectName → ℕ → List Resident
used pages uid page = with_front (page_at pages uid page) (without_page pages uid page)

-- the cache with a clean page in front, in a frame that was reserved
abbrev pub installed : Cached → ObjectName → ℕ → List ℕ → ℕ → Cached
installed c uid page bytes frame =
    record c {
      reserved = c.reserved - 1;
      pages = record { uid = uid; page = page; frame = frame; bytes = bytes; flags = no_flags } ∷ c.pages;
    }

-- the page, changed where asked for
abbrev pub changed_if : Bool → (Resident → Resident) → Resident → Resident
changed_if true change r = change r
changed_if false change r = r

-- the pages, with the one in this frame changed in its place
abbrev pub changed_in : ℕ → (Resident → Resident) → List Resident → List Resident
changed_in frame change pages = map (λ r. changed_if (is_in frame r) change r) pages

-- the page in this frame has these flags
abbrev pub with_flags : List Resident → ℕ → Flags → List Resident
with_flags pages frame flags = changed_in frame (λ r. record r { flags = flags }) pages

-- the bytes, with these at the offset
abbrev pub spliced : List ℕ → ℕ → List ℕ → List ℕ
spliced old offset bytes = take offset old ++ (bytes ++ drop (offset + length bytes) old)

-- the page in this frame has these bytes at the offset
abbrev pub with_bytes : List Resident → ℕ → ℕ → List ℕ → List Resident
with_bytes pages frame offset bytes = changed_in frame (λ r. record r { bytes = spliced r.bytes offset bytes }) pages
