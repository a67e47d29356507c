-- The numbers of an object's resident pages, and the least of its dirty ones.
use Rattle.std.specs.Prelude.{ℕ, Bool, ◌&&◌, nat_lt, if◌then◌else◌, min, List, [], ◌∷◌, map, filter, Option, Some, None}
use Rattle.uid_names.specs.Names.{ObjectName}
use Rattle.page_cache.specs.Caches.{Resident, is_of}

-- whether it is a dirty page of this object
abbrev pub is_dirty_of : ObjectName → Resident → Bool
is_dirty_of uid r = is_of uid r && r.flags.dirty

-- the numbers of the pages that pass the test, in the order of the pages
abbrev pub numbers : (Resident → Bool) → List Resident → List ℕ
numbers test pages = map (λ r. r.page) (filter test pages)

-- the lesser of two numbers, of those that there are
abbrev pub lesser : Option ℕ → Option ℕ → Option ℕ
lesser None other = other
lesser (Some a) None = Some a
lesser (Some a) (Some b) = Some (min a b)

-- the least number
abbrev pub least : List ℕ → Option ℕ
least [] = None
least (k ∷ ks) = lesser (Some k) (least ks)

-- the lowest dirty page of the object
abbrev pub dirty_page : List Resident → ObjectName → Option ℕ
dirty_page pages uid = least (numbers (is_dirty_of uid) pages)

-- the number in its place among rising ones
abbrev pub placed : ℕ → List ℕ → List ℕ
placed k [] = k ∷ []
placed k (x ∷ xs) = if nat_lt x k then x ∷ placed k xs else k ∷ x ∷ xs

-- the numbers, rising
abbrev pub rising : List ℕ → List ℕ
rising [] = []
rising (k ∷ ks) = placed k (rising ks)

-- the resident pages of the object, rising
abbrev pub resident_pages : List Resident → ObjectName → List ℕ
resident_pages pages uid = rising (numbers (is_of uid) pages)
