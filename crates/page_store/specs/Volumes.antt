-- The pages of a node's objects: a finite map from (counter, page) to a page's bytes. An absent page is zeros.
use Rattle.std.specs.Prelude.{ℕ, ◌==◌, Bool, not, List, replicate, IsSome, unwrap_or}
use Rattle.std.specs.Ordering.{nat_cmp, ordering_then}
use Rattle.std.specs.declared.cmp.Ordering.{Ordering}
use Rattle.std.specs.Coded.{Coded, coded×, coded_list, coded_ℕ}
use Rattle.std.specs.FinMap as map
use Rattle.uid_names.specs.declared.limits.TheConstants.{PAGE_BYTES}

-- a page's name at its node: the object's counter, and the page's number
abbrev pub PageName : Type 0
PageName = ℕ × ℕ

-- the order of pages: by counter, then by number
abbrev pub page_cmp : PageName → PageName → Ordering
page_cmp p q = ordering_then (nat_cmp p.0 q.0) (nat_cmp p.1 q.1)

-- the pages that were put, each with its bytes
abbrev pub Volume : Type 0
Volume = map.FinMap page_cmp (List ℕ)

-- how a volume is stored
abbrev pub volume_code : Coded Volume
volume_code = map.code (coded× coded_ℕ coded_ℕ) (coded_list coded_ℕ)

-- a page of zeros
unfoldable pub zeros : List ℕ
zeros = replicate PAGE_BYTES 0

-- no page was put
abbrev pub no_pages : Volume
no_pages = map.empty

-- the bytes of a page
abbrev pub page_of : Volume → ℕ → ℕ → List ℕ
page_of volume counter page = unwrap_or (map.get volume (counter, page)) zeros

-- the page was put since its object was last dropped
abbrev pub IsKept : Volume → ℕ → ℕ → Type 0
IsKept volume counter page = IsSome (map.get volume (counter, page))

-- the volume with these bytes as that page
abbrev pub with_page : Volume → ℕ → ℕ → List ℕ → Volume
with_page volume counter page bytes = map.insert volume (counter, page) bytes

-- whether the page is of another object
abbrev pub is_other : ℕ → PageName → Bool
is_other counter name = not (name.0 == counter)

-- the volume without the pages of an object
abbrev pub without_object : Volume → ℕ → Volume
without_object volume counter = map.retain_keys volume (is_other counter)
