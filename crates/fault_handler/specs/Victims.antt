-- How room is made for a page where no frame is free: a clean page is dropped, whichever, or where there is none the dirty
-- page used longest ago is sent home. No page in transit is touched.
use Rattle.std.specs.Prelude.{◌≡◌, ℕ, Bool, true, false, not, ◌&&◌, Option, Some, None, List}
use Rattle.std.specs.Option.{option_map, option_or}
use Rattle.uid_names.specs.Names.{ObjectName}
use Rattle.page_cache.specs.Caches.{Resident, page_at}
use Rattle.page_cache.specs.Victims.{oldest}
use Rattle.fault_handler.specs.declared.transits.Transit.{Transit}
use Rattle.fault_handler.specs.Desks.{DeskState, is_in_transit_there}

pub data Victim : Type 0 where
  Drops : (uid : ObjectName) (page : ℕ) → Victim
  SendsHome : (page : Resident) → Victim

-- clean, and moved by no process
abbrev pub is_idle_clean : List (Option Transit) → Resident → Bool
is_idle_clean moving r = not r.flags.dirty && not (is_in_transit_there moving r.uid r.page)

-- dirty, and moved by no process
abbrev pub is_idle_dirty : List (Option Transit) → Resident → Bool
is_idle_dirty moving r = r.flags.dirty && not (is_in_transit_there moving r.uid r.page)

abbrev pub is_idle_one : List (Option Transit) → Option Resident → Bool
is_idle_one moving None = false
is_idle_one moving (Some r) = is_idle_clean moving r

-- a page that is resident, clean, and not in transit
abbrev pub is_idle_page : DeskState → ObjectName → ℕ → Bool
is_idle_page d u k = is_idle_one d.moving (page_at d.cache.pages u k)

-- room may be made so
abbrev pub MayMakeRoom : DeskState → Victim → Type 0
MayMakeRoom d (Victim.Drops u k) = is_idle_page d u k ≡ true
MayMakeRoom d (Victim.SendsHome r) = (oldest (is_idle_clean d.moving) d.cache.pages ≡ None) × (oldest (is_idle_dirty d.moving) d.cache.pages ≡ Some r)

-- the page that a cache names: the clean one used longest ago, or else the dirty one
abbrev pub named_page : List (Option Transit) → List Resident → Option Resident
named_page moving pages = option_or (oldest (is_idle_clean moving) pages) (oldest (is_idle_dirty moving) pages)

abbrev pub victim_by : Resident → Bool → Victim
victim_by r true = Victim.SendsHome r
victim_by r false = Victim.Drops r.uid r.page

-- how the calls of a desk make it: by the page that its cache names
abbrev pub named_victim : DeskState → Option Victim
named_victim d = option_map (λ r. victim_by r r.flags.dirty) (named_page d.moving d.cache.pages)
