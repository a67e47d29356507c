-- How room is made at an event, by the pages that it drops: which clean page is dropped is free.
use Rattle.std.specs.Prelude.{◌≡◌, ℕ, ◌==◌, Bool, true, false, ◌&&◌, Option, Some, None, List, [], ◌∷◌}
use Rattle.std.specs.Option.{option_map}
use Rattle.uid_names.specs.Names.{ObjectName, same_uid}
use Rattle.page_cache.specs.Caches.{Resident}
use Rattle.page_cache.specs.Victims.{oldest}
use Rattle.fault_handler.specs.Desks.{DeskState}
use Rattle.fault_handler.specs.Outcomes.{Moved}
use Rattle.fault_handler.specs.Victims.{Victim, is_idle_clean, is_idle_dirty, is_idle_page, MayMakeRoom, named_victim}
use Rattle.fault_handler.specs.Accesses.{Accessed, room_made}

abbrev pub same_pages : List (ObjectName × ℕ) → List (ObjectName × ℕ) → Bool
same_pages [] [] = true
same_pages (x ∷ xs) (y ∷ ys) = (same_uid x.0 y.0 && (x.1 == y.1)) && same_pages xs ys
same_pages _ _ = false

abbrev pub drops_if : Bool → ObjectName → ℕ → Option Victim
drops_if true u k = Some (Victim.Drops u k)
drops_if false u k = None

-- no page is dropped: the dirty page used longest ago is sent home, where no clean one may be dropped
abbrev pub sent_home : Option Resident → Option Resident → Option Victim
sent_home None dirty = option_map Victim.SendsHome dirty
sent_home (Some r) dirty = None

-- how these dropped pages say that room is made: the one page is dropped, if it is one that may be
abbrev pub victim_by : DeskState → List (ObjectName × ℕ) → Option Victim
victim_by d [] = sent_home (oldest (is_idle_clean d.moving) d.cache.pages) (oldest (is_idle_dirty d.moving) d.cache.pages)
victim_by d (x ∷ []) = drops_if (is_idle_page d x.0 x.1) x.0 x.1
victim_by d (x ∷ (y ∷ more)) = None

abbrev pub moved_if : Bool → Moved → Option Moved
moved_if true m = Some m
moved_if false m = None

-- what the desk makes of it where these pages are dropped; None where they may not be
abbrev pub moved_by : ℕ → List (ObjectName × ℕ) → Accessed → Option Moved
moved_by p dropped (Accessed.Settled m) = moved_if (same_pages dropped m.dropped) m
moved_by p dropped (Accessed.NeedsRoom d task) = option_map (room_made d p task) (victim_by d dropped)

-- what it makes of it where room is made as its cache names it
abbrev pub moved_as_named : ℕ → Accessed → Option Moved
moved_as_named p (Accessed.Settled m) = Some m
moved_as_named p (Accessed.NeedsRoom d task) = option_map (room_made d p task) (named_victim d)

-- it is one of the ways in which it may come out
abbrev pub MayMove : ℕ → Accessed → Moved → Type 0
MayMove p (Accessed.Settled settled) m = m ≡ settled
MayMove p (Accessed.NeedsRoom d task) m = (victim : Victim) × MayMakeRoom d victim × (m ≡ room_made d p task victim)
