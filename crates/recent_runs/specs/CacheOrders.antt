-- That the resident pages of a cache stand by their last uses.
use Rattle.std.specs.Prelude.{◌≡◌, true, List, [], ◌∷◌, map}
use Rattle.page_cache.specs.Victims.{name_of}
use Rattle.fault_handler.specs.Desks.{DeskState}
use Rattle.recent_runs.specs.Uses.{PageName, is_used_before}

-- each of these was used before x
abbrev pub AreUsedBefore : List PageName → PageName → List PageName → Type 0
AreUsedBefore used x [] = Unit {0}
AreUsedBefore used x (y ∷ ys) = (is_used_before used y x ≡ true) × AreUsedBefore used x ys

-- these stand by their last uses, the page used last first
abbrev pub AreByUse : List PageName → List PageName → Type 0
AreByUse used [] = Unit {0}
AreByUse used (x ∷ xs) = AreUsedBefore used x xs × AreByUse used xs

-- all resident pages of a desk do: clean, dirty, or in transit
abbrev pub StandByUse : List PageName → DeskState → Type 0
StandByUse used d = AreByUse used (map name_of d.cache.pages)
