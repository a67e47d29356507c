-- The copies that fall behind a later frame, as a link keeps them: in the order in which they fall.
use Rattle.std.specs.Prelude.{◌≡◌, ℕ, ◌+◌, ◌<◌, ◌≤◌, ◌==◌, nat_lt, Bool, false, ◌&&◌, ◌||◌, Option, Some, None, List, [], ◌∷◌, ◌++◌, All}
use Rattle.uid_names.specs.InOrder.{AreInOrder, put_in_order}
use Rattle.ring_links.specs.declared.entry.Entry.{Entry}
use Rattle.ring_links.specs.declared.link.Later.{Later}
use Rattle.ring_links.specs.Carried.{falling, staying}

-- the copy falls before one of this number that falls behind this frame: behind an earlier frame, or behind the same with a lower number
abbrev pub is_before : {A : Type 0} → ℕ → ℕ → Later A → Bool
is_before behind index c = nat_lt c.behind behind || (c.behind == behind && nat_lt c.index index)

abbrev pub falls_before : {A : Type 0} → Later A → Later A → Bool
falls_before c d = is_before d.behind d.index c

-- it is of a frame with a lower number
abbrev pub has_lower : {A : Type 0} → Later A → Later A → Bool
has_lower c d = nat_lt c.index d.index

-- the same copies by their numbers
abbrev pub by_number : {A : Type 0} → List (Later A) → List (Later A)
by_number [] = []
by_number (c ∷ cs) = put_in_order has_lower c (by_number cs)

-- there is a copy, which falls behind this frame
abbrev pub is_behind : {A : Type 0} → ℕ → Option (Later A) → Bool
is_behind j None = false
is_behind j (Some c) = c.behind == j

-- they stand in the order in which they fall, are of frames up to one number, and fall behind frames above another
pub record AreLater {A : Type 0} (sent past : ℕ) (later : List (Later A)) : Type 0 where
  pub rising : AreInOrder falls_before later
  pub numbers : All (λ c. c.index ≤ sent) later
  pub ahead : All (λ c. past < c.behind) later

-- a frame more than so many was sent, and those of the copies that fall behind it wait: of what waited before and of the old copies
pub record HaveFallen {A : Type 0} (frames : ℕ) (before waiting : List (Entry A)) (old later : List (Later A)) : Type 0 where
  pub waits : waiting ≡ before ++ falling (frames + 1) (by_number old)
  pub stays : by_number later ≡ staying (frames + 1) (by_number old)
  pub ahead : AreLater (frames + 1) (frames + 1) later
