-- The names that stand in directories.
use Rattle.std.specs.Prelude.{◌≡◌, ℕ, ◌-◌, ◌≤◌, ◌==◌, nat_le, Bool, ◌&&◌, ◌||◌, cond, Option, Some, None, List, ◌++◌, length, take, drop, replicate, IsTrue}
use Rattle.std.specs.List.{list_all}
use Rattle.uid_names.specs.NameTexts.{is_name_byte}

-- a letter, a digit, `_`, `$` or `.`
abbrev pub is_component_byte : ℕ → Bool
is_component_byte b = is_name_byte b || (b == 46)

-- 1 to 32 such bytes
abbrev pub is_component : List ℕ → Bool
is_component name = nat_le 1 (length name) && (nat_le (length name) 32 && list_all is_component_byte name)

-- the name of these bytes, if they are one
abbrev pub component_of : List ℕ → Option (List ℕ)
component_of name = cond (is_component name) (Some name) None

-- a name in 32 bytes, filled up with zeros
abbrev pub filled : List ℕ → List ℕ
filled name = name ++ replicate (32 - length name) 0

-- these 32 bytes are a name of so many bytes, filled up
pub record IsPadded (bytes : List ℕ) (n : ℕ) : Type 0 where
  pub size : length bytes ≡ 32
  pub name : IsTrue (is_component (take n bytes))
  pub few : n ≤ 32
  pub zeros : drop n bytes ≡ replicate (32 - n) 0
