-- The names of nodes and of variables, as they are written.
use Rattle.std.specs.Prelude.{ℕ, ◌≤◌, ◌==◌, nat_le, Bool, ◌&&◌, ◌||◌, List, length, IsTrue, All}

-- a letter, a digit, `_` or `$`
abbrev pub is_name_byte : ℕ → Bool
is_name_byte b = (nat_le 97 b && nat_le b 122) || ((nat_le 65 b && nat_le b 90) || ((nat_le 48 b && nat_le b 57) || ((b == 95) || (b == 36))))

-- 1 to 32 such bytes
pub record IsNameText (name : List ℕ) : Type 0 where
  pub some : 1 ≤ length name
  pub few : length name ≤ 32
  pub bytes : All (λ b. IsTrue (is_name_byte b)) name
