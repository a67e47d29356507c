-- Words that are names: of nodes, of variables, of persons and of projects.
use Rattle.std.specs.Prelude.{ℕ, nat_le, Bool, ◌&&◌, List, length}
use Rattle.std.specs.List.{list_all}
use Rattle.uid_names.specs.NameTexts.{is_name_byte}

-- 1 to 32 bytes that may stand in a name
abbrev pub is_name : List ℕ → Bool
is_name word = nat_le 1 (length word) && (nat_le (length word) 32 && list_all is_name_byte word)
