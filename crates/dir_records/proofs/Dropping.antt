-- Names that are passed.
use Rattle.std.proofs.Common.{◌≡◌, ℕ, ◌+◌, List, drop, sym}
use Rattle.std.proofs.lemmas.List.{drop-drop}

-- one more is passed
pub passed_one : {X : Type 0} (n : ℕ) (xs : List X) → drop (n + 1) xs ≡ drop 1 (drop n xs)
passed_one n xs = sym (drop-drop 1 n xs)
