-- How many answers are ok, by what was noted of each.
use Rattle.std.proofs.Common.{◌≡◌, Bool, List, map, length, ap, ◌∙◌, sym}
use Rattle.std.specs.Prelude.{filter}
use Rattle.std.specs.List.{count_by}
use Rattle.std.proofs.lemmas.List.{length-map}
use Rattle.std.proofs.lemmas.List.Sums.{length-filter}
use Rattle.uid_names.proofs.ListLemmas.{filter-map}

pub count_by-map : {X Y : Type 0} (f : X → Y) (p : Y → Bool) (xs : List X) → count_by p (map f xs) ≡ count_by (λ x. p (f x)) xs
count_by-map f p xs =
    sym (length-filter p (map f xs))
    ∙ (ap length (filter-map f p xs) ∙ (length-map (filter (λ x. p (f x)) xs) f ∙ length-filter (λ x. p (f x)) xs))
