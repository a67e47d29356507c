-- What the places of arrows by rows say of what is drawn of them.
use Rattle.std.proofs.Common.{◌≡◌, ◌∙◌, ℕ, ◌+◌, Bool, true, false, Some, List, [], ◌∷◌, ◌++◌, refl, ap, suc, arith}
use Rattle.std.specs.Prelude.{◌==◌, ◌&&◌, slice_get}
use Rattle.std.proofs.Math.Bool.{and-false, and-true}
use Rattle.lane_charts.specs.ArrowKeys.{failing_of, key_as, taker_of}
use Rattle.lane_charts.specs.Charts.{Drawing}
use Rattle.lane_charts.specs.Pictures.{arrow_group, arrows_of, group_if, groups_at, line_after}
use Rattle.lane_charts.specs.Places.{drawn, is_key, place_if, places_of}
use Rattle.lane_charts.specs.TextCharts.{arrow_if, fails_at, is_not_taken, is_taken_at}
use Rattle.lane_charts.specs.declared.by_row.Standing.TheVariants.{Failed, Sent, Taken}
use Rattle.lane_charts.specs.declared.chart.Arrow.{Arrow}
use Rattle.lane_charts.specs.declared.chart.Arrival.{Arrival}
use Rattle.lane_charts.specs.declared.chart.Arrival.TheVariants.{Row, Lost, Never}

-- ---- in a text

taken_so : (k : ℕ) (end : Arrival) → is_taken_at k end ≡ is_key k (taker_of end)
taken_so k (Row at) = refl
taken_so k Lost = refl
taken_so k Never = refl

failing_so : (k sender : ℕ) (end : Arrival) → ((sender == k) && is_not_taken end) ≡ is_key k (failing_of sender end)
failing_so k sender (Row at) = and-false (sender == k)
failing_so k sender Lost = and-true (sender == k)
failing_so k sender Never = and-true (sender == k)

pub taken-if : (column : ℕ) (c : Drawing) (k : ℕ) (b : Bool) (a : Arrow) → is_key k (key_as Taken a) ≡ b → arrow_if (is_taken_at k a.end) column c a ≡ arrow_if b column c a
taken-if column c k b a is = ap (λ t. arrow_if t column c a) (taken_so k a.end ∙ is)

pub failing-if : (column : ℕ) (c : Drawing) (k : ℕ) (b : Bool) (a : Arrow) → is_key k (key_as Failed a) ≡ b → arrow_if (fails_at k a) column c a ≡ arrow_if b column c a
failing-if column c k b a is = ap (λ t. arrow_if t column c a) (failing_so k a.sender a.end ∙ is)

-- ---- in a picture

module _ (c : Drawing) (at from : ℕ) where
  groups_if : (b : Bool) (n line : ℕ) (a : Arrow) (ps : List ℕ) (more : ℕ → List ℕ) → slice_get c.arrows n ≡ Some a → ((l : ℕ) → groups_at c from l ps ≡ more l)
      → groups_at c from line (place_if b n ps) ≡ group_if b c from line a ++ more (line_after b line)
  groups_if true n line a ps more there rest =
      ap (λ o. drawn (arrow_group c from line) o ++ groups_at c from (line + 1) ps) there
      ∙ ap (λ (t : List ℕ). arrow_group c from line a ++ t) (rest (line + 1))
  groups_if false n line a ps more there rest = rest line

  groups-places : (n line : ℕ) (arrows : List Arrow) → ((i j : ℕ) → i ≡ n + j → slice_get c.arrows i ≡ slice_get arrows j)
      → groups_at c from line (places_of (λ a. is_key at (key_as Sent a)) n arrows) ≡ arrows_of c at from line arrows
  groups-places n line [] agree = refl
  groups-places n line (a ∷ arrows) agree =
      groups_if (a.sender == at) n line a (places_of (λ a. is_key at (key_as Sent a)) (n + 1) arrows) (λ l. arrows_of c at from l arrows) (agree n 0 (omega arith))
      (λ l. groups-places (n + 1) l arrows (λ i j is. agree i (suc j) (omega (arith, is))))

  pub groups-all : (line : ℕ) (ps : List ℕ) → ps ≡ places_of (λ a. is_key at (key_as Sent a)) 0 c.arrows → groups_at c from line ps ≡ arrows_of c at from line c.arrows
  groups-all line ps is =
      ap (groups_at c from line) is
      ∙ groups-places 0 line c.arrows (λ i j same. ap (slice_get c.arrows) (let here : i ≡ j = omega (arith, same) in here))
