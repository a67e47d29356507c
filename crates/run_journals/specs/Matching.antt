-- The frames that are delivered on a link, and those that were taken there, matched one by one from the left as either comes. A list of events has the
-- last one first, so the line of an event is one more than how many are older.
use Rattle.std.specs.Prelude.{◌≡◌, ◌≢◌, ◌⊎◌, ℕ, ◌+◌, List, [], ◌∷◌, ◌++◌, length, map}
use Rattle.dom_history.specs.Events.{Happening}
use Rattle.node_runs.specs.Deliveries.{taken_on}

-- a frame that was taken, and the line of the event that took it
pub record Taken : Type 0 where
  pub index : ℕ
  pub line : ℕ

abbrev pub at_line : ℕ → ℕ → Taken
at_line line index = record { index = index; line = line }

-- what was taken on a link, the first one first
abbrev pub takes_with_lines : ℕ → ℕ → List Happening → List Taken
takes_with_lines from to [] = []
takes_with_lines from to (e ∷ older) = takes_with_lines from to older ++ map (at_line (length older + 1)) (taken_on from to e.place.node e.what)

-- so far each frame was taken in its place: these are delivered and not taken, or these are taken and not delivered yet
pub record AreMatched (delivered : List ℕ) (taken : List Taken) (waiting : List ℕ) (early : List Taken) : Type 0 where
  pub common : List Taken
  pub delivered_are : delivered ≡ map (λ t. t.index) common ++ waiting
  pub taken_are : taken ≡ common ++ early
  pub one_side : (waiting ≡ []) ⊎ (early ≡ [])

-- the first frame that was taken out of its place, at this line: another is delivered there
pub record AreApart (delivered : List ℕ) (taken : List Taken) (line : ℕ) : Type 0 where
  pub common : List Taken
  pub other : ℕ
  pub more : List ℕ
  pub index : ℕ
  pub rest : List Taken
  pub delivered_are : delivered ≡ map (λ t. t.index) common ++ other ∷ more
  pub taken_are : taken ≡ common ++ at_line line index ∷ rest
  pub differ : index ≢ other
