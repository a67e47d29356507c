-- The tally is that of all numbers that gave answers.
use Rattle.std.proofs.Common.{◌≡◌, ℕ, ◌+◌, ◌≤◌, List, [], ◌∷◌, length, refl, arith, sym, ap, ◌∙◌}
use Rattle.run_outcomes.specs.Tallies.{Tallied, tallied}
use Rattle.run_outcomes.specs.Counts.{Gave, tally_of}
use Rattle.run_outcomes.specs.declared.tally.TheConstants.{KEPT_OUTCOMES}
use Rattle.run_outcomes.proofs.Counted.{tally_of_more}
use Rattle.run_outcomes.proofs.Joined.{few_are_kept as all_kept}
use Rattle.explored_counts.specs.declared.came.CameOf.{CameOf}
use Rattle.explored_counts.specs.declared.came.CameOf.TheVariants.{Answers, LastTick, NoMemory}
use Rattle.explored_counts.specs.declared.seen.Explored.{Explored}
use Rattle.explored_counts.specs.Seen.{empty_explored, explored_with, explored_from, gave_with, gave_from}

tally-with : (number : ℕ) (came : CameOf) (e : Explored) (past : List Gave) → e.tally ≡ tally_of past → (explored_with number came e).tally ≡ tally_of (gave_with number came past)
tally-with number (Answers outcome) e past is = ap (tallied number outcome) is ∙ sym (tally_of_more (record { number = number; outcome = outcome }) past)
tally-with number LastTick e past is = is
tally-with number NoMemory e past is = is

tally-from : (number : ℕ) (came : List CameOf) (e : Explored) (past : List Gave) → e.tally ≡ tally_of past → (explored_from number came e).tally ≡ tally_of (gave_from number came past)
tally-from number [] e past is = is
tally-from number (came ∷ rest) e past is = tally-from (number + 1) rest (explored_with number came e) (gave_with number came past) (tally-with number came e past is)

pub tally_of_came : (number : ℕ) (came : List CameOf) → (explored_from number came empty_explored).tally ≡ tally_of (gave_from number came [])
tally_of_came number came = tally-from number came empty_explored [] refl

-- no more numbers gave answers than there are
gave-length : (number : ℕ) (came : List CameOf) (past : List Gave) → length (gave_from number came past) ≤ length past + length came
gave-length number [] past = omega arith
gave-length number (Answers outcome ∷ rest) past = omega (arith, gave-length (number + 1) rest (gave_with number (Answers outcome) past))
gave-length number (LastTick ∷ rest) past = omega (arith, gave-length (number + 1) rest past)
gave-length number (NoMemory ∷ rest) past = omega (arith, gave-length (number + 1) rest past)

pub few_are_kept : (number : ℕ) (came : List CameOf) → length came ≤ KEPT_OUTCOMES → (explored_from number came empty_explored).tally.rest ≡ 0
few_are_kept number came few =
    ap (λ (t : Tallied). t.rest) (tally_of_came number came)
    ∙ all_kept (gave_from number came []) (omega (arith, few, gave-length number came []))
