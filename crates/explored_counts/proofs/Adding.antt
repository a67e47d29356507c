-- What came of the numbers of a list, and of those that follow them.
use Rattle.std.proofs.Common.{◌≡◌, ℕ, ◌+◌, ◌≤◌, Bool, true, false, nat_lt, Option, Some, None, List, [], ◌∷◌, ◌++◌, length, min, refl, arith, sym, ap, ◌∙◌}
use Rattle.run_outcomes.specs.declared.outcome.OutcomeRow.{OutcomeRow}
use Rattle.run_outcomes.specs.declared.tally.TheConstants.{KEPT_OUTCOMES}
use Rattle.run_outcomes.specs.Tallies.{Tallied, is_kept, rows_tallied, tallied_by}
use Rattle.run_outcomes.proofs.Joined.{rows_one_more, rest-grows}
use Rattle.explored_counts.specs.declared.came.CameOf.{CameOf}
use Rattle.explored_counts.specs.declared.came.CameOf.TheVariants.{Answers, LastTick, NoMemory}
use Rattle.explored_counts.specs.declared.seen.Missed.{Missed}
use Rattle.explored_counts.specs.declared.seen.Explored.{Explored}
use Rattle.explored_counts.specs.Seen.{both_missed, empty_explored, explored_with, explored_from, joined, missed_count, missed_with, total_of}

abbrev explored : Tallied → Option Missed → Option Missed → Explored
explored tally last_tick no_memory = record { tally = tally; last_tick = last_tick; no_memory = no_memory }

-- behind the numbers of a list come those that follow
from-append : (number : ℕ) (first second : List CameOf) (e : Explored) → explored_from number (first ++ second) e ≡ explored_from (number + length first) second (explored_from number first e)
from-append number [] second e = ap (λ n. explored_from n second e) (omega arith)
from-append number (came ∷ first) second e =
    from-append (number + 1) first second (explored_with number came e)
    ∙ ap (λ n. explored_from n second (explored_from (number + 1) first (explored_with number came e))) (omega arith)

-- one number more
pub explored-push : (number : ℕ) (came : List CameOf) (last : CameOf) (e : Explored) → explored_from number (came ++ last ∷ []) e ≡ explored_with (number + length came) last (explored_from number came e)
explored-push number came last e = from-append number came (last ∷ []) e

missed-more : (number : ℕ) (more m : Option Missed) → both_missed (missed_with number more) m ≡ missed_with number (both_missed more m)
missed-more number None None = refl
missed-more number None (Some m) = refl
missed-more number (Some more) None = refl
missed-more number (Some more) (Some m) =
    let count : m.count + (more.count + 1) ≡ (m.count + more.count) + 1 = omega arith in
    let lowest : min (min number more.lowest) m.lowest ≡ min number (min more.lowest m.lowest) = grind arith in
    rw (count, lowest) refl

joined-more : (number : ℕ) (came : CameOf) (more e : Explored) → (explored_with number came more).tally.rest ≡ 0 → joined (explored_with number came more) e ≡ explored_with number came (joined more e)
joined-more number (Answers outcome) more e none =
    ap (λ t. explored t (both_missed more.last_tick e.last_tick) (both_missed more.no_memory e.no_memory)) (rows_one_more number outcome more.tally e.tally none)
joined-more number LastTick more e none =
    ap (λ m. explored (rows_tallied more.tally.rows e.tally) m (both_missed more.no_memory e.no_memory)) (missed-more number more.last_tick e.last_tick)
joined-more number NoMemory more e none =
    ap (λ m. explored (rows_tallied more.tally.rows e.tally) (both_missed more.last_tick e.last_tick) m) (missed-more number more.no_memory e.no_memory)

-- what is not kept stays counted
rest-with : (number : ℕ) (came : CameOf) (e : Explored) → e.tally.rest ≤ (explored_with number came e).tally.rest
rest-with number (Answers outcome) e = rest-grows number outcome e.tally
rest-with number LastTick e = omega arith
rest-with number NoMemory e = omega arith

rest-from : (number : ℕ) (came : List CameOf) (e : Explored) → e.tally.rest ≤ (explored_from number came e).tally.rest
rest-from number [] e = omega arith
rest-from number (first ∷ came) e = omega (arith, rest-with number first e, rest-from (number + 1) came (explored_with number first e))

joined-from : (number : ℕ) (came : List CameOf) (more e : Explored) → (explored_from number came more).tally.rest ≡ 0 → joined (explored_from number came more) e ≡ explored_from number came (joined more e)
joined-from number [] more e none = refl
joined-from number (first ∷ came) more e none =
    let kept : (explored_with number first more).tally.rest ≡ 0 = omega (arith, none, rest-from (number + 1) came (explored_with number first more)) in
    joined-from (number + 1) came (explored_with number first more) e none
    ∙ ap (explored_from (number + 1) came) (joined-more number first more e kept)

-- what came of a list of numbers, joined to what came of those before them
pub joined_is_all : (number : ℕ) (first second : List CameOf) → (explored_from (number + length first) second empty_explored).tally.rest ≡ 0 → joined (explored_from (number + length first) second empty_explored) (explored_from number first empty_explored) ≡ explored_from number (first ++ second) empty_explored
joined_is_all number first second none =
    joined-from (number + length first) second empty_explored (explored_from number first empty_explored) none
    ∙ sym (from-append number first second empty_explored)

-- each number is counted
added-by : (kept room : Bool) (number : ℕ) (o : List OutcomeRow) (t : Tallied) → (tallied_by kept room number o t).added ≡ t.added + 1
added-by true room number o t = refl
added-by false true number o t = refl
added-by false false number o t = refl

missed-counted : (number : ℕ) (m : Option Missed) → missed_count (missed_with number m) ≡ missed_count m + 1
missed-counted number None = refl
missed-counted number (Some m) = refl

total-with : (number : ℕ) (came : CameOf) (e : Explored) → total_of (explored_with number came e) ≡ total_of e + 1
total-with number (Answers outcome) e = omega (arith, added-by (is_kept outcome e.tally.rows) (nat_lt (length e.tally.rows) KEPT_OUTCOMES) number outcome e.tally)
total-with number LastTick e = omega (arith, missed-counted number e.last_tick)
total-with number NoMemory e = omega (arith, missed-counted number e.no_memory)

total-from : (number : ℕ) (came : List CameOf) (e : Explored) → total_of (explored_from number came e) ≡ total_of e + length came
total-from number [] e = omega arith
total-from number (first ∷ came) e = omega (arith, total-with number first e, total-from (number + 1) came (explored_with number first e))

pub total_is : (number : ℕ) (came : List CameOf) → total_of (explored_from number came empty_explored) ≡ length came
total_is number came = omega (arith, total-from number came empty_explored)
