-- The lowest number of two ranges that follow one another.
use Rattle.std.proofs.Common.{◌≡◌, ℕ, ◌+◌, ◌<◌, ◌≤◌, List, Option, Some, None, true, false, refl, arith, subst, sym, suc}
use Rattle.std.specs.Prelude.{nat_lt}
use Rattle.std.specs.Option.{option_or}
use Rattle.std.proofs.lemmas.Bool.Decides.{nat_tests}
use Rattle.uid_names.proofs.ListLemmas.{by_cases}
use Rattle.script_reader.specs.Scripts.{Content}
use Rattle.explored_runs.specs.declared.numbers.Found.{Found}
use Rattle.explored_runs.specs.Sought.{IsSought, HasNone, IsLowest, IsFound}

-- no number has it of none
pub none-yet : (s : Content) (words : List (List ℕ)) (from : ℕ) → HasNone s words from from
none-yet s words from number low high = absurd (omega (arith, low, high))

-- nor of two ranges of which none has
pub none-append : (s : Content) (words : List (List ℕ)) (from middle to : ℕ) → HasNone s words from middle → HasNone s words middle to → HasNone s words from to
none-append s words from middle to first second number low high =
    by_cases
    (nat_lt number middle)
    (IsSought s words number None)
    (λ lt. first number low (grind (arith, nat_tests)))
    (λ ge. second number (grind (arith, nat_tests)) high)

-- nor with one more that hasn't
pub none-push : (s : Content) (words : List (List ℕ)) (from to : ℕ) → HasNone s words from to → IsSought s words to None → HasNone s words from (to + 1)
none-push s words from to first last =
    none-append s words from to (to + 1) first (λ number low high. let e : to ≡ number = omega (arith, low, high) in subst (λ n. IsSought s words n None) e last)

-- what is found in a range behind one without is found in both
pub found-behind : (s : Content) (words : List (List ℕ)) (from middle to : ℕ) (found : Option Found) → from ≤ middle → HasNone s words from middle → IsFound s words middle to found → IsFound s words from to found
found-behind s words from middle to None low first second = none-append s words from middle to first second
found-behind s words from middle to (Some f) low first second = record {
  low = omega (arith, low, second.low);
  high = second.high;
  line = second.line;
  lower = none-append s words from middle f.number first second.lower;
}

-- what is found in the first of two ranges, or else in the second
pub found-append : (s : Content) (words : List (List ℕ)) (from middle to : ℕ) (one other : Option Found) → from ≤ middle → middle ≤ to → IsFound s words from middle one → IsFound s words middle to other → IsFound s words from to (option_or one other)
found-append s words from middle to None other low high first second = found-behind s words from middle to other low first second
found-append s words from middle to (Some f) other low high first second = record {
  low = first.low;
  high = omega (arith, first.high, high);
  line = first.line;
  lower = first.lower;
}

-- what is found at a number before which none has it
pub found_now : (s : Content) (words : List (List ℕ)) (from to number : ℕ) (line : List ℕ) → from ≤ number → number < to → IsSought s words number (Some line) → HasNone s words from number → IsLowest s words from to (record { number = number; line = line })
found_now s words from to number line low high is none = record { low = low; high = high; line = is; lower = none }

-- what is found in a batch behind one without is found in all
pub found_here : (s : Content) (words : List (List ℕ)) (first next to end : ℕ) (found : Found) → first ≤ next → to ≤ end → HasNone s words first next → IsLowest s words next to found → IsLowest s words first end found
found_here s words first next to end found low high none is = record {
  low = omega (arith, low, is.low);
  high = omega (arith, high, is.high);
  line = is.line;
  lower = none-append s words first next found.number none is.lower;
}
