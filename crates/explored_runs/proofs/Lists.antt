-- What came of numbers, with more behind them.
use Rattle.std.proofs.Common.{◌≡◌, ℕ, ◌+◌, ◌≤◌, All, List, [], ◌∷◌, ◌++◌, length, length-append, refl, arith, sym, ap, subst, ◌∙◌}
use Rattle.std.proofs.lemmas.List.Elements.{All-cons, All-nil}
use Rattle.std.proofs.lemmas.List.Sums.{sum_by-cons}
use Rattle.run_outcomes.specs.declared.tally.TheConstants.{KEPT_OUTCOMES}
use Rattle.script_reader.specs.Scripts.{Content}
use Rattle.explored_counts.specs.declared.came.CameOf.{CameOf}
use Rattle.explored_counts.specs.declared.seen.Explored.{Explored}
use Rattle.explored_counts.specs.Seen.{empty_explored, explored_with, explored_from, joined, joined_all, total_of, totals_of}
use Rattle.explored_counts.proofs.Adding.{explored-push, joined_is_all, total_is}
use Rattle.explored_counts.proofs.Tallies.{few_are_kept}
use Rattle.explored_runs.specs.Came.{IsCameOf, AreCameOf}
use Rattle.explored_runs.specs.Explored.{IsExplored, AreParts}

-- those of the numbers that follow
pub are-append : (s : Content) (number : ℕ) (came more : List CameOf) → AreCameOf s number came → AreCameOf s (number + length came) more → AreCameOf s number (came ++ more)
are-append s number [] more are rest = let e : number + 0 ≡ number = omega arith in subst (λ n. AreCameOf s n more) e rest
are-append s number (x ∷ came) more are rest =
    let e : number + length (x ∷ came) ≡ (number + 1) + length came = omega arith in
    (are.0, are-append s (number + 1) came more are.1 (subst (λ n. AreCameOf s n more) e rest))

-- that of the next number
pub are-push : (s : Content) (number next : ℕ) (came : List CameOf) (c : CameOf) → AreCameOf s number came → number + length came ≡ next → IsCameOf s next c → AreCameOf s number (came ++ c ∷ [])
are-push s number next came c are at is = are-append s number came (c ∷ []) are (subst (λ n. IsCameOf s n c) (sym at) is, tt)

-- nothing was explored yet
pub explored-none : (s : Content) (first : ℕ) → IsExplored s first first empty_explored
explored-none s first = record { came = []; are = tt; all = omega arith; counted = refl }

-- one number more was
pub explored-next : (s : Content) (from next : ℕ) (was now : Explored) (came : CameOf) → IsExplored s from next was → IsCameOf s next came → now ≡ explored_with next came was → IsExplored s from (next + 1) now
explored-next s from next was now came so_far is counted = record {
  came = so_far.came ++ came ∷ [];
  are = are-push s from next so_far.came came so_far.are so_far.all is;
  all = omega (arith, so_far.all, length-append so_far.came (came ∷ []));
  counted = counted ∙ (ap (explored_with next came) so_far.counted
      ∙ (ap (λ n. explored_with n came (explored_from from so_far.came empty_explored)) (sym so_far.all) ∙ sym (explored-push from so_far.came came empty_explored)));
}

-- each number is counted
pub explored-total : (s : Content) (from to : ℕ) (e : Explored) → IsExplored s from to e → from + total_of e ≡ to
explored-total s from to e is = omega (arith, ap total_of is.counted, total_is from is.came, is.all)

-- a part was explored behind what was
pub explored-joined : (s : Content) (first next to : ℕ) (was more : Explored) → IsExplored s first next was → IsExplored s next to more → more.tally.rest ≡ 0 → IsExplored s first to (joined more was)
explored-joined s first next to was more so_far is none = record {
  came = so_far.came ++ is.came;
  are = are-append s first so_far.came is.came so_far.are (subst (λ n. AreCameOf s n is.came) (sym so_far.all) is.are);
  all = omega (arith, so_far.all, is.all, length-append so_far.came is.came);
  counted =
      let behind : more ≡ explored_from (first + length so_far.came) is.came empty_explored = is.counted ∙ ap (λ n. explored_from n is.came empty_explored) (sym so_far.all) in
      ap (λ m. joined m was) behind
      ∙ (ap (joined (explored_from (first + length so_far.came) is.came empty_explored)) so_far.counted
      ∙ joined_is_all first so_far.came is.came (sym (ap (λ (m : Explored). m.tally.rest) behind) ∙ none));
}

-- ---- parts

pub parts-append : (s : Content) (from middle to : ℕ) (first second : List Explored) → AreParts s from middle first → AreParts s middle to second → AreParts s from to (first ++ second)
parts-append s from middle to [] second first_are second_are = subst (λ n. AreParts s n to second) (sym first_are) second_are
parts-append s from middle to (part ∷ first) second first_are second_are =
    (first_are.0, first_are.1, first_are.2, parts-append s first_are.0 middle to first second first_are.3 second_are)

pub parts-push : (s : Content) (from next to : ℕ) (parts : List Explored) (part : Explored) → AreParts s from next parts → IsExplored s next to part → part.tally.rest ≡ 0 → AreParts s from to (parts ++ part ∷ [])
parts-push s from next to parts part are is none = parts-append s from next to parts (part ∷ []) are (to, is, none, refl)

-- a part of few numbers keeps all outcomes
pub part-kept : (s : Content) (from to : ℕ) (e : Explored) → IsExplored s from to e → to ≤ from + KEPT_OUTCOMES → e.tally.rest ≡ 0
part-kept s from to e is few = ap (λ (x : Explored). x.tally.rest) is.counted ∙ few_are_kept from is.came (omega (arith, few, is.all))

-- each of them does
pub parts-kept : (s : Content) (from to : ℕ) (parts : List Explored) → AreParts s from to parts → All (λ part. part.tally.rest ≡ 0) parts
parts-kept s from to [] are = All-nil (λ (part : Explored). part.tally.rest ≡ 0)
parts-kept s from to (part ∷ rest) are = All-cons (λ (p : Explored). p.tally.rest ≡ 0) part rest are.2 (parts-kept s are.0 to rest are.3)

-- they count each number
pub parts-total : (s : Content) (from to : ℕ) (parts : List Explored) → AreParts s from to parts → from + totals_of parts ≡ to
parts-total s from to [] are = omega (arith, are)
parts-total s from to (part ∷ rest) are = omega (arith, explored-total s from are.0 part are.1, parts-total s are.0 to rest are.3, sum_by-cons total_of part rest)

-- all of them were explored behind what was
parts-joined : (s : Content) (first next to : ℕ) (was : Explored) (parts : List Explored) → IsExplored s first next was → AreParts s next to parts → IsExplored s first to (joined_all parts was)
parts-joined s first next to was [] so_far are = subst (λ n. IsExplored s first n was) are so_far
parts-joined s first next to was (part ∷ rest) so_far are =
    parts-joined s first are.0 to (joined part was) rest (explored-joined s first next are.0 was part so_far are.1 are.2) are.3

-- a batch of parts was
pub batch-explored : (s : Content) (first next to : ℕ) (was now : Explored) (parts : List Explored) → IsExplored s first next was → AreParts s next to parts → now ≡ joined_all parts was → IsExplored s first to now
batch-explored s first next to was now parts so_far are is = subst (IsExplored s first to) (sym is) (parts-joined s first next to was parts so_far are)
