-- The least of the ranks below one.
use Rattle.std.proofs.Common.{◌≡◌, ℕ, ◌+◌, ◌<◌, ◌≤◌, true, false, Option, Some, None, List, length, get_or, MatchOption, sym, subst, ◌∙◌, below_more, arith}
use Rattle.std.specs.Prelude.{All}
use Rattle.std.proofs.lemmas.Bool.Decides.{nat_tests}
use Rattle.std.proofs.lemmas.List.{get_or_default}
use Rattle.ring_links.specs.declared.merge.Rank.{Rank}
use Rattle.ring_links.specs.Ranks.{is_below, no_event, IsLeast}

below-over : (a b c : Rank) → is_below a b ≡ false → is_below c b ≡ true → is_below a c ≡ false
below-over a b c h k = grind (arith, nat_tests, h, k)

below-itself : (a : Rank) → is_below a a ≡ false
below-itself a = grind (arith, nat_tests)

below-both : (a b c : Rank) → is_below a b ≡ true → is_below b c ≡ true → is_below a c ≡ true
below-both a b c h k = grind (arith, nat_tests, h, k)

module _ (nexts : List Rank) where
  -- the rank of this number, which is that of an event
  pub record IsRankAt (k : ℕ) (r : Rank) : Type 0 where
    pub below : k < length nexts
    pub next : get_or nexts k no_event ≡ r
    pub event : is_below r no_event ≡ true

  abbrev NotBelow : Rank → ℕ → Type 0
  NotBelow r j = is_below (get_or nexts j no_event) r ≡ false

  -- of the ranks below i none is below this one
  pub record LeastSoFar (i : ℕ) (first : Option ℕ) (least : Rank) : Type 0 where
    pub least_is : (j : ℕ) → j < i → NotBelow least j
    pub from : MatchOption first (least ≡ no_event) (λ k. IsRankAt k least)

  -- a rank that was read
  was-read : (i : ℕ) (d r : Rank) → i < length nexts → get_or nexts i d ≡ r → get_or nexts i no_event ≡ r
  was-read i d r within is = get_or_default nexts i no_event d within ∙ is

  under : (first : Option ℕ) (r least : Rank) → MatchOption first (least ≡ no_event) (λ k. IsRankAt k least) → is_below r least ≡ true → is_below r no_event ≡ true
  under None r least none test = subst (λ (l : Rank). is_below r l ≡ true) none test
  under (Some k) r least at test = below-both r least no_event test at.event

  pub first-taken : (i : ℕ) (d r : Rank) (first : Option ℕ) (least : Rank) → i < length nexts → get_or nexts i d ≡ r → LeastSoFar i first least → is_below r least ≡ true → LeastSoFar (i + 1) (Some i) r
  first-taken i d r first least within is so-far test =
      let next = was-read i d r within is in record {
        least_is = below_more (NotBelow r) i (λ j lt. below-over (get_or nexts j no_event) least r (so-far.least_is j lt) test)
            (subst (λ (o : Rank). is_below o r ≡ false) (sym next) (below-itself r));
        from = record { below = within; next = next; event = under first r least so-far.from test };
      }

  pub first-kept : (i : ℕ) (d r : Rank) (first : Option ℕ) (least : Rank) → i < length nexts → get_or nexts i d ≡ r → LeastSoFar i first least → is_below r least ≡ false → LeastSoFar (i + 1) first least
  first-kept i d r first least within is so-far test = record {
    least_is = below_more (NotBelow least) i so-far.least_is (subst (λ (o : Rank). is_below o least ≡ false) (sym (was-read i d r within is)) test);
    from = so-far.from;
  }

  all-of : (i : ℕ) (least : Rank) → length nexts ≤ i → ((j : ℕ) → j < i → NotBelow least j) → All (λ r. is_below r least ≡ false) nexts
  all-of i least past is k d inside = subst (λ (o : Rank). is_below o least ≡ false) (get_or_default nexts k no_event d inside) (is k (omega (arith, past, inside)))

  pub first-of-all : (i : ℕ) (first : Option ℕ) (least : Rank) → length nexts ≤ i → LeastSoFar i first least → MatchOption first (All (λ r. is_below r no_event ≡ false) nexts) (IsLeast nexts)
  first-of-all i None least past so-far = subst (λ (l : Rank). All (λ r. is_below r l ≡ false) nexts) so-far.from (all-of i least past so-far.least_is)
  first-of-all i (Some k) least past so-far = record {
    event = subst (λ (l : Rank). is_below l no_event ≡ true) (sym so-far.from.next) so-far.from.event;
    least = subst (λ (l : Rank). All (λ r. is_below r l ≡ false) nexts) (sym so-far.from.next) (all-of i least past so-far.least_is);
  }
