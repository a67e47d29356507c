-- The ranks of the logs' next events, and which event comes first of all.
use Rattle.std.proofs.Common.{◌≡◌, ℕ, ◌+◌, ◌<◌, true, false, Option, Some, None, List, [], ◌∷◌, ◌++◌, length, set, get_or, ◌⊎◌, inl, inr, refl, sym, ap, subst, ◌∙◌, below_more, length-append, arith}
use Rattle.std.specs.Prelude.{All}
use Rattle.std.proofs.lemmas.Bool.{cases_eq}
use Rattle.std.proofs.lemmas.List.{get_or-set_same, get_or-set_other, length-set, get_or_append_left}
use Rattle.std.proofs.Math.Seq.{get_or-append_seam}
use Rattle.dom_history.specs.Events.{Happening}
use Rattle.dom_history.specs.MergedLogs.{next_at}
use Rattle.dom_history.specs.declared.event.NodeLog.{NodeLog}
use Rattle.ring_links.specs.declared.merge.Rank.{Rank}
use Rattle.ring_links.specs.Merged.{IsFirst}
use Rattle.ring_links.specs.Ranks.{is_below, no_event, IsRankOf, AreNext, IsLeast}
use Rattle.ring_links.proofs.Coming.{next_at_other, next_at_within}

-- so many ranks are those of the first logs
pub record AreNextBelow (logs : List NodeLog) (came : List ℕ) (i : ℕ) (nexts : List Rank) : Type 0 where
  pub same : length nexts ≡ i
  pub each : (j : ℕ) → j < i → IsRankOf (next_at logs came j) (get_or nexts j no_event)

pub next-more : (logs : List NodeLog) (came : List ℕ) (i : ℕ) (nexts : List Rank) (r : Rank) → AreNextBelow logs came i nexts → IsRankOf (next_at logs came i) r → AreNextBelow logs came (i + 1) (nexts ++ r ∷ [])
next-more logs came i nexts r are is = record {
  same = length-append nexts (r ∷ []) ∙ ap (λ n. n + 1) are.same;
  each = below_more (λ j. IsRankOf (next_at logs came j) (get_or (nexts ++ r ∷ []) j no_event)) i
      (λ j lt. subst (IsRankOf (next_at logs came j)) (sym (get_or_append_left nexts (r ∷ []) no_event j (let same = are.same in omega (arith, same, lt)))) (are.each j lt))
      (subst (IsRankOf (next_at logs came i)) (sym (subst (λ k. get_or (nexts ++ r ∷ []) k no_event ≡ r) are.same (get_or-append_seam nexts r [] no_event))) is);
}

pub next-all : (logs : List NodeLog) (came : List ℕ) (i : ℕ) (nexts : List Rank) → i ≡ length logs → AreNextBelow logs came i nexts → AreNext logs came nexts
next-all logs came i nexts all are = record {
  same = are.same ∙ all;
  each = λ j within. are.each j (omega (arith, all, within));
}

-- the same once the next event of the log at i is merged
pub next-step : (logs : List NodeLog) (came came-then : List ℕ) (nexts : List Rank) (i : ℕ) (r : Rank) → i < length logs → AreNext logs came nexts
    → came-then ≡ set came i (get_or came i 0 + 1) → IsRankOf (next_at logs came-then i) r → AreNext logs came-then (set nexts i r)
next-step logs came came-then nexts i r within are more is = record {
  same = length-set nexts i r ∙ are.same;
  each = λ j inside. of-case j inside (cases_eq j i);
}
  where
    of-case : (j : ℕ) → j < length logs → (j ≡ i) ⊎ (j ≡ i → ⊥) → IsRankOf (next_at logs came-then j) (get_or (set nexts i r) j no_event)
    of-case j inside (inl same) =
        subst (λ k. IsRankOf (next_at logs came-then k) (get_or (set nexts i r) k no_event)) (sym same)
        (subst (IsRankOf (next_at logs came-then i)) (sym (get_or-set_same nexts i r no_event (let there = are.same in omega (arith, there, within)))) is)
    of-case j inside (inr differs) =
        let other = ap (λ (cs : List ℕ). next_at logs cs j) more ∙ next_at_other logs came i j (get_or came i 0 + 1) differs in
        subst (λ (o : Option Happening). IsRankOf o (get_or (set nexts i r) j no_event)) (sym other)
        (subst (IsRankOf (next_at logs came j)) (sym (get_or-set_other nexts i j r no_event differs)) (are.each j inside))

-- the rank of an event is that of its place
of-place : (o : Option Happening) (r : Rank) (e : Happening) → IsRankOf o r → o ≡ Some e → r ≡ record { tick = e.place.tick; node = e.place.node }
of-place None r e is there = absurd (cc)
of-place (Some f) r e is there = is.0 ∙ (let same : f ≡ e = cc in ap (λ (x : Happening). record { tick = x.place.tick; node = x.place.node }) same)

is-event : (o : Option Happening) (r : Rank) (e : Happening) → IsRankOf o r → o ≡ Some e → is_below r no_event ≡ true
is-event None r e is there = absurd (cc)
is-event (Some f) r e is there = is.1

module _ (logs : List NodeLog) (came : List ℕ) (nexts : List Rank) (are : AreNext logs came nexts) where
  -- the rank of the next event of log j
  at-place : (j : ℕ) (e : Happening) → next_at logs came j ≡ Some e → get_or nexts j no_event ≡ record { tick = e.place.tick; node = e.place.node }
  at-place j e next = of-place (next_at logs came j) (get_or nexts j no_event) e (are.each j (next_at_within logs came j e next)) next

  -- the log with the least rank has the event that comes first of all
  pub least-first : (i : ℕ) → i < length logs → IsLeast nexts i → IsFirst logs came i
  least-first i within least = of-next (next_at logs came i) refl
    where
      none : (r : Rank) → IsRankOf None r → is_below r no_event ≡ true → ⊥
      none r is under = absurd (let no = subst (λ (l : Rank). is_below l no_event ≡ true) is under in cc)

      of-next : (o : Option Happening) → next_at logs came i ≡ o → IsFirst logs came i
      of-next None is = absurd (none (get_or nexts i no_event) (subst (λ (o : Option Happening). IsRankOf o (get_or nexts i no_event)) is (are.each i within)) least.event)
      of-next (Some e) is = record {
        event = e;
        next = is;
        least = λ j other there.
            let inside = subst (λ n. j < n) (sym are.same) (next_at_within logs came j other there) in
            subst (λ (l : Rank). is_below (record { tick = other.place.tick; node = other.place.node }) l ≡ false) (at-place i e is)
            (subst (λ (r : Rank). is_below r (get_or nexts i no_event) ≡ false) (at-place j other there) (least.least j no_event inside));
      }

  -- where there is no rank of an event, no event comes next
  pub none-next : All (λ r. is_below r no_event ≡ false) nexts → (j : ℕ) → next_at logs came j ≡ None
  none-next none j = of-next (next_at logs came j) refl
    where
      of-next : (o : Option Happening) → next_at logs came j ≡ o → next_at logs came j ≡ None
      of-next None is = is
      of-next (Some e) is =
          let within = next_at_within logs came j e is in
          let event = is-event (next_at logs came j) (get_or nexts j no_event) e (are.each j within) is in
          let no = none j no_event (subst (λ n. j < n) (sym are.same) within) in
          absurd (cc)
