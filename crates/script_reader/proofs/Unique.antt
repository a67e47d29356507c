-- Bytes have one reading: a script of one content, or one first bad line.
use Rattle.std.proofs.Common.{◌≡◌, ◌≤◌, ◌+◌, ◌⊎◌, inl, inr, ℕ, List, [], ◌∷◌, length, Ok, Err, refl, ap, sym, ◌∙◌, arith, rules, Bool, true, false}
use Rattle.std.specs.Prelude.{MatchResult, nat_le}
use Rattle.uid_names.specs.declared.limits.TheConstants.{SCRIPT_BYTES}
use Rattle.script_reader.specs.Grammar.{AreGood, IsBad, IsFirstBad, IsScript, nothing, raw_lines, without_cr}
use Rattle.script_reader.specs.Judging.{judged}
use Rattle.script_reader.specs.Scripts.{Content}
use Rattle.script_reader.specs.declared.script.NodeRow.{NodeRow}
use Rattle.script_reader.specs.declared.cause.Cause.{Cause}
use Rattle.script_reader.specs.declared.cause.Cause.TheVariants.{TooLong, NoNode}

-- good lines lead to one content
one_end : (s : Content) (lines : List (List ℕ)) (t u : Content) → AreGood s lines t → AreGood s lines u → t ≡ u
one_end s [] t u h k = sym h ∙ k
one_end s (line ∷ lines) t u h k =
    elim (judged s (without_cr line)) as (λ r. MatchResult r (λ next. AreGood next lines t) (λ _. ⊥) → MatchResult r (λ next. AreGood next lines u) (λ _. ⊥) → t ≡ u) [
      | Ok next ↦ λ h k. one_end next lines t u h k
      | Err met ↦ λ h k. absurd h
    ] h k

-- there is one first bad line
one_bad : (k : ℕ) (s : Content) (lines : List (List ℕ)) (m n : ℕ) (c d : Cause) → IsFirstBad k s lines m c → IsFirstBad k s lines n d → (m ≡ n) × (c ≡ d)
one_bad k s [] m n c d h i = absurd h
one_bad k s (line ∷ lines) m n c d h i =
    elim (judged s (without_cr line)) as (λ r. MatchResult r (λ next. IsFirstBad (k + 1) next lines m c) (λ met. (m ≡ k) × (c ≡ met)) → MatchResult r (λ next. IsFirstBad (k + 1) next lines n d) (λ met. (n ≡ k) × (d ≡ met)) → (m ≡ n) × (c ≡ d)) [
      | Ok next ↦ λ h i. one_bad (k + 1) next lines m n c d h i
      | Err met ↦ λ h i. (h.0 ∙ sym i.0, h.1 ∙ sym i.1)
    ] h i

-- where a line is bad not all are good
good_or_bad : (k : ℕ) (s : Content) (lines : List (List ℕ)) (t : Content) (n : ℕ) (c : Cause) → AreGood s lines t → IsFirstBad k s lines n c → ⊥
good_or_bad k s [] t n c h i = i
good_or_bad k s (line ∷ lines) t n c h i =
    elim (judged s (without_cr line)) as (λ r. MatchResult r (λ next. AreGood next lines t) (λ _. ⊥) → MatchResult r (λ next. IsFirstBad (k + 1) next lines n c) (λ met. (n ≡ k) × (c ≡ met)) → ⊥) [
      | Ok next ↦ λ h i. good_or_bad (k + 1) next lines t n c h i
      | Err met ↦ λ h i. h
    ] h i

pub one_content : (bytes : List ℕ) (s t : Content) → IsScript bytes s → IsScript bytes t → s ≡ t
one_content bytes s t h k = one_end nothing (raw_lines bytes) s t h.good k.good

pub never_both : (bytes : List ℕ) (s : Content) (n : ℕ) (c : Cause) → IsScript bytes s → IsBad bytes n c → ⊥
never_both bytes s n c h (inl long) = omega (arith, h.few, long.long)
never_both bytes s n c h (inr (inl bad)) = good_or_bad 1 nothing (raw_lines bytes) s n c h.good bad.first
never_both bytes s n c h (inr (inr lacks)) =
    let same = one_end nothing (raw_lines bytes) s lacks.content h.good lacks.good in
    let none : length s.nodes ≡ 0 = ap (λ x. length x.nodes) same ∙ ap length lacks.no_node in
    omega (arith, h.some_node, none)

pub one_fault : (bytes : List ℕ) (m n : ℕ) (c d : Cause) → IsBad bytes m c → IsBad bytes n d → (m ≡ n) × (c ≡ d)
one_fault bytes m n c d (inl h) (inl k) = (h.line ∙ sym k.line, h.cause_is ∙ sym k.cause_is)
one_fault bytes m n c d (inl h) (inr (inl k)) = absurd (omega (arith, h.long, k.few))
one_fault bytes m n c d (inl h) (inr (inr k)) = absurd (omega (arith, h.long, k.few))
one_fault bytes m n c d (inr (inl h)) (inl k) = absurd (omega (arith, k.long, h.few))
one_fault bytes m n c d (inr (inl h)) (inr (inl k)) = one_bad 1 nothing (raw_lines bytes) m n c d h.first k.first
one_fault bytes m n c d (inr (inl h)) (inr (inr k)) = absurd (good_or_bad 1 nothing (raw_lines bytes) k.content m c k.good h.first)
one_fault bytes m n c d (inr (inr h)) (inl k) = absurd (omega (arith, k.long, h.few))
one_fault bytes m n c d (inr (inr h)) (inr (inl k)) = absurd (good_or_bad 1 nothing (raw_lines bytes) h.content n d h.good k.first)
one_fault bytes m n c d (inr (inr h)) (inr (inr k)) = (h.line ∙ sym k.line, h.cause_is ∙ sym k.cause_is)

-- lines are all good, or one is the first bad one
good_or_first_bad : (k : ℕ) (s : Content) (lines : List (List ℕ)) → ((t : Content) × AreGood s lines t) ⊎ ((n : ℕ) × (c : Cause) × IsFirstBad k s lines n c)
good_or_first_bad k s [] = inl (s, refl)
good_or_first_bad k s (line ∷ lines) =
    elim (judged s (without_cr line)) as (λ r. ((t : Content) × MatchResult r (λ next. AreGood next lines t) (λ _. ⊥)) ⊎ ((n : ℕ) × (c : Cause) × MatchResult r (λ next. IsFirstBad (k + 1) next lines n c) (λ met. (n ≡ k) × (c ≡ met)))) [
      | Ok next ↦ good_or_first_bad (k + 1) next lines
      | Err met ↦ inr (k, met, (refl, refl))
    ]

-- a script, or no script
pub either_one : (bytes : List ℕ) → ((s : Content) × IsScript bytes s) ⊎ ((n : ℕ) × (c : Cause) × IsBad bytes n c)
either_one bytes = by_length (nat_le (length bytes) SCRIPT_BYTES) refl where
  with_nodes : (s : Content) → length bytes ≤ SCRIPT_BYTES → AreGood nothing (raw_lines bytes) s → (nodes : List NodeRow) → s.nodes ≡ nodes → ((s : Content) × IsScript bytes s) ⊎ ((n : ℕ) × (c : Cause) × IsBad bytes n c)
  with_nodes s few good [] e = inr (1, NoNode, inr (inr (record { few = few; content = s; good = good; no_node = e; line = refl; cause_is = refl })))
  with_nodes s few good (row ∷ rows) e =
      let count : length s.nodes ≡ length (row ∷ rows) = ap length e in
      inl (s, record { few = few; good = good; some_node = omega (arith, count) })

  by_lines : length bytes ≤ SCRIPT_BYTES → ((t : Content) × AreGood nothing (raw_lines bytes) t) ⊎ ((n : ℕ) × (c : Cause) × IsFirstBad 1 nothing (raw_lines bytes) n c) → ((s : Content) × IsScript bytes s) ⊎ ((n : ℕ) × (c : Cause) × IsBad bytes n c)
  by_lines few (inl good) = with_nodes good.0 few good.1 good.0.nodes refl
  by_lines few (inr bad) = inr (bad.0, bad.1, inr (inl (record { few = few; first = bad.2 })))

  by_length : (t : Bool) → nat_le (length bytes) SCRIPT_BYTES ≡ t → ((s : Content) × IsScript bytes s) ⊎ ((n : ℕ) × (c : Cause) × IsBad bytes n c)
  by_length true e = by_lines (search (rules, e)) (good_or_first_bad 1 nothing (raw_lines bytes))
  by_length false e = inr (0, TooLong, inl (record { long = search (rules, e); line = refl; cause_is = refl }))
