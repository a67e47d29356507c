-- Sources that are too long, and sources that have a script.
use Rattle.std.proofs.Common.{◌≡◌, ◌≤◌, ◌+◌, ℕ, zero, suc, Option, Some, None, Ok, Err, List, [], ◌∷◌, length, refl, sym, ap, subst, arith, inl, inr}
use Rattle.std.specs.Prelude.{MatchResult}
use Rattle.uid_names.specs.declared.limits.TheConstants.{SCRIPT_BYTES}
use Rattle.std.specs.Io.KnownBytes.{IsAtEnd}
use Rattle.dom_io.specs.Known.{Exceeds, left_after}
use Rattle.script_reader.specs.declared.cause.Cause.{Cause}
use Rattle.script_reader.specs.declared.cause.Cause.TheVariants.{TooLong}
use Rattle.script_reader.specs.Scripts.{Content}
use Rattle.script_reader.specs.Grammar.{IsScript, IsBad, IsFirstBad, nothing, raw_lines, without_cr}
use Rattle.script_reader.specs.Judging.{judged}
use Rattle.script_runner.specs.Outside.{Bytes, from_to}
use Rattle.script_runner.specs.Domain.{AreLeft, IsSourceOf, IsTakenTo, IsBadSource, IsRefusalOfSource}
use Rattle.script_runner.specs.Promises.{HasScript, LacksScript}

-- so many zeros
pub zeros : ℕ → List ℕ
zeros zero = []
zeros (suc n) = 0 ∷ zeros n

pub length-zeros : (n : ℕ) → length (zeros n) ≡ n
unfolding zeros
length-zeros zero = refl
length-zeros (suc n) = ap suc (length-zeros n)

-- a source of more bytes than a script has is bad
pub too_long_is_bad : (before after : Option (List ℕ)) → Exceeds before SCRIPT_BYTES → after ≡ left_after (SCRIPT_BYTES + 1) before → IsBadSource (from_to before after) 0 TooLong
too_long_is_bad None after exceeds taken = record {
  bytes = zeros (SCRIPT_BYTES + 1);
  are_left = tt;
  bad = inl (record { long = omega (arith, length-zeros (SCRIPT_BYTES + 1)); line = refl; cause_is = refl });
  taken = taken;
}
too_long_is_bad (Some left) after exceeds taken = record {
  bytes = left;
  are_left = refl;
  bad = inl (record { long = exceeds; line = refl; cause_is = refl });
  taken = taken;
}

-- the first bad line is counted from the first one
first_bad : (k : ℕ) (s : Content) (lines : List (List ℕ)) (n : ℕ) (cause : Cause) → IsFirstBad k s lines n cause → k ≤ n
first_bad k s [] n cause bad = absurd bad
first_bad k s (line ∷ lines) n cause bad =
    elim (judged s (without_cr line)) as (λ r. MatchResult r (λ next. IsFirstBad (k + 1) next lines n cause) (λ met. (n ≡ k) × (cause ≡ met)) → k ≤ n) [
      | Ok next ↦ λ bad. (let further = first_bad (k + 1) next lines n cause bad in omega (arith, further))
      | Err met ↦ λ bad. (let is = bad.0 in omega (arith, is))
    ] bad

-- bytes that are not too long are bad at a line that is counted, and are taken to their end
pub all_taken : (left : Bytes) (bytes : List ℕ) (line : ℕ) (cause : Cause) → length bytes ≤ SCRIPT_BYTES → IsBad bytes line cause → IsAtEnd left.after → IsTakenTo line left
all_taken left bytes zero cause few (inl long) end = absurd (let exceeds = long.long in omega (arith, few, exceeds))
all_taken left bytes zero cause few (inr (inl bad)) end = absurd (let low = first_bad 1 nothing (raw_lines bytes) 0 cause bad.first in omega (arith, low))
all_taken left bytes zero cause few (inr (inr lacks)) end = absurd (let is = lacks.line in omega (arith, is))
all_taken left bytes (suc line) cause few bad end = end

-- bytes that are a script have no bad line
abbrev pub AreNeverBoth : Type 0
AreNeverBoth = (bytes : List ℕ) (s : Content) (n : ℕ) (c : Cause) → IsScript bytes s → IsBad bytes n c → ⊥

-- and they are one script
abbrev pub AreOneContent : Type 0
AreOneContent = (bytes : List ℕ) (s t : Content) → IsScript bytes s → IsScript bytes t → s ≡ t

-- so the script of a source is the one that it has left
pub same_script : AreOneContent → (left : Bytes) (has : HasScript left.before) (s : Content) → IsSourceOf left s → s ≡ has.script
same_script one left has s source =
    let same : has.bytes ≡ source.bytes = subst (λ (l : Option (List ℕ)). AreLeft l source.bytes) has.left_is source.are_left in
    one source.bytes s has.script source.form (subst (λ (b : List ℕ). IsScript b has.script) same has.form)

-- and there is none where it has no script left
pub not_lacking : (left : Bytes) (s : Content) → IsSourceOf left s → LacksScript left.before → ⊥
not_lacking left s source lacks =
    let same : lacks.bytes ≡ source.bytes = subst (λ (l : Option (List ℕ)). AreLeft l source.bytes) lacks.left_is source.are_left in
    lacks.none s (subst (λ (b : List ℕ). IsScript b s) (sym same) source.form)

-- so a source that has a script left is not refused
pub script_not_refused : (left : Bytes) (text : List ℕ) → AreNeverBoth → HasScript left.before → IsRefusalOfSource left text → ⊥
script_not_refused left text never has refused =
    let same : has.bytes ≡ refused.bad.bytes = subst (λ (l : Option (List ℕ)). AreLeft l refused.bad.bytes) has.left_is refused.bad.are_left in
    never refused.bad.bytes has.script refused.line refused.cause (subst (λ (b : List ℕ). IsScript b has.script) same has.form) refused.bad.bad
