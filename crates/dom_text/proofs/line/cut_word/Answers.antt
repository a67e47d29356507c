use Rattle.std.proofs.Common.{rules, ◌≡◌, ◌<◌, ℕ, List, [], ◌∷◌, ◌++◌, true, false, take, drop, length, slice_index, get_or, add-zero, ap, sym, subst, ◌∙◌, arith}
use Rattle.std.proofs.lemmas.List.{take-append-drop, get_or-drop, length-drop}
use Rattle.dom_text.specs.Spelled.{is_word_byte}
use Rattle.dom_text.specs.Walk.{AreApart}
use Rattle.dom_text.specs.Tokens.{fault_at, is_blank, tokens_of}
use Rattle.dom_text.proofs.Readings.{refuses_so}
use Rattle.dom_text.proofs.Words.{BeginsWithWord, word_is_broken, word_is_first}
use Rattle.dom_text.proofs.line.cut_word.Goals as goal
use Rattle.dom_text.proofs.line.cut_word.Goals.{in_default-via-in-Some+else-not-is_blank, in_default-via-in_default}

-- the byte at a place is the first of those from there on
byte_at : (line : List ℕ) (end : ℕ) (b : ℕ) (behind : List ℕ) → drop end line ≡ b ∷ behind → (end < length line) × (slice_index line end ≡ b)
byte_at line end b behind e =
    let l : length (drop end line) ≡ length (b ∷ behind) = ap length e in
    (omega (arith, length-drop end line, l), ap (λ n. get_or line n 0) (sym (add-zero end)) ∙ (sym (get_or-drop end line 0 0) ∙ ap (λ t. get_or t 0 0) e))

-- what begins with a blank, or is empty, is apart
apart_from : (rest : List ℕ) (b : ℕ) (behind : List ℕ) → rest ≡ b ∷ behind → is_blank b ≡ true → AreApart rest
apart_from rest b behind e h = subst AreApart (sym e) h

apart_at_end : (rest : List ℕ) → length rest ≡ 0 → AreApart rest
apart_at_end [] h = tt
apart_at_end (b ∷ rest) h = absurd (omega (arith, h))

pub returns-in-Some-clause-fault : goal.returns-in-Some-clause-fault
returns-in-Some-clause-fault c =
    let line = c.args.line.now in
    let end = c.word_end-end.result in
    let b = c.in-Some.byte.now in
    let behind = c.in-Some.field-0-1.now in
    let cut : drop end line ≡ b ∷ behind = sym c.split_at.ensures.back ∙ c.in-Some.ensures.cases.0 in
    let whole : line ≡ take end line ++ b ∷ behind = sym (take-append-drop end line) ∙ ap (λ t. take end line ++ t) cut in
    let at = byte_at line end b behind cut in
    let other : is_word_byte b ≡ false = subst (λ x. is_word_byte x ≡ false) at.1 (c.word_end-end.ensures.end at.0) in
    let blank : is_blank b ≡ false = search rules in
    let begun : BeginsWithWord (take end line ++ b ∷ behind) = subst BeginsWithWord whole c.requires.begun in
    let broken = word_is_broken (take end line) b behind begun c.word_end-end.ensures.word other blank in
    rw (c.fault_at.ensures, whole, broken) (refuses_so _ (fault_at b))

pub returns-in_default-clause-word : goal.returns-in_default-clause-word
returns-in_default-clause-word c =
    let line = c.args.line.now in
    let end = c.word_end-end.result in
    let whole : line ≡ take end line ++ drop end line = sym (take-append-drop end line) in
    let apart : AreApart (drop end line) =
    elim c.in_default.branch [
      | in_default-via-in-Some+else-not-is_blank w ↦ apart_from (drop end line) w.in-Some.byte.now w.in-Some.field-0-1.now (sym c.split_at.ensures.back ∙ w.in-Some.ensures.cases.0) (search rules)
      | in_default-via-in_default w ↦ apart_at_end (drop end line) (subst (λ t. length t ≡ 0) c.split_at.ensures.back w.in_default.ensures.cases)
    ] in
    let begun : BeginsWithWord (take end line ++ drop end line) = subst BeginsWithWord whole c.requires.begun in
    let some : 0 < length (take end line ++ drop end line) = subst (λ t. 0 < length t) whole c.requires.some in
    let first = word_is_first (take end line) (drop end line) begun some c.word_end-end.ensures.word apart in
    rw (c.split_at.ensures.front, c.split_at.ensures.back) (ap tokens_of whole ∙ first)
