use Rattle.std.proofs.Common.{◌≡◌, ◌<◌, ℕ, List, [], ◌∷◌, ◌++◌, true, false, take, drop, length, slice_index, get_or, add-zero, ap, sym, subst, ◌∙◌, arith}
use Rattle.std.specs.Prelude.{All}
use Rattle.std.proofs.lemmas.List.{append-nil, take-append-drop, get_or-drop, length-drop}
use Rattle.std.proofs.lemmas.List.Splits.{slice_split_at, slice_split_none}
use Rattle.event_views.specs.LineWords.{is_between, words_in}
use Rattle.event_views.proofs.finding.cut_word.Goals as goal

-- the byte at a place is the first of those from there on
byte_at : (line : List ℕ) (end : ℕ) (b : ℕ) (behind : List ℕ) → drop end line ≡ b ∷ behind → (end < length line) × (slice_index line end ≡ b)
byte_at line end b behind e =
    let l : length (drop end line) ≡ length (b ∷ behind) = ap length e in
    (omega (arith, length-drop end line, l), ap (λ n. get_or line n 0) (sym (add-zero end)) ∙ (sym (get_or-drop end line 0 0) ∙ ap (λ t. get_or t 0 0) e))

-- where nothing is left, the word is the whole
whole_word : (word rest : List ℕ) → length rest ≡ 0 → word ++ rest ≡ word
whole_word word [] none = append-nil word
whole_word word (b ∷ rest) none = absurd (omega (arith, none))

-- the words where a line is cut
cut-words : (line : List ℕ) (end b : ℕ) (behind : List ℕ) → All (λ x. is_between x ≡ false) (take end line) → is_between b ≡ true → drop end line ≡ b ∷ behind
    → words_in line ≡ take end line ∷ words_in behind
cut-words line end b behind word cut back =
    ap words_in (sym (take-append-drop end line) ∙ ap (λ t. take end line ++ t) back) ∙ slice_split_at is_between (take end line) b behind word cut

alone-word : (line : List ℕ) (end : ℕ) → All (λ x. is_between x ≡ false) (take end line) → length (drop end line) ≡ 0 → words_in line ≡ line ∷ []
alone-word line end word none =
    let whole : line ≡ take end line = sym (take-append-drop end line) ∙ whole_word (take end line) (drop end line) none in
    slice_split_none is_between line (subst (λ (t : List ℕ). All (λ x. is_between x ≡ false) t) (sym whole) word)

pub returns-in-Some-clause-words : goal.returns-in-Some-clause-words
returns-in-Some-clause-words c =
    let line = c.args.line.now in
    let end = c.word_end.result in
    let b = c.in-Some.field-0-0.now in
    let behind = c.in-Some.behind.now in
    let cut : drop end line ≡ b ∷ behind = sym c.split_at.ensures.back ∙ c.in-Some.ensures.cases.0 in
    let at = byte_at line end b behind cut in
    cut-words line end b behind c.word_end.ensures.word (subst (λ x. is_between x ≡ true) at.1 (c.word_end.ensures.end at.0)) cut
    ∙ ap (λ word. word ∷ words_in behind) (sym c.split_at.ensures.front)

pub returns-in-None-clause-words : goal.returns-in-None-clause-words
returns-in-None-clause-words c =
    alone-word c.args.line.now c.word_end.result c.word_end.ensures.word (subst (λ (t : List ℕ). length t ≡ 0) c.split_at.ensures.back c.in-None.ensures.cases)
