-- Words ask for one thing alone.
use Rattle.std.proofs.Common.{◌≡◌, ◌⊎◌, ◌∙◌, ℕ, Option, Some, None, List, [], ◌∷◌, length, map, inl, inr, refl, sym, ap, subst, slice_index_or, arith}
use Rattle.std.specs.Prelude.{codes, String, string_bytes, unwrap_or}
use Rattle.dom_text.specs.Numbers.{number_spelled}
use Rattle.script_runner.specs.declared.words.Asked.{Asked}
use Rattle.script_runner.specs.declared.words.Asked.TheVariants.{Reads, Generates}
use Rattle.script_runner.specs.Words.{AskFor, AskToRun, AskToCheck, IsTaken, AskToRead, AskToGenerate}

-- the word at a place
abbrev word_at : ℕ → List (List ℕ) → List ℕ
word_at i words = slice_index_or words i []

-- a word spells one number
one_number : (x y : List ℕ) (m n : ℕ) → x ≡ y → number_spelled x ≡ Some m → number_spelled y ≡ Some n → m ≡ n
one_number x y m n same first second = ap (λ (o : Option ℕ). unwrap_or o 0) (sym first ∙ (ap number_spelled same ∙ second))

-- and `--turns` none
no_number : (x : List ℕ) (n : ℕ) → x ≡ codes "--turns" → number_spelled x ≡ Some n → ⊥
no_number x n is number =
    let spelled : None ≡ Some n = ap number_spelled (sym is) ∙ number in
    absurd (cc)

read_first : (words : List (List ℕ)) (turns : Option ℕ) → AskToRead words turns → word_at 0 words ≡ codes "run"
read_first words None are = ap (word_at 0) are
read_first words (Some turns) are = ap (word_at 0) are.are

generate_first : (words : List (List ℕ)) (seed : ℕ) (turns : Option ℕ) → AskToGenerate words seed turns → word_at 0 words ≡ codes "gen"
generate_first words seed None are = ap (word_at 0) are.are
generate_first words seed (Some turns) are = by_place are.are
  where
    by_place : {X Y : List (List ℕ)} → (words ≡ codes "gen" ∷ X) ⊎ (words ≡ codes "gen" ∷ Y) → word_at 0 words ≡ codes "gen"
    by_place (inl are) = ap (word_at 0) are
    by_place (inr are) = ap (word_at 0) are

-- no words ask for both
never_both : (words : List (List ℕ)) (read : Option ℕ) (seed : ℕ) (turns : Option ℕ) → AskToRead words read → AskToGenerate words seed turns → ⊥
never_both words read seed turns reads generates =
    let same : codes "run" ≡ codes "gen" = sym (read_first words read reads) ∙ generate_first words seed turns generates in
    let letters : 114 ≡ 103 = ap (λ (word : List ℕ). slice_index_or word 0 0) same in
    absurd (omega (arith, letters))

-- one number of turns
turns_once : (words : List (List ℕ)) (m n : Option ℕ) → AskToRead words m → AskToRead words n → m ≡ n
turns_once words None None first second = refl
turns_once words None (Some n) first second =
    let lengths : 1 ≡ 3 = ap length (sym first ∙ second.are) in absurd (omega (arith, lengths))
turns_once words (Some m) None first second =
    let lengths : 1 ≡ 3 = ap length (sym second ∙ first.are) in absurd (omega (arith, lengths))
turns_once words (Some m) (Some n) first second =
    ap Some (one_number first.word second.word m n (ap (word_at 2) (sym first.are ∙ second.are)) first.number second.number)

-- two words are not four
not_four : (words : List (List ℕ)) (a b c d e f x y z w : List ℕ) → words ≡ a ∷ (b ∷ []) → (words ≡ c ∷ (d ∷ (e ∷ (f ∷ [])))) ⊎ (words ≡ x ∷ (y ∷ (z ∷ (w ∷ [])))) → ⊥
not_four words a b c d e f x y z w two (inl four) = let lengths : 2 ≡ 4 = ap length (sym two ∙ four) in absurd (omega (arith, lengths))
not_four words a b c d e f x y z w two (inr four) = let lengths : 2 ≡ 4 = ap length (sym two ∙ four) in absurd (omega (arith, lengths))

-- one seed, and one number of turns
seeds_once : (words : List (List ℕ)) (m n : ℕ) (t u : Option ℕ) → AskToGenerate words m t → AskToGenerate words n u → Generates m t ≡ Generates n u
seeds_once words m n None None first second =
    ap (λ (seed : ℕ). Generates seed None) (one_number first.word second.word m n (ap (word_at 1) (sym first.are ∙ second.are)) first.number second.number)
seeds_once words m n None (Some u) first second = absurd (not_four words _ _ _ _ _ _ _ _ _ _ first.are second.are)
seeds_once words m n (Some t) None first second = absurd (not_four words _ _ _ _ _ _ _ _ _ _ second.are first.are)
seeds_once words m n (Some t) (Some u) first second = by_place first.are second.are
  where
    both : (i j : ℕ) → word_at i words ≡ first.seed_word → word_at j words ≡ first.turns_word → word_at i words ≡ second.seed_word → word_at j words ≡ second.turns_word → Generates m (Some t) ≡ Generates n (Some u)
    both i j seed turns other others =
        ap (λ (s : ℕ). Generates s (Some t)) (one_number first.seed_word second.seed_word m n (sym seed ∙ other) first.seed_number second.seed_number)
        ∙ ap (λ (k : ℕ). Generates n (Some k)) (one_number first.turns_word second.turns_word t u (sym turns ∙ others) first.turns_number second.turns_number)

    by_place : (words ≡ codes "gen" ∷ (first.seed_word ∷ (codes "--turns" ∷ (first.turns_word ∷ [])))) ⊎ (words ≡ codes "gen" ∷ (codes "--turns" ∷ (first.turns_word ∷ (first.seed_word ∷ []))))
        → (words ≡ codes "gen" ∷ (second.seed_word ∷ (codes "--turns" ∷ (second.turns_word ∷ [])))) ⊎ (words ≡ codes "gen" ∷ (codes "--turns" ∷ (second.turns_word ∷ (second.seed_word ∷ []))))
        → Generates m (Some t) ≡ Generates n (Some u)
    by_place (inl are) (inl others) = both 1 3 (ap (word_at 1) are) (ap (word_at 3) are) (ap (word_at 1) others) (ap (word_at 3) others)
    by_place (inl are) (inr others) = absurd (no_number first.seed_word m (sym (ap (word_at 1) are) ∙ ap (word_at 1) others) first.seed_number)
    by_place (inr are) (inl others) = absurd (no_number second.seed_word n (sym (ap (word_at 1) others) ∙ ap (word_at 1) are) second.seed_number)
    by_place (inr are) (inr others) = both 3 2 (ap (word_at 3) are) (ap (word_at 2) are) (ap (word_at 3) others) (ap (word_at 2) others)

-- words ask for one thing
asked_once : {Z : Type 0} (words : List (String Z)) (a b : Asked) → AskFor words a → AskFor words b → a ≡ b
asked_once words (Reads t) (Reads u) first second = ap Reads (turns_once (map string_bytes words) t u first second)
asked_once words (Reads t) (Generates n u) first second = absurd (never_both (map string_bytes words) t n u first second)
asked_once words (Generates m t) (Reads u) first second = absurd (never_both (map string_bytes words) u m t second first)
asked_once words (Generates m t) (Generates n u) first second = seeds_once (map string_bytes words) m n t u first second

-- words that ask for a run don't ask for a check
pub run_or_check : {Z : Type 0} (words : List (String Z)) (a : Asked) → AskFor words a → AskToCheck words → ⊥
run_or_check words (Reads turns) runs checks =
    let same : codes "run" ≡ codes "check" = sym (read_first (map string_bytes words) turns runs) ∙ ap (word_at 0) checks in
    let letters : 114 ≡ 99 = ap (λ (word : List ℕ). slice_index_or word 0 0) same in
    absurd (omega (arith, letters))
run_or_check words (Generates seed turns) runs checks =
    let same : codes "gen" ≡ codes "check" = sym (generate_first (map string_bytes words) seed turns runs) ∙ ap (word_at 0) checks in
    let letters : 103 ≡ 99 = ap (λ (word : List ℕ). slice_index_or word 0 0) same in
    absurd (omega (arith, letters))

-- words that ask for neither are not taken
pub neither : {Z : Type 0} (words : List (String Z)) → (AskToRun words → ⊥) → (AskToCheck words → ⊥) → IsTaken words → ⊥
neither words runs checks (inl is) = runs is
neither words runs checks (inr is) = checks is

-- so what holds of what they ask for holds of all that they ask for
pub of_each : {Z : Type 0} (words : List (String Z)) (a : Asked) → AskFor words a → (P : Asked → Type 0) → P a → (b : Asked) → AskFor words b → P b
of_each words a first P holds b second = subst P (asked_once words a b first second) holds
