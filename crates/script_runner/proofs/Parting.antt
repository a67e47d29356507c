-- Where lines are parted.
use Rattle.std.proofs.Common.{◌≡◌, ◌+◌, ◌∙◌, ℕ, true, false, Option, Some, None, List, [], ◌∷◌, ◌++◌, length, add-zero, refl, ap, arith}
use Rattle.std.specs.Prelude.{bytes_eq, option_map}
use Rattle.dom_text.specs.Cuts.{Lacks}
use Rattle.script_reader.specs.Grammar.{raw_lines}
use Rattle.script_reader.proofs.Reading.{lines-alone, lines-cut}
use Rattle.script_runner.specs.Parted.{parting, bytes_before}

-- a number is added to what was found, and then another
added-twice : (m n : ℕ) (found : Option ℕ) → option_map (λ k. m + k) (option_map (λ k. n + k) found) ≡ option_map (λ k. m + n + k) found
added-twice m n None = refl
added-twice m n (Some k) = ap Some (omega arith)

-- what is found at once stands there
pub found-first : (n : ℕ) (found : Option ℕ) → found ≡ Some 0 → option_map (λ k. n + k) found ≡ Some n
found-first n found is = ap (option_map (λ k. n + k)) is ∙ ap Some (add-zero n)

-- a line that is the line between is the first
pub found-here : (line behind : List ℕ) → Lacks 10 line → bytes_eq line parting ≡ true → bytes_before (raw_lines (line ++ 10 ∷ behind)) ≡ Some 0
unfolding bytes_before
found-here line behind whole is = ap bytes_before (lines-cut line behind whole) ∙ (rw is refl)

-- behind one that is not, what is found further on stands behind it and its LF
pub found-behind : (at : ℕ) (line behind : List ℕ) → Lacks 10 line → bytes_eq line parting ≡ false
    → option_map (λ k. at + k) (bytes_before (raw_lines (line ++ 10 ∷ behind))) ≡ option_map (λ k. at + (length line + 1) + k) (bytes_before (raw_lines behind))
unfolding bytes_before
found-behind at line behind whole other =
    ap (λ lines. option_map (λ k. at + k) (bytes_before lines)) (lines-cut line behind whole)
    ∙ (rw other (added-twice at (length line + 1) (bytes_before (raw_lines behind))))

-- the last line, which has no LF, is the one or is not
pub found-last : (line : List ℕ) → Lacks 10 line → bytes_eq line parting ≡ true → bytes_before (raw_lines line) ≡ Some 0
unfolding bytes_before
found-last [] whole is = absurd (cc)
found-last (b ∷ line) whole is = ap bytes_before (lines-alone (b ∷ line) whole (omega arith)) ∙ (rw is refl)

pub found-nowhere : (line : List ℕ) → Lacks 10 line → bytes_eq line parting ≡ false → bytes_before (raw_lines line) ≡ None
unfolding bytes_before
found-nowhere [] whole other = refl
found-nowhere (b ∷ line) whole other = ap bytes_before (lines-alone (b ∷ line) whole (omega arith)) ∙ (rw other refl)
