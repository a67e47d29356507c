-- How many digits a number has, and a text whose last bytes are digits.
use Rattle.std.proofs.Common.{◌≡◌, ℕ, ◌+◌, ◌/◌, ◌<◌, ◌≤◌, List, ◌++◌, length, take, drop, decimal, refl, sym, ap, subst, ◌∙◌, arith}
use Rattle.std.proofs.Math.Seq.{take-add}
use Rattle.std.proofs.lemmas.List.{take_at}
use Rattle.itoa.proofs.Decimal.{length_one, length_two, length_pair}

pub three_digits : (n : ℕ) → 100 ≤ n → n < 1000 → length (decimal n) ≡ 3
three_digits n low high =
    let front = length_one (n / 100) (omega arith) in
    omega (arith, front, length_pair n low (omega arith))

pub four_digits : (n : ℕ) → 1000 ≤ n → n < 10000 → length (decimal n) ≡ 4
four_digits n low high =
    let front = length_two (n / 100) (omega arith) (omega arith) in
    omega (arith, front, length_pair n (omega arith) (omega arith))

-- bytes that were written in front of `end`
pub written_last : (text old new : List ℕ) (start len end : ℕ) → start ≡ len → len + length text ≡ end → drop start new ≡ text ++ drop end old → take start new ≡ take start old → take end new ≡ take len old ++ text
written_last text old new start len end at is behind before =
    let front : take len new ≡ take len old = subst (λ (n : ℕ). take n new ≡ take n old) at before in
    let back : drop len new ≡ text ++ drop end old = subst (λ (n : ℕ). drop n new ≡ text ++ drop end old) at behind in
    sym (ap (λ (n : ℕ). take n new) is) ∙ (take-add len (length text) new ∙ rw (front, back, take_at text (drop end old) (length text) refl) refl)
