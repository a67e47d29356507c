-- The lines of a picture are apart, and its texts end where they are to.
use Rattle.std.proofs.Common.{◌≡◌, ◌<◌, ◌≤◌, ◌+◌, ◌*◌, ◌/◌, ◌%◌, ◌⊎◌, inl, inr, ◌∙◌, ℕ, zero, suc, true, List, [], ◌∷◌, ◌++◌, length, length-append, take, get_or, refl, sym, ap, arith}
use Rattle.std.specs.Prelude.{◌==◌, nat_lt, cond}
use Rattle.std.proofs.lemmas.Bool.{eqb-true}
use Rattle.std.proofs.lemmas.List.{get_or_append_left, get_or_push}
use Rattle.std.proofs.lemmas.List.Sums.{count_by-le-length}
use Rattle.uid_names.proofs.ListLemmas.{count_by-cons}
use Rattle.lane_charts.specs.ArrowKeys.{key_as}
use Rattle.lane_charts.specs.Heads.{is_headed}
use Rattle.lane_charts.specs.Layout.{fitting, letters_between, line_of, lines_to, sent_above, sent_at}
use Rattle.lane_charts.specs.Places.{is_key, places_of}
use Rattle.lane_charts.specs.declared.by_row.Standing.TheVariants.{Sent}
use Rattle.lane_charts.specs.declared.chart.Arrow.{Arrow}
use Rattle.lane_charts.proofs.Again.{both}
use Rattle.lane_charts.proofs.Keyed.{length-places_of}

one_more : (s at : ℕ) → cond (nat_lt s (at + 1)) 1 0 ≡ cond (nat_lt s at) 1 0 + cond (s == at) 1 0
one_more s at = grind arith

more_above : (arrows : List Arrow) (at : ℕ) → sent_above (at + 1) arrows ≡ sent_above at arrows + sent_at at arrows
unfolding sent_above sent_at
more_above [] at = refl
more_above (a ∷ arrows) at =
    let here = one_more a.sender at in
    let rest = more_above arrows at in
    let new = count_by-cons (λ (x : Arrow). nat_lt x.sender (at + 1)) a arrows in
    let old = count_by-cons (λ (x : Arrow). nat_lt x.sender at) a arrows in
    let same = count_by-cons (λ (x : Arrow). x.sender == at) a arrows in
    omega (arith, here, rest, new, old, same)

not_below : (s : ℕ) → ◌≡◌ {A = ℕ} (cond (nat_lt s 0) 1 0) 0
not_below s = grind arith

pub none_above : (arrows : List Arrow) → sent_above 0 arrows ≡ 0
unfolding sent_above
none_above [] = refl
none_above (a ∷ arrows) =
    let rest = none_above arrows in
    omega (arith, not_below a.sender, rest, count_by-cons (λ (x : Arrow). nat_lt x.sender 0) a arrows)

pub few_above : (arrows : List Arrow) (at : ℕ) → sent_above at arrows ≤ length arrows
unfolding sent_above
few_above arrows at = count_by-le-length (λ a. nat_lt a.sender at) arrows

-- the arrows above the next row, by the places of those that a row sends
pub next_above : (arrows : List Arrow) (at : ℕ) (ps : List ℕ) → ps ≡ places_of (λ a. is_key at (key_as Sent a)) 0 arrows → sent_above (at + 1) arrows ≡ sent_above at arrows + length ps
unfolding sent_at
next_above arrows at ps is = omega (arith, more_above arrows at, ap length is, length-places_of (λ (a : Arrow). a.sender == at) 0 arrows)

pub line_is : (arrows : List Arrow) (at above : ℕ) → above ≡ sent_above at arrows → 2 + at + at / 50 + above ≡ line_of arrows at
unfolding line_of
line_is arrows at above is = ap (λ n. 2 + at + at / 50 + n) is

pub line_low : (arrows : List Arrow) (at : ℕ) → 2 ≤ line_of arrows at
unfolding line_of
line_low arrows at = omega arith

pub line_high : (arrows : List Arrow) (at : ℕ) → line_of arrows at ≤ 2 + at + at / 50 + length arrows
unfolding line_of
line_high arrows at = omega (arith, few_above arrows at)

length-lines_to : (arrows : List Arrow) (n : ℕ) → length (lines_to arrows n) ≡ n
length-lines_to arrows zero = refl
length-lines_to arrows (suc n) = omega (arith, length-append (lines_to arrows n) (line_of arrows n ∷ []), length-lines_to arrows n)

last_or_before : (n at : ℕ) → at < suc n → (at ≡ n) ⊎ (at < n)
last_or_before n at low = grind arith

line_to : (arrows : List Arrow) (n at : ℕ) → at < n → get_or (lines_to arrows n) at 0 ≡ line_of arrows at
line_to arrows zero at low = absurd (omega (arith, low))
line_to arrows (suc n) at low =
    elim (last_or_before n at low) [
      | inl here ↦ get_or_push (lines_to arrows n) (line_of arrows n) 0 at (length-lines_to arrows n ∙ sym here) ∙ ap (line_of arrows) (sym here)
      | inr before ↦
          get_or_append_left (lines_to arrows n) (line_of arrows n ∷ []) 0 at (omega (arith, before, length-lines_to arrows n)) ∙ line_to arrows n at before
    ]

-- one more line
pub lines_next : (arrows : List Arrow) (at above line : ℕ) (lines more : List ℕ) → above ≡ sent_above at arrows → line ≡ 2 + at + at / 50 + above → lines ≡ lines_to arrows at
    → more ≡ lines ++ line ∷ [] → more ≡ lines_to arrows (at + 1)
lines_next arrows at above line lines more aboves is are put =
    put
    ∙ (ap (λ (l : List ℕ). l ++ line ∷ []) are
    ∙ (ap (λ n. lines_to arrows at ++ n ∷ []) (is ∙ line_is arrows at above aboves) ∙ ap (lines_to arrows) (let next : suc at ≡ at + 1 = omega arith in next)))

-- the line of a row, as it is read
pub line_read : (arrows : List Arrow) (n at : ℕ) (lines : List ℕ) → lines ≡ lines_to arrows n → at < n → get_or lines at 0 ≡ line_of arrows at
line_read arrows n at lines are low = ap (λ (l : List ℕ). get_or l at 0) are ∙ line_to arrows n at low

pub lines_long : (arrows : List Arrow) (n : ℕ) (lines : List ℕ) → lines ≡ lines_to arrows n → length lines ≡ n
lines_long arrows n lines are = ap length are ∙ length-lines_to arrows n

pub next_line : (arrows : List Arrow) (at : ℕ) → line_of arrows at + sent_at at arrows < line_of arrows (at + 1)
unfolding line_of
next_line arrows at = let more = more_above arrows at in omega (arith, more)

pub next_names : (arrows : List Arrow) (at : ℕ) → is_headed (at + 1) ≡ true → line_of arrows at + sent_at at arrows + 1 < line_of arrows (at + 1)
unfolding line_of
next_names arrows at h =
    let more = more_above arrows at in
    let fifty : (at + 1) % 50 ≡ 0 = eqb-true ((at + 1) % 50) 0 (both (nat_lt 0 (at + 1)) (((at + 1) % 50) == 0) h).1 in
    omega (arith, more, fifty)

take_few : (text : List ℕ) (n : ℕ) → length (take n text) ≤ n
take_few [] zero = omega arith
take_few [] (suc n) = omega arith
take_few (b ∷ text) zero = omega arith
take_few (b ∷ text) (suc n) = let rest = take_few text n in omega (arith, rest)

pub text_ends : (left right : ℕ) (text : List ℕ) → left ≤ right → 10 * left + 73 * length (fitting left right text) ≤ 10 * right
text_ends left right text h = let few = take_few text (letters_between left right) in omega (arith, few)
