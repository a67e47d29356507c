-- The first program of a process in a list of programs.
use Rattle.std.proofs.Common.{◌≡◌, ◌≢◌, ℕ, zero, suc, ◌+◌, ◌<◌, ◌==◌, Bool, true, false, ◌||◌, is_some, List, [], ◌∷◌, Option, Some, length, take, drop, ◌++◌, get_or, set, sym, ◌∙◌, ap, refl, arith, rules}
use Rattle.std.proofs.lemmas.List.{drop_more}
use Rattle.std.specs.List.{list_any}
use Rattle.node_core.specs.Programs.{program_by, program_in, numbers_in, IsFirstAt}

-- an item, and what is behind it
pub item-front : {X : Type 0} (xs : List X) (i : ℕ) (x : X) → i < length xs → x ≡ get_or xs i x → drop i xs ≡ x ∷ drop (i + 1) xs
item-front xs i x h is = drop_more xs i x h ∙ ap (λ y. y ∷ drop (i + 1) xs) (sym is)

module _ {S : Type 0} where
  -- the program there is the process's
  pub first-program : (es : List (ℕ × S)) (p i : ℕ) (e : ℕ × S) → IsFirstAt es p i → i < length es → e ≡ get_or es i e → program_in es p ≡ Some e.1
  first-program [] p i e f h is = elim f [ ]
  first-program (d ∷ es) p zero e f h is = let same : (d.0 == p) ≡ true = search rules in rw same (ap (λ (x : ℕ × S). Some x.1) (sym is))
  first-program (d ∷ es) p (suc i) e f h is = let other : (d.0 == p) ≡ false = search rules in rw other (first-program es p i e f.1 (omega arith) is)

  -- there is one where its number stands somewhere
  some-by : (b : Bool) (x : S) (o : Option S) → is_some o ≡ true → is_some (program_by b x o) ≡ true
  some-by true x o there = refl
  some-by false x o there = there

  pub program-there : (es : List (ℕ × S)) (p i : ℕ) (e : ℕ × S) → i < length es → e ≡ get_or es i e → e.0 ≡ p → is_some (program_in es p) ≡ true
  program-there [] p i e h is number = absurd (omega (arith, h))
  program-there (d ∷ es) p zero e h is number =
      let own : d.0 ≡ p = ap (λ (x : ℕ × S). x.0) (sym is) ∙ number in
      let same : (d.0 == p) ≡ true = search rules in
      rw same refl
  program-there (d ∷ es) p (suc i) e h is number = some-by (d.0 == p) d.1 (program_in es p) (program-there es p i e (omega (arith, h)) is number)

  pub first-number : (es : List (ℕ × S)) (p i : ℕ) (e : ℕ × S) → IsFirstAt es p i → i < length es → e ≡ get_or es i e → e.0 ≡ p
  first-number [] p i e f h is = elim f [ ]
  first-number (d ∷ es) p zero e f h is = ap (λ (x : ℕ × S). x.0) is ∙ f
  first-number (d ∷ es) p (suc i) e f h is = first-number es p i e f.1 (omega arith) is

  -- where another program stands in its place
  pub set-program : (es : List (ℕ × S)) (p i n : ℕ) (y : S) → IsFirstAt es p i → i < length es → n ≡ p → program_in (set es i (n, y)) p ≡ Some y
  set-program [] p i n y f h e = elim f [ ]
  set-program (d ∷ es) p zero n y f h e = let same : (n == p) ≡ true = search rules in rw same refl
  set-program (d ∷ es) p (suc i) n y f h e = let other : (d.0 == p) ≡ false = search rules in rw other (set-program es p i n y f.1 (omega arith) e)

  pub set-others : (es : List (ℕ × S)) (p i n : ℕ) (y : S) → IsFirstAt es p i → n ≡ p → (q : ℕ) → q ≢ p → program_in (set es i (n, y)) q ≡ program_in es q
  set-others [] p i n y f e q h = elim f [ ]
  set-others (d ∷ es) p zero n y f e q h =
      let other : (n == q) ≡ false = search rules in
      let differs : (d.0 == q) ≡ false = search rules in
      ap (λ b. program_by b y (program_in es q)) other ∙ sym (ap (λ b. program_by b d.1 (program_in es q)) differs)
  set-others (d ∷ es) p (suc i) n y f e q h = ap (program_by (d.0 == q) d.1) (set-others es p i n y f.1 e q h)

  pub set-numbers : (es : List (ℕ × S)) (p i n : ℕ) (y : S) → IsFirstAt es p i → n ≡ p → numbers_in (set es i (n, y)) ≡ numbers_in es
  set-numbers [] p i n y f e = elim f [ ]
  set-numbers (d ∷ es) p zero n y f e = ap (λ m. m ∷ numbers_in es) (e ∙ sym f)
  set-numbers (d ∷ es) p (suc i) n y f e = ap (λ ns. d.0 ∷ ns) (set-numbers es p i n y f.1 e)

  -- where it is taken out
  pub remove-others : (es : List (ℕ × S)) (p i : ℕ) → IsFirstAt es p i → (q : ℕ) → q ≢ p → program_in (take i es ++ drop (suc i) es) q ≡ program_in es q
  remove-others [] p i f q h = elim f [ ]
  remove-others (d ∷ es) p zero f q h = let differs : (d.0 == q) ≡ false = search rules in sym (ap (λ b. program_by b d.1 (program_in es q)) differs)
  remove-others (d ∷ es) p (suc i) f q h = ap (program_by (d.0 == q) d.1) (remove-others es p i f.1 q h)

-- whether a process has a program
pub has-program : {S : Type 0} (es : List (ℕ × S)) (p : ℕ) → list_any (λ q. q == p) (numbers_in es) ≡ is_some (program_in es p)
has-program {S = S} [] p = refl
has-program {S = S} (e ∷ es) p = by_first (e.0 == p) (list_any (λ q. q == p) (numbers_in es)) (program_in es p) (has-program es p)
  where
    by_first : (b : Bool) (there : Bool) (o : Option S) → there ≡ is_some o → (b || there) ≡ is_some (program_by b e.1 o)
    by_first true there o is = refl
    by_first false there o is = is
