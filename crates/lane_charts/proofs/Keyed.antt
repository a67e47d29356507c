-- Places by keys: what one more item changes, and what is read by the places of a key.
use Rattle.std.proofs.Common.{◌≡◌, ◌∙◌, ℕ, ◌+◌, ◌<◌, ◌≤◌, suc, Bool, true, false, Option, Some, None, List, [], ◌∷◌, ◌++◌, length, get_or, replicate, length-set, take, append-nil, refl, sym, ap, subst, arith}
use Rattle.std.specs.Prelude.{◌==◌, cond, count_by, All, IfSome, slice_get, slice_set, slice_index_or}
use Rattle.std.specs.List.{flat_map}
use Rattle.std.proofs.lemmas.Bool.{eqb-true, eqb-false}
use Rattle.std.proofs.lemmas.List.{get_or-replicate, length-replicate, length-take-le, take_more}
use Rattle.std.proofs.lemmas.Option.{slice_get-get_or, get_or_from_slice_get}
use Rattle.std.proofs.lemmas.List.Elements.{All-cons, All-nil}
use Rattle.uid_names.proofs.ListLemmas.{by_cases, count_by-cons, set-there, set-else}
use Rattle.lane_charts.specs.ArrowKeys.{failing_of, key_as, taker_of}
use Rattle.lane_charts.specs.Charts.{EndsAmong, IsArrowOf}
use Rattle.lane_charts.specs.declared.by_row.Standing.{Standing}
use Rattle.lane_charts.specs.declared.by_row.Standing.TheVariants.{Failed, Sent, Taken}
use Rattle.lane_charts.specs.declared.chart.Arrow.{Arrow}
use Rattle.lane_charts.specs.declared.chart.ChartRow.{ChartRow}
use Rattle.lane_charts.specs.declared.chart.Arrival.{Arrival}
use Rattle.lane_charts.specs.declared.chart.Arrival.TheVariants.{Row, Lost, Never}
use Rattle.lane_charts.specs.Places.{AreKeyed, drawn, is_key, place_if, places_of, with_place}

-- ---- one more item

place_before : (b : Bool) (n : ℕ) (ps qs : List ℕ) → place_if b n (ps ++ qs) ≡ place_if b n ps ++ qs
place_before true n ps qs = refl
place_before false n ps qs = refl

module _ {X : Type 0} (test : X → Bool) where
  places_of-push : (n : ℕ) (xs : List X) (x : X) (at : ℕ) → at ≡ n + length xs → places_of test n (xs ++ x ∷ []) ≡ places_of test n xs ++ place_if (test x) at []
  places_of-push n [] x at is = let here : n ≡ at = omega (arith, is) in ap (λ k. place_if (test x) k []) here
  places_of-push n (y ∷ xs) x at is =
      ap (place_if (test y) n) (places_of-push (n + 1) xs x at (omega (arith, is)))
      ∙ place_before (test y) n (places_of test (n + 1) xs) (place_if (test x) at [])

module _ {X : Type 0} (key : X → Option ℕ) where
  abbrev of_key : ℕ → X → Bool
  of_key k x = is_key k (key x)

  pub keyed-none : (keys : ℕ) → AreKeyed key keys (replicate keys []) []
  keyed-none keys =
      let empty : List ℕ = [] in
      let long = length-replicate keys empty in
      record {
        count = long;
        each = λ k low. slice_get-get_or (replicate keys empty) k empty (omega (arith, low, long)) ∙ ap Some (get_or-replicate keys k empty empty low);
      }

  -- the places of a key as one more item comes
  more_of : (k : ℕ) (xs : List X) (x : X) (b : Bool) → of_key k x ≡ b → places_of (of_key k) 0 (xs ++ x ∷ []) ≡ places_of (of_key k) 0 xs ++ place_if b (length xs) []
  more_of k xs x b is =
      places_of-push (of_key k) 0 xs x (length xs) (omega arith)
      ∙ ap (λ t. places_of (of_key k) 0 xs ++ place_if t (length xs) []) is

  same_of : (k : ℕ) (xs : List X) (x : X) → of_key k x ≡ false → places_of (of_key k) 0 (xs ++ x ∷ []) ≡ places_of (of_key k) 0 xs
  same_of k xs x is = more_of k xs x false is ∙ append-nil (places_of (of_key k) 0 xs)

  at_key : (k : ℕ) (lists : List (List ℕ)) (xs : List X) (x : X) → k < length lists → of_key k x ≡ true → slice_get lists k ≡ Some (places_of (of_key k) 0 xs)
      → slice_get (slice_set lists k (slice_index_or lists k [] ++ length xs ∷ [])) k ≡ Some (places_of (of_key k) 0 (xs ++ x ∷ []))
  at_key k lists xs x low is each =
      set-there lists k (slice_index_or lists k [] ++ length xs ∷ []) low
      ∙ ap Some (ap (λ (ps : List ℕ). ps ++ length xs ∷ []) (get_or_from_slice_get lists k (places_of (of_key k) 0 xs) [] each) ∙ sym (more_of k xs x true is))

  put_at : (o : Option ℕ) (keys : ℕ) (lists : List (List ℕ)) (xs : List X) (x : X) → key x ≡ o → IfSome o (λ k. k < keys) → AreKeyed key keys lists xs
      → AreKeyed key keys (with_place o (length xs) lists) (xs ++ x ∷ [])
  put_at None keys lists xs x is low old = record {
    count = old.count;
    each = λ k below. old.each k below ∙ ap Some (sym (same_of k xs x (ap (is_key k) is)));
  }
  put_at (Some j) keys lists xs x is low old = record {
    count = length-set lists j (slice_index_or lists j [] ++ length xs ∷ []) ∙ old.count;
    each = λ k below.
        by_cases
        (j == k)
        (slice_get (slice_set lists j (slice_index_or lists j [] ++ length xs ∷ [])) k ≡ Some (places_of (of_key k) 0 (xs ++ x ∷ [])))
        (λ yes.
        let same = eqb-true j k yes in
        subst (λ (i : ℕ). slice_get (slice_set lists i (slice_index_or lists i [] ++ length xs ∷ [])) k ≡ Some (places_of (of_key k) 0 (xs ++ x ∷ []))) (sym same)
        (at_key k lists xs x (omega (arith, below, old.count)) (ap (is_key k) is ∙ yes) (old.each k below)))
        (λ no.
        set-else lists j k (slice_index_or lists j [] ++ length xs ∷ []) (λ same. eqb-false j k no (sym same))
        ∙ (old.each k below ∙ ap Some (sym (same_of k xs x (ap (is_key k) is ∙ no)))));
  }

  pub keyed-put : (keys : ℕ) (lists : List (List ℕ)) (xs : List X) (x : X) → IfSome (key x) (λ k. k < keys) → AreKeyed key keys lists xs
      → AreKeyed key keys (with_place (key x) (length xs) lists) (xs ++ x ∷ [])
  keyed-put keys lists xs x low old = put_at (key x) keys lists xs x refl low old

  -- one more of the items of a list
  pub keyed-more : (keys i : ℕ) (lists new : List (List ℕ)) (xs : List X) (x : X) → AreKeyed key keys lists (take i xs) → i < length xs → x ≡ get_or xs i x
      → IfSome (key (get_or xs i x)) (λ k. k < keys) → new ≡ with_place (key x) i lists → AreKeyed key keys new (take (i + 1) xs)
  keyed-more keys i lists new xs x old low is within put =
      let count : length (take i xs) ≡ i = length-take-le i xs (omega (arith, low)) in
      let same = put ∙ (ap (λ (y : X). with_place (key y) i lists) is ∙ ap (λ n. with_place (key (get_or xs i x)) n lists) (sym count)) in
      subst (λ (ls : List (List ℕ)). AreKeyed key keys ls (take (i + 1) xs)) (sym same)
      (subst (AreKeyed key keys (with_place (key (get_or xs i x)) (length (take i xs)) lists)) (sym (take_more xs i x low))
      (keyed-put keys lists (take i xs) (get_or xs i x) within old))

-- ---- how many places

module _ {X : Type 0} (test : X → Bool) where
  one_place : (b : Bool) (n : ℕ) (ps : List ℕ) → length (place_if b n ps) ≡ cond b 1 0 + length ps
  one_place true n ps = omega arith
  one_place false n ps = omega arith

  pub length-places_of : (n : ℕ) (xs : List X) → length (places_of test n xs) ≡ count_by test xs
  length-places_of n [] = refl
  length-places_of n (x ∷ xs) = omega (arith, one_place (test x) n (places_of test (n + 1) xs), length-places_of (n + 1) xs, count_by-cons test x xs)

-- ---- the rows of arrows are among those of the chart

taker-low : (rows : List ChartRow) (end : Arrival) → EndsAmong rows end → IfSome (taker_of end) (λ k. k < length rows)
taker-low rows (Row at) low = low
taker-low rows Lost low = tt
taker-low rows Never low = tt

failing-low : (n sender : ℕ) (end : Arrival) → sender < n → IfSome (failing_of sender end) (λ k. k < n)
failing-low n sender (Row at) low = tt
failing-low n sender Lost low = low
failing-low n sender Never low = low

pub key-low : (lanes : List (List ℕ)) (rows : List ChartRow) (standing : Standing) (arrow : Arrow) → IsArrowOf lanes rows arrow → IfSome (key_as standing arrow) (λ k. k < length rows)
key-low lanes rows Taken arrow placed = taker-low rows arrow.end placed.end
key-low lanes rows Failed arrow placed = failing-low (length rows) arrow.sender arrow.end placed.sender
key-low lanes rows Sent arrow placed = placed.sender

-- ---- reading by places

module _ {X : Type 0} (test : X → Bool) where
  within_if : (b : Bool) (n most : ℕ) (ps : List ℕ) → n < most → All (λ p. p < most) ps → All (λ p. p < most) (place_if b n ps)
  within_if true n most ps low all = All-cons (λ p. p < most) n ps low all
  within_if false n most ps low all = all

  pub places_of-within : (n most : ℕ) (xs : List X) → n + length xs ≤ most → All (λ p. p < most) (places_of test n xs)
  places_of-within n most [] low = All-nil (λ p. p < most)
  places_of-within n most (x ∷ xs) low = within_if (test x) n most (places_of test (n + 1) xs) (omega (arith, low)) (places_of-within (n + 1) most xs (omega (arith, low)))

module _ {X : Type 0} (test : X → Bool) (draw f : X → List ℕ) (passes : (x : X) → test x ≡ true → f x ≡ draw x) (fails : (x : X) → test x ≡ false → f x ≡ []) (whole : List X) where
  drawn_if : (b : Bool) (n : ℕ) (x : X) (ps : List ℕ) (more : List ℕ) → test x ≡ b → slice_get whole n ≡ Some x → flat_map (λ p. drawn draw (slice_get whole p)) ps ≡ more
      → flat_map (λ p. drawn draw (slice_get whole p)) (place_if b n ps) ≡ f x ++ more
  drawn_if true n x ps more is there rest =
      ap (λ o. drawn draw o ++ flat_map (λ p. drawn draw (slice_get whole p)) ps) there
      ∙ (ap (λ (t : List ℕ). t ++ flat_map (λ p. drawn draw (slice_get whole p)) ps) (sym (passes x is)) ∙ ap (λ (t : List ℕ). f x ++ t) rest)
  drawn_if false n x ps more is there rest = rest ∙ ap (λ (t : List ℕ). t ++ more) (sym (fails x is))

  -- by the places of the items that pass all is drawn that is to be
  pub drawn-places : (n : ℕ) (xs : List X) → ((i j : ℕ) → i ≡ n + j → slice_get whole i ≡ slice_get xs j)
      → flat_map (λ p. drawn draw (slice_get whole p)) (places_of test n xs) ≡ flat_map f xs
  drawn-places n [] agree = refl
  drawn-places n (x ∷ xs) agree =
      drawn_if (test x) n x (places_of test (n + 1) xs) (flat_map f xs) refl (agree n 0 (omega arith))
      (drawn-places (n + 1) xs (λ i j is. agree i (suc j) (omega (arith, is))))

  -- the places are those of the items that pass
  pub drawn-all : (ps : List ℕ) → ps ≡ places_of test 0 whole → flat_map (λ p. drawn draw (slice_get whole p)) ps ≡ flat_map f whole
  drawn-all ps is =
      ap (λ (qs : List ℕ). flat_map (λ p. drawn draw (slice_get whole p)) qs) is
      ∙ drawn-places 0 whole (λ i j same. ap (slice_get whole) (let here : i ≡ j = omega (arith, same) in here))

-- what is listed for a key
pub keyed-list : {X : Type 0} (key : X → Option ℕ) (keys : ℕ) (lists : List (List ℕ)) (xs : List X) (k : ℕ) (ps : List ℕ) → AreKeyed key keys lists xs → k < keys
    → slice_get lists k ≡ Some ps → ps ≡ places_of (λ x. is_key k (key x)) 0 xs
keyed-list key keys lists xs k ps keyed low there = let each = keyed.each k low in cc

pub listed-within : {X : Type 0} (test : X → Bool) (xs : List X) (ps : List ℕ) → ps ≡ places_of test 0 xs → All (λ p. p < length xs) ps
listed-within test xs ps is = subst (All (λ p. p < length xs)) (sym is) (places_of-within test 0 (length xs) xs (omega arith))
