-- Copies in the order in which they fall: those that fall behind the next frame come first.
use Rattle.std.proofs.Common.{◌≡◌, ◌∙◌, ◌≢◌, ℕ, ◌+◌, ◌<◌, ◌≤◌, Bool, true, false, cond, List, [], ◌∷◌, ◌++◌, map, get_or, drop, refl, sym, ap, subst, append-nil, eq-eqb, ne_eqb, arith}
use Rattle.std.specs.Prelude.{◌==◌, not, filter, Option, IfSome, IfNone, slice_get, All, IsTrue}
use Rattle.std.proofs.lemmas.Bool.{eqb-true}
use Rattle.std.proofs.lemmas.Bool.Decides.{nat_tests}
use Rattle.std.proofs.lemmas.List.{append_assoc}
use Rattle.std.proofs.lemmas.List.Elements.{All-nil, All-cons, All-head, All-tail, All-filter, All-weaker, filter_passes}
use Rattle.uid_names.specs.InOrder.{AreInOrder}
use Rattle.uid_names.proofs.Finds.{filter-all, filter-none}
use Rattle.uid_names.proofs.InOrder.{AllPairs-head, AllPairs-tail}
use Rattle.ring_links.specs.declared.entry.Entry.{Entry}
use Rattle.ring_links.specs.declared.link.Later.{Later}
use Rattle.ring_links.specs.Carried.{copy_of, falling, staying}
use Rattle.ring_links.specs.Later.{is_before, falls_before, has_lower, by_number, is_behind, AreLater, HaveFallen}
use Rattle.ring_links.proofs.ByNumber.{Rises, number-same, filter-number}

-- what falls before one that falls before a copy does so too
pub before-it : {A : Type 0} (a b : Later A) (behind index : ℕ) → falls_before a b ≡ true → is_before behind index b ≡ true → is_before behind index a ≡ true
before-it a b behind index e f = grind (arith, nat_tests, e, f)

above-apart : (past b : ℕ) → past + 1 < b → b ≢ past + 1
above-apart past b h same = absurd (omega (arith, h, same))

module _ {A : Type 0} where
  abbrev waits_as : Later A → Entry A
  waits_as c = copy_of c.received c.index

  abbrev Before : Later A → Later A → Type 0
  Before a b = IsTrue (falls_before a b)

  -- of two that fall behind one frame the first has the lower number
  no-lower : (j : ℕ) (c d : Later A) → (c.behind == j) ≡ true → (d.behind == j) ≡ true → falls_before c d ≡ true → has_lower d c ≡ false
  no-lower j c d e f g = grind (arith, nat_tests, e, f, g)

  behind-rises : (j : ℕ) (cs : List (Later A)) → AreInOrder falls_before cs → Rises (filter (λ c. c.behind == j) cs)
  behind-rises j [] order = tt
  behind-rises j (c ∷ cs) order = by_test (c.behind == j) refl (behind-rises j cs (AllPairs-tail Before c cs order))
    where
      first : All (Before c) cs
      first = AllPairs-head Before c cs order

      by_test : (b : Bool) → (c.behind == j) ≡ b → Rises (filter (λ d. d.behind == j) cs) → Rises (cond b (c ∷ filter (λ d. d.behind == j) cs) (filter (λ d. d.behind == j) cs))
      by_test true e others = (
        λ k x below.
            no-lower j c (get_or (filter (λ (d : Later A). d.behind == j) cs) k x) e (filter_passes (λ (d : Later A). d.behind == j) cs k x below) (All-filter (λ (d : Later A). d.behind == j) (Before c) cs first k x below),
        others,
      )
      by_test false e others = others

  -- the first one, where it falls behind a frame
  pub first-popped : (j : ℕ) (old new : List (Later A)) (r : Option (Later A)) → r ≡ slice_get old 0 → new ≡ drop 1 old → is_behind j (slice_get old 0) ≡ true
      → IfSome r (λ c. (c.behind ≡ j) × (old ≡ c ∷ new)) × IfNone r ((new ≡ old) × (is_behind j (slice_get old 0) ≡ false))
  first-popped j [] new r first rest falls = absurd cc
  first-popped j (c ∷ cs) new r first rest falls =
      subst (λ (o : Option (Later A)). IfSome o (λ d. (d.behind ≡ j) × (c ∷ cs ≡ d ∷ new)) × IfNone o ((new ≡ c ∷ cs) × ((c.behind == j) ≡ false))) (sym first)
      ((eqb-true c.behind j falls, ap (λ (ds : List (Later A)). c ∷ ds) (sym rest)), tt)

  -- what falls behind a frame is the same by number; what stays, stays by number
  falling-number : (j : ℕ) (cs : List (Later A)) → AreInOrder falls_before cs → falling j (by_number cs) ≡ falling j cs
  falling-number j cs order =
      ap (map waits_as) (filter-number (λ (c : Later A). c.behind == j) cs ∙ number-same (filter (λ (c : Later A). c.behind == j) cs) (behind-rises j cs order))

  staying-number : (j : ℕ) (cs : List (Later A)) → staying j (by_number cs) ≡ by_number (staying j cs)
  staying-number j cs = filter-number (λ (c : Later A). not (c.behind == j)) cs

  -- the first one falls behind the frame
  first-falls : (j : ℕ) (c : Later A) (cs : List (Later A)) → c.behind ≡ j → falling j (c ∷ cs) ≡ waits_as c ∷ falling j cs
  first-falls j c cs same = ap (λ (b : Bool). map waits_as (cond b (c ∷ filter (λ (d : Later A). d.behind == j) cs) (filter (λ (d : Later A). d.behind == j) cs))) (eq-eqb c.behind j same)

  first-goes : (j : ℕ) (c : Later A) (cs : List (Later A)) → c.behind ≡ j → staying j (c ∷ cs) ≡ staying j cs
  first-goes j c cs same = ap (λ (b : Bool). cond (not b) (c ∷ staying j cs) (staying j cs)) (eq-eqb c.behind j same)

  -- one less
  less-later : (sent past : ℕ) (c : Later A) (cs : List (Later A)) → AreLater sent past (c ∷ cs) → AreLater sent past cs
  less-later sent past c cs are = record {
    rising = AllPairs-tail Before c cs are.rising;
    numbers = All-tail (λ (d : Later A). d.index ≤ sent) c cs are.numbers;
    ahead = All-tail (λ (d : Later A). past < d.behind) c cs are.ahead;
  }

  -- behind one that falls later none falls sooner
  over : (past : ℕ) (a b : Later A) → past < a.behind → falls_before a b ≡ true → past < b.behind
  over past a b h k = grind (arith, nat_tests, h, k)

  above : (past : ℕ) (c : Later A) → past < c.behind → (c.behind == past + 1) ≡ false → past + 1 < c.behind
  above past c h k = grind (arith, nat_tests, h, k)

  -- none falls behind the next frame where the first does not
  later-ahead : (sent past : ℕ) (cs : List (Later A)) → AreLater sent past cs → is_behind (past + 1) (slice_get cs 0) ≡ false → All (λ c. past + 1 < c.behind) cs
  later-ahead sent past [] are e = All-nil (λ (c : Later A). past + 1 < c.behind)
  later-ahead sent past (c ∷ cs) are e =
      let here : past + 1 < c.behind = above past c (All-head (λ (d : Later A). past < d.behind) c cs are.ahead) e in
      All-cons (λ (d : Later A). past + 1 < d.behind) c cs here (λ k x below. over (past + 1) c (get_or cs k x) here (AllPairs-head Before c cs are.rising k x below))

  none-falls : (past : ℕ) (cs : List (Later A)) → All (λ c. past + 1 < c.behind) cs → falling (past + 1) cs ≡ []
  none-falls past cs ahead =
      ap (map waits_as) (filter-none (λ (c : Later A). c.behind == past + 1) cs (λ k x below.
      ne_eqb (get_or cs k x).behind (past + 1) (above-apart past (get_or cs k x).behind (ahead k x below))))

  all-stay : (past : ℕ) (cs : List (Later A)) → All (λ c. past + 1 < c.behind) cs → staying (past + 1) cs ≡ cs
  all-stay past cs ahead =
      filter-all (λ (c : Later A). not (c.behind == past + 1)) cs (λ k x below.
      ap not (ne_eqb (get_or cs k x).behind (past + 1) (above-apart past (get_or cs k x).behind (ahead k x below))))

  -- so far in a pass over the copies that fall: what waits and what falls yet is what was to wait
  pub record AreFalling (frames : ℕ) (before : List (Entry A)) (old : List (Later A)) (waiting : List (Entry A)) (later : List (Later A)) : Type 0 where
    pub falls : waiting ++ falling (frames + 1) later ≡ before ++ falling (frames + 1) old
    pub stays : staying (frames + 1) later ≡ staying (frames + 1) old
    pub are : AreLater (frames + 1) frames later

  pub none-fell : (frames : ℕ) (before : List (Entry A)) (old : List (Later A)) → AreLater (frames + 1) frames old → AreFalling frames before old before old
  none-fell frames before old are = record { falls = refl; stays = refl; are = are }

  -- one more fell
  pub one-fell : (frames : ℕ) (before : List (Entry A)) (old : List (Later A)) (waiting : List (Entry A)) (later : List (Later A)) (c : Later A) (rest : List (Later A))
      → AreFalling frames before old waiting later → c.behind ≡ frames + 1 → later ≡ c ∷ rest → AreFalling frames before old (waiting ++ copy_of c.received c.index ∷ []) rest
  one-fell frames before old waiting later c rest falling-yet same split =
      let here : AreFalling frames before old waiting (c ∷ rest) = subst (AreFalling frames before old waiting) split falling-yet in
      record {
        falls =
            append_assoc waiting (waits_as c ∷ []) (falling (frames + 1) rest)
            ∙ ap (λ (es : List (Entry A)). waiting ++ es) (sym (first-falls (frames + 1) c rest same))
            ∙ here.falls;
        stays = sym (first-goes (frames + 1) c rest same) ∙ here.stays;
        are = less-later (frames + 1) frames c rest here.are;
      }

  -- all fell where the first does not fall
  pub all-fell : (frames : ℕ) (before : List (Entry A)) (old : List (Later A)) (waiting : List (Entry A)) (later : List (Later A))
      → AreInOrder falls_before old → AreFalling frames before old waiting later → is_behind (frames + 1) (slice_get later 0) ≡ false → HaveFallen frames before waiting old later
  all-fell frames before old waiting later order fell none =
      let ahead : All (λ (c : Later A). frames + 1 < c.behind) later = later-ahead (frames + 1) frames later fell.are none in
      record {
        waits =
            sym (append-nil waiting)
            ∙ ap (λ (es : List (Entry A)). waiting ++ es) (sym (none-falls frames later ahead))
            ∙ fell.falls
            ∙ ap (λ (es : List (Entry A)). before ++ es) (sym (falling-number (frames + 1) old order));
        stays = ap by_number (sym (all-stay frames later ahead) ∙ fell.stays) ∙ sym (staying-number (frames + 1) old);
        ahead = record { rising = fell.are.rising; numbers = fell.are.numbers; ahead = ahead };
      }

  -- a frame more was sent
  pub one_sent : (sent past : ℕ) (cs : List (Later A)) → AreLater sent past cs → AreLater (sent + 1) past cs
  one_sent sent past cs are = record {
    rising = are.rising;
    numbers = All-weaker (λ (c : Later A). c.index ≤ sent) (λ (c : Later A). c.index ≤ sent + 1) (λ c h. omega (arith, h)) cs are.numbers;
    ahead = are.ahead;
  }
