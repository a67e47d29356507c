-- Copies that stand in another order, by their numbers.
use Rattle.std.proofs.Common.{◌≡◌, ◌∙◌, Bool, true, false, cond, List, [], ◌∷◌, ◌++◌, get_or, refl, sym, ap, arith}
use Rattle.std.specs.Prelude.{filter, if◌then◌else◌, All}
use Rattle.std.proofs.lemmas.Bool.Decides.{nat_tests}
use Rattle.std.proofs.lemmas.List.Elements.{All-nil, All-cons, All-head, All-tail, All-filter}
use Rattle.uid_names.specs.InOrder.{put_in_order}
use Rattle.uid_names.proofs.InOrder.{put_in_order-all}
use Rattle.ring_links.specs.declared.link.Later.{Later}
use Rattle.ring_links.specs.Later.{has_lower, falls_before, by_number}

module _ {A : Type 0} where
  abbrev pub IsNoLower : Later A → Later A → Type 0
  IsNoLower c d = has_lower d c ≡ false

  -- none has a lower number than one before it
  abbrev pub Rises : List (Later A) → Type 0
  Rises [] = Unit {0}
  Rises (c ∷ cs) = All (IsNoLower c) cs × Rises cs

  lower-turned : (c d : Later A) → has_lower c d ≡ true → has_lower d c ≡ false
  lower-turned c d e = grind (arith, nat_tests, e)

  no-lower-over : (c d e : Later A) → has_lower d c ≡ false → has_lower e d ≡ false → has_lower e c ≡ false
  no-lower-over c d e h k = grind (arith, nat_tests, h, k)

  -- what stands behind one that is no lower is no lower
  behind-no-lower : (c d : Later A) (cs : List (Later A)) → has_lower d c ≡ false → All (IsNoLower d) cs → All (IsNoLower c) (d ∷ cs)
  behind-no-lower c d cs e rest = All-cons (IsNoLower c) d cs e (λ k x below. no-lower-over c d (get_or cs k x) e (rest k x below))

  put-first : (c : Later A) (cs : List (Later A)) → All (IsNoLower c) cs → put_in_order has_lower c cs ≡ c ∷ cs
  put-first c [] none = refl
  put-first c (d ∷ cs) none = rw (All-head (IsNoLower c) d cs none) refl

  put-rises : (c : Later A) (cs : List (Later A)) → Rises cs → Rises (put_in_order has_lower c cs)
  put-rises c [] rises = (All-nil (IsNoLower c), tt)
  put-rises c (d ∷ cs) rises = by_test (has_lower d c) refl (put-rises c cs rises.1)
    where
      by_test : (b : Bool) → has_lower d c ≡ b → Rises (put_in_order has_lower c cs) → Rises (if b then d ∷ put_in_order has_lower c cs else c ∷ d ∷ cs)
      by_test true e others = (put_in_order-all has_lower (IsNoLower d) c cs (lower-turned d c e) rises.0, others)
      by_test false e others = (behind-no-lower c d cs e rises.0, rises)

  number-rises : (cs : List (Later A)) → Rises (by_number cs)
  number-rises [] = tt
  number-rises (c ∷ cs) = put-rises c (by_number cs) (number-rises cs)

  -- copies whose numbers rise stay where they are
  pub number-same : (cs : List (Later A)) → Rises cs → by_number cs ≡ cs
  number-same [] rises = refl
  number-same (c ∷ cs) rises = ap (put_in_order has_lower c) (number-same cs rises.1) ∙ put-first c cs rises.0

  -- what holds of each does so by number
  number-all : (P : Later A → Type 0) (cs : List (Later A)) → All P cs → All P (by_number cs)
  number-all P [] all = all
  number-all P (c ∷ cs) all = put_in_order-all has_lower P c (by_number cs) (All-head P c cs all) (number-all P cs (All-tail P c cs all))

  module _ (p : Later A → Bool) where
    kept-first : (c d : Later A) (cs : List (Later A)) → has_lower d c ≡ false → All (IsNoLower d) cs → put_in_order has_lower c (filter p (d ∷ cs)) ≡ c ∷ filter p (d ∷ cs)
    kept-first c d cs e rest = put-first c (filter p (d ∷ cs)) (All-filter p (IsNoLower c) (d ∷ cs) (behind-no-lower c d cs e rest))

    -- what a test keeps of copies with one more
    filter-put : (c : Later A) (cs : List (Later A)) → Rises cs → filter p (put_in_order has_lower c cs) ≡ (if p c then put_in_order has_lower c (filter p cs) else filter p cs)
    filter-put c [] rises = refl
    filter-put c (d ∷ cs) rises = by_test (has_lower d c) (p d) (p c) refl refl refl (filter-put c cs rises.1)
      where
        by_test : (b k m : Bool) → has_lower d c ≡ b → p d ≡ k → p c ≡ m → filter p (put_in_order has_lower c cs) ≡ (if p c then put_in_order has_lower c (filter p cs) else filter p cs)
            → filter p (if b then d ∷ put_in_order has_lower c cs else c ∷ d ∷ cs) ≡ (if m then put_in_order has_lower c (filter p (d ∷ cs)) else filter p (d ∷ cs))
        by_test true true true e f g others = rw (f, others, g, e) refl
        by_test true true false e f g others = rw (f, others, g) refl
        by_test true false true e f g others = rw (f, others, g) refl
        by_test true false false e f g others = rw (f, others, g) refl
        by_test false k true e f g others = ap (λ (b : Bool). cond b (c ∷ filter p (d ∷ cs)) (filter p (d ∷ cs))) g ∙ sym (kept-first c d cs e rises.0)
        by_test false k false e f g others = ap (λ (b : Bool). cond b (c ∷ filter p (d ∷ cs)) (filter p (d ∷ cs))) g

    -- a test keeps the same by number
    pub filter-number : (cs : List (Later A)) → filter p (by_number cs) ≡ by_number (filter p cs)
    filter-number [] = refl
    filter-number (c ∷ cs) = filter-put c (by_number cs) (number-rises cs) ∙ by_test (p c) refl (filter-number cs)
      where
        by_test : (m : Bool) → p c ≡ m → filter p (by_number cs) ≡ by_number (filter p cs) → (if p c then put_in_order has_lower c (filter p (by_number cs)) else filter p (by_number cs)) ≡ by_number (filter p (c ∷ cs))
        by_test true g others = rw (g, others) refl
        by_test false g others = rw (g, others) refl

  -- one with a greater number than all stands last
  put-last : (new : Later A) (cs : List (Later A)) → All (λ c. has_lower c new ≡ true) cs → put_in_order has_lower new cs ≡ cs ++ new ∷ []
  put-last new [] all = refl
  put-last new (c ∷ cs) all =
      rw (All-head (λ d. has_lower d new ≡ true) c cs all) (ap (λ (ds : List (Later A)). c ∷ ds) (put-last new cs (All-tail (λ d. has_lower d new ≡ true) c cs all)))

  put-before_last : (c new : Later A) (cs : List (Later A)) → has_lower c new ≡ true → put_in_order has_lower c (cs ++ new ∷ []) ≡ put_in_order has_lower c cs ++ new ∷ []
  put-before_last c new [] low = rw (lower-turned c new low) refl
  put-before_last c new (d ∷ cs) low = by_test (has_lower d c) (put-before_last c new cs low)
    where
      by_test : (b : Bool) → put_in_order has_lower c (cs ++ new ∷ []) ≡ put_in_order has_lower c cs ++ new ∷ []
          → (if b then d ∷ put_in_order has_lower c (cs ++ new ∷ []) else c ∷ d ∷ (cs ++ new ∷ [])) ≡ (if b then d ∷ put_in_order has_lower c cs else c ∷ d ∷ cs) ++ new ∷ []
      by_test true others = ap (λ (ds : List (Later A)). d ∷ ds) others
      by_test false others = refl

  -- and it does so wherever it stood
  pub number-put : (new : Later A) (cs : List (Later A)) → All (λ c. has_lower c new ≡ true) cs → by_number (put_in_order falls_before new cs) ≡ by_number cs ++ new ∷ []
  number-put new [] all = refl
  number-put new (c ∷ cs) all = by_test (falls_before c new) (number-put new cs (All-tail (λ d. has_lower d new ≡ true) c cs all))
    where
      by_test : (b : Bool) → by_number (put_in_order falls_before new cs) ≡ by_number cs ++ new ∷ []
          → by_number (if b then c ∷ put_in_order falls_before new cs else new ∷ c ∷ cs) ≡ by_number (c ∷ cs) ++ new ∷ []
      by_test true others = ap (put_in_order has_lower c) others ∙ put-before_last c new (by_number cs) (All-head (λ d. has_lower d new ≡ true) c cs all)
      by_test false others = put-last new (by_number (c ∷ cs)) (number-all (λ d. has_lower d new ≡ true) (c ∷ cs) all)
