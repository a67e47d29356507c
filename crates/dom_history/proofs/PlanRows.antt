-- The rows of a plan, one by one: no frame has two.
use Rattle.std.proofs.Common.{◌≡◌, ℕ, zero, suc, ◌<◌, false, List, [], ◌∷◌, length, take, slice_index_or, refl, sym, subst, arith}
use Rattle.std.specs.Prelude.{All, AllPairs}
use Rattle.std.proofs.lemmas.List.Elements.{All-cons, All-nil, All-head, All-tail}
use Rattle.dom_history.specs.declared.plan.FateRow.{FateRow}
use Rattle.dom_history.specs.Plans.{is_of_frame, is_set, IsPlan}

abbrev pub IsApart : FateRow → FateRow → Type 0
IsApart a b = is_of_frame b.from b.to b.index a ≡ false

none_set : (rows : List FateRow) (from to index : ℕ) → All (λ a. is_of_frame from to index a ≡ false) rows → is_set rows from to index ≡ false
none_set [] from to index all = refl
none_set (a ∷ rows) from to index all =
    let here : is_of_frame from to index a ≡ false = All-head (λ a. is_of_frame from to index a ≡ false) a rows all in
    let rest = none_set rows from to index (All-tail (λ a. is_of_frame from to index a ≡ false) a rows all) in
    rw here rest

earlier : (rows : List FateRow) (i : ℕ) (r : FateRow) → AllPairs IsApart rows → i < length rows → r ≡ slice_index_or rows i r → All (λ a. IsApart a r) (take i rows)
earlier [] i r once below is = absurd (omega (arith, below))
earlier (a ∷ rows) zero r once below is = All-nil (λ a. IsApart a r)
earlier (a ∷ rows) (suc i) r once below is =
    All-cons (λ a. IsApart a r) a (take i rows) (subst (IsApart a) (sym is) (once 0 (suc i) r (omega arith) below))
    (earlier rows i r (λ j k d under within. once (suc j) (suc k) d (omega (arith, under)) (omega (arith, within))) (omega (arith, below)) is)

-- no row before this one is of its frame
pub unset_before : (rows : List FateRow) (i : ℕ) (r : FateRow) → IsPlan rows → i < length rows → r ≡ slice_index_or rows i r → is_set (take i rows) r.from r.to r.index ≡ false
unset_before rows i r plan below is = none_set (take i rows) r.from r.to r.index (earlier rows i r plan.once below is)
