-- What is delivered and what is taken, matched as either comes.
use Rattle.std.proofs.Common.{◌≡◌, ◌≢◌, ◌⊎◌, ℕ, List, [], ◌∷◌, ◌++◌, map, inl, inr, refl, sym, ap, ◌∙◌}
use Rattle.std.proofs.lemmas.List.{append-nil, append_assoc, map-append}
use Rattle.run_journals.specs.Matching.{Taken, at_line, AreMatched, AreApart}

abbrev pub index_of : Taken → ℕ
index_of t = t.index

-- one more of the common part
pub indices-more : (common : List Taken) (t : Taken) (waiting : List ℕ) → map index_of common ++ t.index ∷ waiting ≡ map index_of (common ++ t ∷ []) ++ waiting
indices-more common t waiting =
    sym (append_assoc (map index_of common) (t.index ∷ []) waiting) ∙ ap (λ (xs : List ℕ). xs ++ waiting) (sym (map-append index_of common (t ∷ [])))

-- a frame is taken where nothing waits
pub take-early : (delivered : List ℕ) (taken early : List Taken) (t : Taken) → AreMatched delivered taken [] early → AreMatched delivered (taken ++ t ∷ []) [] (early ++ t ∷ [])
take-early delivered taken early t m = record {
  common = m.common;
  delivered_are = m.delivered_are;
  taken_are = ap (λ (ts : List Taken). ts ++ t ∷ []) m.taken_are ∙ append_assoc m.common early (t ∷ []);
  one_side = inl refl;
}

-- a frame is taken where one waits: nothing was taken early
none-early : (delivered waiting : List ℕ) (taken early : List Taken) (x : ℕ) → AreMatched delivered taken (x ∷ waiting) early → early ≡ []
none-early delivered waiting taken early x m = by m.one_side
  where
    by : (x ∷ waiting ≡ []) ⊎ (early ≡ []) → early ≡ []
    by (inl is) = absurd (cc)
    by (inr is) = is

taken-whole : (delivered waiting : List ℕ) (taken early : List Taken) (x : ℕ) (t : Taken) (m : AreMatched delivered taken (x ∷ waiting) early) → taken ++ t ∷ [] ≡ m.common ++ t ∷ []
taken-whole delivered waiting taken early x t m =
    ap (λ (ts : List Taken). ts ++ t ∷ []) (m.taken_are ∙ ap (λ (ts : List Taken). m.common ++ ts) (none-early delivered waiting taken early x m) ∙ append-nil m.common)

pub take-same : (delivered waiting : List ℕ) (taken early : List Taken) (x : ℕ) (t : Taken) → AreMatched delivered taken (x ∷ waiting) early → t.index ≡ x → AreMatched delivered (taken ++ t ∷ []) waiting early
take-same delivered waiting taken early x t m same =
    let none = none-early delivered waiting taken early x m in
    record {
      common = m.common ++ t ∷ [];
      delivered_are = m.delivered_are ∙ ap (λ (y : ℕ). map index_of m.common ++ y ∷ waiting) (sym same) ∙ indices-more m.common t waiting;
      taken_are = taken-whole delivered waiting taken early x t m ∙ sym (append-nil (m.common ++ t ∷ [])) ∙ ap (λ (ts : List Taken). (m.common ++ t ∷ []) ++ ts) (sym none);
      one_side = inr none;
    }

pub take-other : (delivered waiting : List ℕ) (taken early : List Taken) (x : ℕ) (t : Taken) → AreMatched delivered taken (x ∷ waiting) early → t.index ≢ x → AreApart delivered (taken ++ t ∷ []) t.line
take-other delivered waiting taken early x t m differ = record {
  common = m.common;
  other = x;
  more = waiting;
  index = t.index;
  rest = [];
  delivered_are = m.delivered_are;
  taken_are = taken-whole delivered waiting taken early x t m;
  differ = differ;
}

-- lists that are apart stay so
pub apart-more : (delivered more : List ℕ) (taken ts : List Taken) (line : ℕ) → AreApart delivered taken line → AreApart (delivered ++ more) (taken ++ ts) line
apart-more delivered more taken ts line a = record {
  common = a.common;
  other = a.other;
  more = a.more ++ more;
  index = a.index;
  rest = a.rest ++ ts;
  delivered_are = ap (λ (xs : List ℕ). xs ++ more) a.delivered_are ∙ append_assoc (map index_of a.common) (a.other ∷ a.more) more;
  taken_are = ap (λ (xs : List Taken). xs ++ ts) a.taken_are ∙ append_assoc a.common (at_line line a.index ∷ a.rest) ts;
  differ = a.differ;
}
