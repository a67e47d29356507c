-- A mark comes to one node after the other.
use Rattle.std.proofs.Common.{◌≡◌, ◌≢◌, ℕ, zero, suc, ◌+◌, ◌<◌, ◌≤◌, Some, List, [], ◌∷◌, length, inl, inr, refl, sym, ap, subst, ◌∙◌, arith}
use Rattle.std.specs.Prelude.{slice_get, slice_set}
use Rattle.std.proofs.lemmas.Bool.{cases_eq}
use Rattle.std.proofs.lemmas.Option.{slice_get_within}
use Rattle.uid_names.proofs.ListLemmas.{set-there, set-else}
use Rattle.world_core.specs.declared.station.Station.{Station}
use Rattle.world_core.specs.SentMarks.{IsMarked, AreMarked}

pub set_many : {A : Type 0} (xs : List A) (i : ℕ) (y : A) → length (slice_set xs i y) ≡ length xs
set_many [] i y = refl
set_many (x ∷ xs) zero y = refl
set_many (x ∷ xs) (suc i) y = ap suc (set_many xs i y)

module _ {P G : Type 0} (at phase tick : ℕ) (old : List (Station P G)) where
  -- the nodes before this place got the mark
  pub record IsMarking (i : ℕ) (new : List (Station P G)) : Type 0 where
    pub many : length new ≡ length old
    pub rest : (n : ℕ) → i ≤ n → slice_get new n ≡ slice_get old n
    pub sender : slice_get new at ≡ slice_get old at
    pub others : (n : ℕ) (x y : Station P G) → n < i → n ≢ at → slice_get old n ≡ Some x → slice_get new n ≡ Some y → IsMarked at phase tick x y

  pub no_mark : IsMarking 0 old
  no_mark = record { many = refl; rest = λ n past. refl; sender = refl; others = λ n x y before differs e f. absurd (omega (arith, before)) }

  pub mark_more : (i : ℕ) (new : List (Station P G)) (x y : Station P G) → IsMarking i new → i < length new → i ≢ at → slice_get new i ≡ Some x → IsMarked at phase tick x y
      → IsMarking (i + 1) (slice_set new i y)
  mark_more i new x y is within differs there got = record {
    many = set_many new i y ∙ is.many;
    rest = λ n past. set-else new i n y (λ e. absurd (omega (arith, past, e))) ∙ is.rest n (omega (arith, past));
    sender = set-else new i at y (λ e. differs (sym e)) ∙ is.sender;
    others = by_place;
  }
    where
      by_place : (n : ℕ) (a b : Station P G) → n < i + 1 → n ≢ at → slice_get old n ≡ Some a → slice_get (slice_set new i y) n ≡ Some b → IsMarked at phase tick a b
      by_place n a b before away e f = elim (cases_eq n i) [
        | inl same ↦
            (let here : slice_get new n ≡ Some x = ap (slice_get new) same ∙ there in
            let first : x ≡ a = (let r = is.rest n (omega (arith, same)) in cc) in
            let set : slice_get (slice_set new i y) n ≡ Some y = ap (slice_get (slice_set new i y)) same ∙ set-there new i y within in
            let second : y ≡ b = cc in
            subst (λ z. IsMarked at phase tick a z) second (subst (λ z. IsMarked at phase tick z y) first got))
        | inr other ↦ is.others n a b (omega (arith, before, other)) away e (sym (set-else new i n y other) ∙ f)
      ]

  pub mark_not : (new : List (Station P G)) → IsMarking at new → IsMarking (at + 1) new
  mark_not new is = record {
    many = is.many;
    rest = λ n past. is.rest n (omega (arith, past));
    sender = is.sender;
    others = λ n x y before differs e f. is.others n x y (omega (arith, before, differs)) differs e f;
  }

  pub marked_all : (i : ℕ) (new : List (Station P G)) → length new ≤ i → IsMarking i new → AreMarked at phase tick old new
  marked_all i new past is = record {
    sender = is.sender;
    others = λ n x y differs e f. is.others n x y (let within = slice_get_within new n y f in omega (arith, within, past)) differs e f;
  }
