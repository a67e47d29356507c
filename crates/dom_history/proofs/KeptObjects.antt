-- What is looked up among the objects that are kept.
use Rattle.std.proofs.Common.{◌≡◌, ◌+◌, ℕ, Bool, true, false, List, [], ◌∷◌, ◌++◌, refl, sym, ◌∙◌, ap, append-nil}
use Rattle.std.specs.Prelude.{filter, find, not, is_some, ◌==◌, ◌&&◌, if◌then◌else◌}
use Rattle.std.proofs.lemmas.List.Elements.{filter-append}
use Rattle.uid_names.specs.Names.{ObjectName, same_uid}
use Rattle.uid_names.specs.declared.opening.Object.{Object}
use Rattle.uid_names.proofs.Orders.{same_uid_is}
use Rattle.dom_history.proofs.Volumes.{rooms, rooms-push}

-- one object more takes room only where it is kept, and at its home
pub kept-rooms-push : (h : ℕ) (keep : Object → Bool) (xs : List Object) (o : Object) (deleted : Bool) → keep o ≡ not deleted
    → rooms h (filter keep (xs ++ o ∷ [])) ≡ (if deleted then rooms h (filter keep xs) else (if o.uid.home == h then rooms h (filter keep xs) + o.room else rooms h (filter keep xs)))
kept-rooms-push h keep xs o true e = rw (filter-append keep xs (o ∷ []), e) (ap (rooms h) (append-nil (filter keep xs)))
kept-rooms-push h keep xs o false e = rw (filter-append keep xs (o ∷ []), e) (rooms-push h (filter keep xs) o)

-- nothing passes what is false
and-false : (b : Bool) → false ≡ (b && false)
and-false true = refl
and-false false = refl

-- an object of a name is there where it was made and its name is not gone
pub find-present : (gone : ObjectName → Bool) (xs : List Object) (u : ObjectName) → is_some (find (λ o. same_uid o.uid u) (filter (λ o. not (gone o.uid)) xs)) ≡ (is_some (find (λ o. same_uid o.uid u) xs) && not (gone u))
find-present gone [] u = refl
find-present gone (o ∷ xs) u = by_tests (gone o.uid) (same_uid o.uid u) refl refl (find-present gone xs u)
  where
    by_tests : (g s : Bool) → gone o.uid ≡ g → same_uid o.uid u ≡ s → is_some (find (λ x. same_uid x.uid u) (filter (λ x. not (gone x.uid)) xs)) ≡ (is_some (find (λ x. same_uid x.uid u) xs) && not (gone u))
        → is_some (find (λ x. same_uid x.uid u) (filter (λ x. not (gone x.uid)) (o ∷ xs))) ≡ (is_some (find (λ x. same_uid x.uid u) (o ∷ xs)) && not (gone u))
    by_tests true true e f others =
        let named : gone u ≡ true = ap gone (sym (same_uid_is o.uid u f)) ∙ e in
        let fails : (is_some (find (λ x. same_uid x.uid u) xs) && not (gone u)) ≡ false = rw named (sym (and-false (is_some (find (λ x. same_uid x.uid u) xs)))) in
        rw (e, f, named) (others ∙ fails)
    by_tests true false e f others = rw (e, f) others
    by_tests false true e f others =
        let named : gone u ≡ false = ap gone (sym (same_uid_is o.uid u f)) ∙ e in
        rw (e, f, named) refl
    by_tests false false e f others = rw (e, f) others
