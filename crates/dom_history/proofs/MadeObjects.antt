-- The objects that were made, with one more, and after one effect more.
use Rattle.std.proofs.Common.{◌≡◌, ◌<◌, ℕ, Bool, true, List, [], ◌∷◌, ◌++◌, refl, sym, ◌∙◌, ap, take, length, get_or, ◌+◌}
use Rattle.std.specs.Prelude.{find, Some}
use Rattle.std.proofs.lemmas.List.Folds.{find-append}
use Rattle.std.proofs.lemmas.List.{take_more, append_assoc}
use Rattle.uid_names.specs.Names.{ProcName}
use Rattle.uid_names.specs.Openings.{Start}
use Rattle.uid_names.specs.declared.opening.Object.{Object}
use Rattle.dom_history.specs.declared.op.Op.{Op}
use Rattle.dom_history.specs.declared.op.Op.TheVariants.{New, Lock, Unlock, Delete, Store, Map, Unmap}
use Rattle.dom_history.specs.declared.op.Reply.{Reply}
use Rattle.dom_history.specs.declared.op.Reply.TheVariants.{Made, Fine, At}
use Rattle.dom_history.specs.StoreEffects.{StoreEffect, store_effect}
use Rattle.dom_history.specs.Objects.{made}

-- one element more behind others
pub one-more : {X : Type 0} (xs ys : List X) (i : ℕ) (y : X) → i < length ys → y ≡ get_or ys i y → xs ++ take (i + 1) ys ≡ (xs ++ take i ys) ++ y ∷ []
one-more xs ys i y inside is =
    let last : get_or ys i y ∷ [] ≡ y ∷ [] = ap (λ z. z ∷ []) (sym is) in
    ap (λ zs. xs ++ zs) (take_more ys i y inside ∙ ap (λ zs. take i ys ++ zs) last) ∙ sym (append_assoc xs (take i ys) (y ∷ []))

-- what was found is still the first after one effect more
pub found-step : (p : ProcName) (op : Op) (reply : Reply) (opening : Start) (past : List StoreEffect) (test : Object → Bool) (o : Object) → find test (made opening past) ≡ Some o → find test (made opening (store_effect p op reply ++ past)) ≡ Some o
found-step p (New home kind room) (Made v) opening past test o h = find-append test (made opening past) (record { uid = v; kind = kind; room = room } ∷ []) ∙ rw h refl
found-step p (Lock v m) Fine opening past test o h = h
found-step p (Unlock v) Fine opening past test o h = h
found-step p (Delete v) Fine opening past test o h = h
found-step p (Store spot bytes) Fine opening past test o h = h
found-step p (Map v) (At address true) opening past test o h = h
found-step p (Unmap v) Fine opening past test o h = h
found-step p _ _ opening past test o h = h
