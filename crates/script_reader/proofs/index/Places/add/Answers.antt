use Rattle.std.proofs.Common.{◌≡◌, ◌<◌, ◌++◌, ◌∷◌, ℕ, List, [], length, get_or, set, sym, ◌∙◌, ap, arith}
use Rattle.std.specs.Prelude.{OnOk, Result}
use Rattle.std.proofs.lemmas.List.{get_or_default}
use Rattle.std.proofs.lemmas.Grind.{get_or-set_at}
use Rattle.script_reader.proofs.index.Places.add.Goals as goal

-- what was added to one list
own : (E : Type 0) (lists : List (List ℕ)) (i j : ℕ) (old new : List ℕ) (place : ℕ) (r : Result (Unit {0}) E) → i < length lists → i ≡ j → old ≡ get_or lists i old → OnOk r (new ≡ old ++ place ∷ [])
    → OnOk r (get_or (set lists i new) j [] ≡ get_or lists j [] ++ place ∷ [])
own E lists i j old new place r within same is h =
    let was : get_or lists j [] ≡ old = ap (λ k. get_or lists k []) (sym same) ∙ (get_or_default lists i [] old within ∙ sym is) in
    let now : get_or (set lists i new) j [] ≡ new = get_or-set_at lists i j new [] (sym same) within in
    rw (was, now) h

pub returns-clause-own : goal.returns-clause-own
returns-clause-own c = rw (← c.self.view_is) (own _ c.self.inside.lists.items c.place.result _ c.index_mut-places.result.now c.push.new.self c.args.place c.push.result (omega (arith, c.self.invariant, c.place.ensures.bound)) c.place.ensures.value c.index_mut-places.ensures.value c.push.ensures.ok)
