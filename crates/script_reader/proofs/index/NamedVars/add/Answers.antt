use Rattle.std.proofs.Common.{◌≡◌, ◌<◌, ℕ, List, [], length, get_or, set, sym, ◌∙◌, ap, arith}
use Rattle.std.specs.Prelude.{OnOk, Result}
use Rattle.std.proofs.lemmas.List.{get_or_default}
use Rattle.std.proofs.lemmas.Grind.{get_or-set_at}
use Rattle.script_reader.specs.Walk.Index.{HasAlso}
use Rattle.script_reader.proofs.index.NamedVars.add.Goals as goal

-- what was added to one set
own : (E : Type 0) (sets : List (List (List ℕ))) (i j : ℕ) (old new : List (List ℕ)) (var : List ℕ) (r : Result (Unit {0}) E) → i < length sets → i ≡ j → old ≡ get_or sets i old → OnOk r (HasAlso old new var)
    → OnOk r (HasAlso (get_or sets j []) (get_or (set sets i new) j []) var)
own E sets i j old new var r within same is h =
    let was : get_or sets j [] ≡ old = ap (λ k. get_or sets k []) (sym same) ∙ (get_or_default sets i [] old within ∙ sym is) in
    let now : get_or (set sets i new) j [] ≡ new = get_or-set_at sets i j new [] (sym same) within in
    rw (was, now) h

pub returns-clause-own : goal.returns-clause-own
returns-clause-own c = rw (← c.self.view_is) (own _ c.self.inside.sets.items c.place.result _ c.index_mut-set.result.now c.add.new.self c.args.var.now c.add.result (omega (arith, c.self.invariant, c.place.ensures.bound)) c.place.ensures.value c.index_mut-set.ensures.value c.add.ensures.ok)
