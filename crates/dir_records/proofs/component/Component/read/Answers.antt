use Rattle.std.proofs.Common.{rules, ◌≡◌, ◌≤◌, ◌++◌, length, true, drop, replicate, sym, subst}
use Rattle.std.proofs.lemmas.List.{drop-replicate, length-drop}
use Rattle.dir_records.specs.Components.{is_component, IsPadded}
use Rattle.dir_records.proofs.Filling.{filled_up}
use Rattle.dir_records.proofs.component.Component.read.Goals as goal

pub invariant_of-result : goal.invariant_of-result
invariant_of-result c =
    let n = length c.args.name.now in
    let few : n ≤ 32 = search rules in
    let form : is_component c.args.name.now ≡ true = search rules in
    let written : c.copy_from_slice.new.self ≡ c.args.name.now = search rules in
    subst (λ front. IsPadded (front ++ drop n (replicate 32 0)) n) (sym written)
    (filled_up c.args.name.now (drop n (replicate 32 0)) form few (drop-replicate n 32 0) (length-drop n (replicate 32 0)))
