use Rattle.std.proofs.Common.{◌≡◌, ◌<◌, ◌+◌, ◌++◌, ◌∷◌, [], get_or, take, length, length-take, ap, sym, subst, ◌∙◌, arith}
use Rattle.std.proofs.lemmas.List.{take_more}
use Rattle.uid_names.specs.Names.{place_of_process}
use Rattle.script_reader.specs.Walk.Placed.{HoldsPlaces}
use Rattle.script_reader.proofs.Placing.{HoldsPlaces-push}
use Rattle.script_reader.proofs.index.Places.of_commands.Goals as goal

pub loop-at-preserved : goal.loop-at-preserved
loop-at-preserved c =
    let rows = c.args.commands.now in
    let i = c.loop-at.at in
    let row = c.index-commands-at.result in
    let below : i < length rows = omega arith in
    let more : take (i + 1) rows ≡ take i rows ++ row ∷ [] = take_more rows i row below ∙ ap (λ x. take i rows ++ x ∷ []) (sym c.index-commands-at.is) in
    let count : i ≡ length (take i rows) = omega (arith, length-take i rows, below) in
    let own : get_or c.add.new.self (place_of_process row.proc) [] ≡ get_or c.loop-at.places (place_of_process row.proc) [] ++ length (take i rows) ∷ [] =
    subst (λ n. get_or c.add.new.self (place_of_process row.proc) [] ≡ get_or c.loop-at.places (place_of_process row.proc) [] ++ n ∷ []) count c.in_ok-add.ensures.own in
    subst (HoldsPlaces c.add.new.self) (sym more) (HoldsPlaces-push c.loop-at.places c.add.new.self (take i rows) row c.loop-at.invariant c.in_ok-add.ensures.proc own c.in_ok-add.ensures.others)
