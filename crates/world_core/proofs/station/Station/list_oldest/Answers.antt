use Rattle.std.proofs.Common.{Some, sym, ap, ◌∙◌}
use Rattle.std.proofs.lemmas.Option.{slice_get-get_or}
use Rattle.std.proofs.lemmas.Result.{on_ok_weaker}
use Rattle.world_core.specs.Before.{count_before}
use Rattle.world_core.proofs.Delivering.{listed-there}
use Rattle.world_core.proofs.station.Station.list_oldest.Goals as goal

pub returns-clause-listed : goal.returns-clause-listed
returns-clause-listed g c =
    let x = c.args.self.now in
    let at = c.args.at in
    let l = c.index.result.now in
    let there = slice_get-get_or x.ins.items at l c.requires.within ∙ ap Some (sym c.index.ensures) in
    let counts = c.count_before-place.ensures.value ∙ ap (count_before at) c.as_slice.ensures.value in
    on_ok_weaker c.insert_oldest.result (λ are listed. listed-there at x l c.count_before-place.result c.insert_oldest.new.list.items there listed counts are) c.insert_oldest.ensures
