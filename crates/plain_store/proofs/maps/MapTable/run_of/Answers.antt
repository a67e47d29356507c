use Rattle.std.proofs.Common.{◌∙◌, sym, ap}
use Rattle.std.specs.Prelude.{map}
use Rattle.uid_names.specs.Segments.{segments, lowest_run}
use Rattle.dom_history.specs.Mappings.{stretch_of}
use Rattle.plain_store.proofs.KeptMaps.{stretches_of-same}
use Rattle.plain_store.proofs.maps.MapTable.run_of.Goals as goal

pub returns-clause-lowest : goal.returns-clause-lowest
returns-clause-lowest c = λ opening past held.
    let found = rw (c.segments_of.ensures, c.deref.ensures.value) at c.lowest_run.ensures.lowest in
    found ∙ ap (lowest_run (segments c.args.room)) (sym (stretches_of-same opening past c.args.p c.args.self.now.items.items held.mapped) ∙ ap (map (stretch_of opening past)) (held.maps c.args.p))
