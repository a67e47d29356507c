use Rattle.std.proofs.Common.{◌++◌, ◌∷◌, [], List, map, sym, ap, subst, ◌∙◌}
use Rattle.std.specs.Prelude.{All}
use Rattle.std.proofs.lemmas.List.{map-append}
use Rattle.std.proofs.lemmas.List.Elements.{All-map}
use Rattle.std.proofs.lemmas.Simd.{map-map}
use Rattle.dom_history.specs.declared.event.NodeLog.{NodeLog}
use Rattle.ring_links.specs.Merged.{AreLogs, AreMerged}
use Rattle.node_core.specs.Nodes.{Noted}
use Rattle.world_core.specs.declared.station.Station.{Station}
use Rattle.ended_nodes.specs.Ended.{program_at, AreNumbered}
use Rattle.ended_nodes.proofs.Elements.{all_taken}
use Rattle.world_core.proofs.world.World.end.Goals as goal

pub loop-station-preserved : goal.loop-station-preserved
loop-station-preserved g c =
    c.in_ok-push.ensures.items
    ∙ ap (λ (xs : List (Noted g.row.P.Denot)). xs ++ c.in-Some.station.node ∷ []) c.loop-station.invariant
    ∙ sym (map-append (λ (y : Station g.row.P.Denot g.row.G.Denot). y.node) c.loop-station.yielded (c.in-Some.station ∷ []))

pub take_apart-requires : goal.take_apart-requires
take_apart-requires g c =
    let all = all_taken c.into_iter-station-iterator.result c.loop-station.yielded c.loop-station.station-iterator c.into_stations-station-items.result.items c.loop-station.yielded_by c.into_iter-station-iterator.ensures.into_iter_gives.0 c.in-None.ensures.steps.0 ∙ c.into_stations-station-items.ensures in
    record {
      numbers = subst (All AreNumbered) (sym (c.loop-station.invariant ∙ ap (map (λ (y : Station g.row.P.Denot g.row.G.Denot). y.node)) all))
          (All-map AreNumbered (λ (y : Station g.row.P.Denot g.row.G.Denot). y.node) c.args.self.stations.items c.requires.numbers);
    }

pub by_place-requires : goal.by_place-requires
by_place-requires g c =
    let all = all_taken c.into_iter-station-iterator.result c.loop-station.yielded c.loop-station.station-iterator c.into_stations-station-items.result.items c.loop-station.yielded_by c.into_iter-station-iterator.ensures.into_iter_gives.0 c.in-None.ensures.steps.0 ∙ c.into_stations-station-items.ensures in
    let logs = c.in_ok-logs.ensures.logs
    ∙ ap (map (λ (x : Noted g.row.P.Denot). x.log)) (c.loop-station.invariant ∙ ap (map (λ (y : Station g.row.P.Denot g.row.G.Denot). y.node)) all)
    ∙ map-map (λ (x : Noted g.row.P.Denot). x.log) (λ (y : Station g.row.P.Denot g.row.G.Denot). y.node) c.args.self.stations.items in
    subst AreLogs (sym logs) c.requires.logs

pub returns-clause-events : goal.returns-clause-events
returns-clause-events g c =
    let all = all_taken c.into_iter-station-iterator.result c.loop-station.yielded c.loop-station.station-iterator c.into_stations-station-items.result.items c.loop-station.yielded_by c.into_iter-station-iterator.ensures.into_iter_gives.0 c.in-None.ensures.steps.0 ∙ c.into_stations-station-items.ensures in
    let logs = c.in_ok-logs.ensures.logs
    ∙ ap (map (λ (x : Noted g.row.P.Denot). x.log)) (c.loop-station.invariant ∙ ap (map (λ (y : Station g.row.P.Denot g.row.G.Denot). y.node)) all)
    ∙ map-map (λ (x : Noted g.row.P.Denot). x.log) (λ (y : Station g.row.P.Denot g.row.G.Denot). y.node) c.args.self.stations.items in
    subst (λ (ls : List NodeLog). AreMerged ls c.in_ok-by_place.field-0.events) logs c.in_ok-by_place.ensures

pub returns-clause-programs : goal.returns-clause-programs
returns-clause-programs g c = λ p.
    (let all = all_taken c.into_iter-station-iterator.result c.loop-station.yielded c.loop-station.station-iterator c.into_stations-station-items.result.items c.loop-station.yielded_by c.into_iter-station-iterator.ensures.into_iter_gives.0 c.in-None.ensures.steps.0 ∙ c.into_stations-station-items.ensures in
    c.in_ok-logs.ensures.programs p
    ∙ ap (λ (xs : List (Noted g.row.P.Denot)). program_at xs p) (c.loop-station.invariant ∙ ap (map (λ (y : Station g.row.P.Denot g.row.G.Denot). y.node)) all))
