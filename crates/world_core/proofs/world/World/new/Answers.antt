use Rattle.std.proofs.Common.{◌≡◌, ◌++◌, ◌∷◌, [], ℕ, Some, List, refl, sym, ap, subst, ◌∙◌, length}
use Rattle.std.specs.Prelude.{slice_get, IsSomeAnd}
use Rattle.world_core.specs.declared.station.Station.{Station}
use Rattle.world_core.specs.Firsts.{IsFirst}
use Rattle.ended_nodes.proofs.Elements.{all_taken}
use Rattle.world_core.proofs.Beginning.{first-more, first-stands}
use Rattle.world_core.proofs.world.World.new.Goals as goal

pub returns-clause-stands : goal.returns-clause-stands
returns-clause-stands g c = λ made s are.
    (let all = all_taken c.into_iter-node-iterator.result c.loop-node.yielded c.loop-node.node-iterator c.args.nodes.items c.loop-node.yielded_by c.into_iter-node-iterator.ensures.into_iter_gives.0 c.in-None.ensures.steps.0 in
    let count = c.len-count.ensures ∙ (c.args.nodes.ok.0 ∙ are.count) in
    first-stands g.P.Program.wants g.P.Program.becomes made s c.args.nodes.items are (record { stations = c.loop-node.stations; plan = c.args.plan; spent = _ }) refl
    c.rows-rows.ensures.plan
    (c.loop-node.invariant.0 ∙ ap length all)
    (λ n y e.
    subst (λ nodes. IsSomeAnd (slice_get c.args.nodes.items n) (λ x. IsFirst nodes x y)) count
    (subst (λ xs. IsSomeAnd (slice_get xs n) (λ x. IsFirst c.len-count.result x y)) all (c.loop-node.invariant.1 n y e))))

pub loop-node-preserved : goal.loop-node-preserved
loop-node-preserved g c =
    subst (λ (ys : List (Station g.row.P.Denot g.row.G.Denot)). (length ys ≡ length (c.loop-node.yielded ++ c.in-Some.node ∷ []))
    × ((n : ℕ) (z : Station g.row.P.Denot g.row.G.Denot) → slice_get ys n ≡ Some z → IsSomeAnd (slice_get (c.loop-node.yielded ++ c.in-Some.node ∷ []) n) (λ m. IsFirst c.len-count.result m z))) (sym c.in_ok-push.ensures.items)
    (first-more c.len-count.result c.loop-node.yielded c.loop-node.stations.items c.in-Some.node c.in_ok-new.field-0 c.loop-node.invariant.0 c.loop-node.invariant.1 c.in_ok-new.ensures)
