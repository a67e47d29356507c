use Rattle.std.proofs.Common.{◌≡◌, ◌++◌, ◌∷◌, [], true, false, take, refl, ap, sym, subst, ◌∙◌}
use Rattle.std.specs.Prelude.{All}
use Rattle.std.proofs.lemmas.List.{take_all, take_more}
use Rattle.std.proofs.lemmas.List.Elements.{All-nil, All-push}
use Rattle.node_core.specs.Nodes.{Noted, given_of, state_of}
use Rattle.node_runs.specs.NodeStates.{is_ended}
use Rattle.journal_check.proofs.pass.have_ended.Goals as goal

abbrev Ends : {P : Type 0} → Noted P → Type 0
Ends x = is_ended (given_of x) (state_of x) ≡ true

pub loop-node-init : goal.loop-node-init
loop-node-init g c = All-nil (λ (x : Noted g.row.P.Denot). Ends x)

pub returns-then-not-ended : goal.returns-then-not-ended
returns-then-not-ended g c =
    let x = c.node-item.result in
    let goes_on = c.if-not-ended.ensures in (
      λ sure. absurd (cc),
      λ all.
          let there : Ends x = subst (λ (y : Noted g.row.P.Denot). Ends y) (sym c.node-item.is) (all c.loop-node.node-index x c.loop-node-test.true) in
          let both : false ≡ true = goes_on ∙ there in
          absurd (cc),
    )

pub loop-node-preserved : goal.loop-node-preserved
loop-node-preserved g c =
    let nodes = c.args.nodes.now in
    let i = c.loop-node.node-index in
    let x = c.node-item.result in
    let more = take_more nodes i x c.loop-node-test.true ∙ ap (λ (y : Noted g.row.P.Denot). take i nodes ++ y ∷ []) (sym c.node-item.is) in
    subst (All (λ (y : Noted g.row.P.Denot). Ends y)) (sym more) (All-push (λ (y : Noted g.row.P.Denot). Ends y) (take i nodes) x c.loop-node.invariant (sym c.if-not-ended.ensures))

pub returns : goal.returns
returns g c = (λ sure. subst (All (λ (y : Noted g.row.P.Denot). Ends y)) (take_all c.loop-node.node-index c.args.nodes.now c.loop-node-test.false) c.loop-node.invariant, λ all. refl)
