use Rattle.std.proofs.Common.{◌≡◌, ◌∙◌, ◌+◌, [], ◌∷◌, ◌++◌, length, ap, sym, subst, arith, rules}
use Rattle.std.proofs.lemmas.List.{length_push}
use Rattle.uid_names.specs.Openings.{Start, IsStart}
use Rattle.timed_work.specs.Teams.{AreMade, IsMade}
use Rattle.timed_work.proofs.Making.{none_made, more_made}
use Rattle.timed_work.proofs.worlds.nodes_of.Goals as goal

pub loop-i-preserved : goal.loop-i-preserved
loop-i-preserved c =
    let s = c.args.script.now in
    let nodes = c.loop-i.nodes.items in
    let x = c.in_ok-node_of-in-Some.field-0 in
    let items : c.push.new.self.items ≡ nodes ++ x ∷ [] = search (rules, c.in_ok-push-in-Some.ensures.items) in
    let count : length nodes ≡ c.loop-i.i = c.loop-i.invariant.0 in
    let teams = c.loop-i.invariant.1.0 in
    let made = c.loop-i.invariant.1.1 in
    let team = c.in_ok-node_of-in-Some.ensures.0 in
    let is = c.in_ok-node_of-in-Some.ensures.1 in
    let here : IsMade s (length nodes + 1) team x = subst (λ k. IsMade s k team x) (c.in-Some.ensures.value ∙ ap (λ k. k + 1) (sym count)) c.in_ok-node_of-in-Some.ensures.2 in (
      ap length items ∙ (length_push nodes x ∙ ap (λ k. k + 1) count),
      (teams ++ team ∷ [], subst (AreMade s (teams ++ team ∷ [])) (sym items) (more_made s teams nodes team x made is here)),
    )

pub returns-clause-made : goal.returns-clause-made
returns-clause-made c = c.loop-i.invariant.1

pub returns-clause-content : goal.returns-clause-content
returns-clause-content c = (c.opening.ensures.content, subst IsStart c.opening.ensures.value c.nodes-count.ensures.start)

pub returns-clause-count : goal.returns-clause-count
returns-clause-count c =
    let all : c.nodes-count.result ≡ c.args.script.now.opening.nodes = c.nodes-count.ensures.value ∙ ap (λ (o : Start). o.nodes) c.opening.ensures.value in
    let count : length c.loop-i.nodes.items ≡ c.loop-i.i = c.loop-i.invariant.0 in
    omega arith

pub loop-i-init : goal.loop-i-init
loop-i-init c =
    let s = c.args.script.now in
    let none : c.in_ok-nodes.nodes.items ≡ [] = c.in_ok-nodes.ensures.items in
    (ap length none, ([], subst (AreMade s []) (sym none) (none_made s)))
