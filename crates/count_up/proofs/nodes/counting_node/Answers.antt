use Rattle.std.proofs.Common.{◌≡◌, ◌≤◌, ◌∙◌, ◌∷◌, [], ap, sym, subst, arith}
use Rattle.std.specs.Prelude.{IfOk}
use Rattle.uid_names.specs.Openings.{Start}
use Rattle.uid_names.specs.Wires.{wire_room}
use Rattle.uid_names.proofs.Wires.{wire_room-least}
use Rattle.count_up.specs.Counters.{first_counter}
use Rattle.count_up.specs.Counting.{team, IsCounting}
use Rattle.count_up.proofs.Setting.{node_made}
use Rattle.count_up.proofs.nodes.counting_node.Goals as goal

pub new-requires-2-clause-rooms : goal.new-requires-2-clause-rooms
new-requires-2-clause-rooms c =
    let least = wire_room-least 2 in
    subst (λ (o : Start). o.greatest ≤ wire_room 2) (sym c.in_ok-start.ensures) (omega (arith, least))

pub returns : goal.returns
returns c =
    let rounds = c.args.rounds in
    let counter = c.new.ensures ∙ ap (λ u. first_counter u rounds) c.object.ensures in
    let programs : c.in_ok-programs.programs.items ≡ team rounds = c.in_ok-programs.ensures.items ∙ ap (λ x. (1, x) ∷ []) counter in
    subst (λ n. IfOk c.new-2.result (IsCounting rounds n)) c.node.ensures
    (node_made rounds c.node.result c.in_ok-start.start c.in_ok-programs.programs.items c.new-2.result
    (subst (λ n. 1 ≤ n) (sym c.node.ensures) c.requires.least) (subst (λ n. n ≤ 3) (sym c.node.ensures) c.requires.greatest)
    c.in_ok-start.ensures programs c.new-2.ensures.stands c.new-2.ensures.log)
