use Rattle.std.proofs.Common.{◌≡◌, true, rules}
use Rattle.dir_records.specs.Paths.{is_node_name}
use Rattle.dir_records.proofs.Pieces.{node_first}
use Rattle.dir_records.proofs.path.from_node.Goals as goal

pub returns-in-Some-node_name-2 : goal.returns-in-Some-node_name-2
returns-in-Some-node_name-2 c =
    let form : is_node_name c.in-Some.front.now ≡ true = search rules in
    let same : c.in-Some-node_name-2.name ≡ c.in-Some.front.now = search rules in
    rw (node_first c.args.text.now c.in-Some.front.now c.in-Some.back.now c.in-Some.ensures.value form, ← same) c.along.ensures
