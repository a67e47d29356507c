use Rattle.std.proofs.Common.{rules, ◌≡◌, true, length, inr, refl, arith}
use Rattle.std.specs.Prelude.{◌==◌}
use Rattle.std.proofs.lemmas.Bool.{eqb-true}
use Rattle.std.proofs.lemmas.List.{nil_from_length}
use Rattle.script_reader.proofs.reader.read_script.Goals as goal

pub returns-then-has_no_node-clause-bad : goal.returns-then-has_no_node-clause-bad
returns-then-has_no_node-clause-bad c =
    let nodes = c.in_ok-draft.draft.nodes in
    let none : (length nodes == 0) ≡ true = search rules in
    inr (inr (record { few = omega arith; content = c.in_ok-draft.draft; good = c.in_ok-draft.ensures.good; no_node = nil_from_length nodes (eqb-true (length nodes) 0 none); line = refl; cause_is = refl }))
