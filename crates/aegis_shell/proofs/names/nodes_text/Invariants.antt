use Rattle.std.proofs.Common.{◌≡◌, ◌++◌, drop}
use Rattle.std.specs.Prelude.{codes}
use Rattle.aegis_shell.specs.Outcomes.{node_texts}
use Rattle.aegis_shell.proofs.names.nodes_text.Given as goal

abbrev pub invariant-loop-name : goal.invariant-loop-name
invariant-loop-name l = l.text ++ node_texts (drop l.name-index l.names) ≡ codes "ok" ++ node_texts l.names
