use Rattle.std.proofs.Common.{◌≡◌, sym, subst, map}
use Rattle.dom_history.specs.NodeTexts.{AreNodeNames}
use Rattle.aegis_shell.proofs.Parts.{node_names}
use Rattle.view_program.proofs.searching.explored.Goals as goal

pub names_of-requires : goal.names_of-requires
names_of-requires g c = subst (λ rows. AreNodeNames (map (λ n. n.name) rows)) (sym c.nodes.ensures.value) (node_names c.args.script.now c.nodes.ensures.content)
