use Rattle.std.proofs.Common.{◌≡◌, ◌<◌, false, true, length, ap, sym, subst, ◌∙◌}
use Rattle.uid_names.specs.declared.limits.TheConstants.{MAX_NODES}
use Rattle.script_reader.specs.NodeNames.{is_node_name}
use Rattle.script_reader.specs.Words.{is_name}
use Rattle.script_reader.proofs.Drafting.{held-node}
use Rattle.script_reader.proofs.draft.Draft.add_node.Goals as goal

pub invariant_of-self-2 : goal.invariant_of-self-2
invariant_of-self-2 c =
    let nodes = ap (λ s. s.nodes) c.self.view_is in
    let named : is_name c.in_ok-name.name ≡ true = ap is_name c.in_ok-name.ensures ∙ c.requires.name in
    let new : is_node_name c.self.inside.nodes.items c.in_ok-name.name ≡ false = ap (λ n. is_node_name n c.in_ok-name.name) nodes ∙ (ap (is_node_name c.args.self.now.nodes) c.in_ok-name.ensures ∙ c.requires.new) in
    let room : length c.self.inside.nodes.items < MAX_NODES = subst (λ n. length n < MAX_NODES) (sym nodes) c.requires.room in
    held-node c.self.inside c.push.new.self c.in_ok-name.name c.args.frames c.self.invariant c.in_ok-push.ensures.items named c.requires.few c.requires.many new room
