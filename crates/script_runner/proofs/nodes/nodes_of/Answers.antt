use Rattle.std.proofs.Common.{◌≡◌, ◌∙◌, ◌+◌, List, [], ◌∷◌, ◌++◌, length, Some, ap, sym, subst, arith, rules}
use Rattle.std.specs.Prelude.{slice_get}
use Rattle.std.proofs.lemmas.List.{length_push}
use Rattle.uid_names.specs.Openings.{Start, IsStart}
use Rattle.aegis_shell.specs.Shells.{Shelled}
use Rattle.node_core.specs.Nodes.{Noted}
use Rattle.script_runner.specs.Nodes.{IsFirstNode}
use Rattle.script_runner.proofs.FirstNodes.{push_each}
use Rattle.script_runner.proofs.nodes.nodes_of.Goals as goal

pub loop-i-preserved : goal.loop-i-preserved
loop-i-preserved c =
    let s = c.args.script.now in
    let nodes = c.loop-i.nodes.items in
    let x = c.in_ok-node_of-in-Some.field-0 in
    let items : c.push.new.self.items ≡ c.loop-i.nodes.items ++ c.in_ok-node_of-in-Some.field-0 ∷ [] = search (rules, c.in_ok-push-in-Some.ensures.items) in
    let count : length c.loop-i.nodes.items ≡ c.loop-i.i = c.loop-i.invariant.0 in (
      ap length items ∙ (length_push nodes x ∙ ap (λ k. k + 1) count),
      λ n y is.
          push_each (λ k z. IsFirstNode s (k + 1) z) nodes x c.loop-i.invariant.1
          (subst (λ k. IsFirstNode s k x) (c.in-Some.ensures.value ∙ ap (λ k. k + 1) (sym count)) c.in_ok-node_of-in-Some.ensures) n y
          (subst (λ (ys : List (Noted Shelled)). slice_get ys n ≡ Some y) items is),
    )

pub returns : goal.returns
returns c =
    let s = c.args.script.now in
    let all : c.nodes-count.result ≡ c.args.script.now.opening.nodes = c.nodes-count.ensures.value ∙ ap (λ (o : Start). o.nodes) c.opening.ensures.value in
    let count : length c.loop-i.nodes.items ≡ c.loop-i.i = c.loop-i.invariant.0 in
    record {
      setup = c.scripts_set_nodes_up.ensures s c.commands.ensures.content (subst IsStart c.opening.ensures.value c.nodes-count.ensures.start);
      count = omega arith;
      node = λ n x is. (c.loop-i.invariant.1 n x is).stands;
      log = λ n x is. (c.loop-i.invariant.1 n x is).log;
    }
