use Rattle.std.proofs.Common.{◌≡◌, Option, IfSome, sym, ap, subst, ◌∙◌}
use Rattle.std.proofs.lemmas.Result.{IfOk-weaker}
use Rattle.dom_history.specs.declared.op.Want.TheVariants.{Phase}
use Rattle.node_runs.specs.NodeStates.{NodeState, proc_of}
use Rattle.node_core.proofs.Beginning.{asked-all}
use Rattle.node_core.proofs.machine.Machine.ask_all.Goals as goal

pub ask_first-requires-clause-first : goal.ask_first-requires-clause-first
ask_first-requires-clause-first g c = c.requires.first 1

pub ask_first-requires-clause-fresh : goal.ask_first-requires-clause-fresh
ask_first-requires-clause-fresh g c = c.requires.fresh 1

pub ask_first-requires-2-clause-first : goal.ask_first-requires-2-clause-first
ask_first-requires-2-clause-first g c = ap (λ (s : NodeState). proc_of s 2) c.in_ok-ask_first.ensures.state ∙ c.requires.first 2

pub ask_first-requires-2-clause-fresh : goal.ask_first-requires-2-clause-fresh
ask_first-requires-2-clause-fresh g c = subst (λ (o : Option g.row.P.Denot). IfSome o (λ y. g.P.Program.wants y ≡ Phase)) (sym (c.in_ok-ask_first.ensures.others 2 (λ h. absurd (cc)))) (c.requires.fresh 2)

pub ask_first-requires-3-clause-first : goal.ask_first-requires-3-clause-first
ask_first-requires-3-clause-first g c = ap (λ (s : NodeState). proc_of s 3) c.in_ok-ask_first-2.ensures.state ∙ ap (λ (s : NodeState). proc_of s 3) c.in_ok-ask_first.ensures.state ∙ c.requires.first 3

pub ask_first-requires-3-clause-fresh : goal.ask_first-requires-3-clause-fresh
ask_first-requires-3-clause-fresh g c = subst (λ (o : Option g.row.P.Denot). IfSome o (λ y. g.P.Program.wants y ≡ Phase)) (sym (c.in_ok-ask_first-2.ensures.others 3 (λ h. absurd (cc)) ∙ c.in_ok-ask_first.ensures.others 3 (λ h. absurd (cc)))) (c.requires.fresh 3)

pub ask_first-requires-4-clause-first : goal.ask_first-requires-4-clause-first
ask_first-requires-4-clause-first g c = ap (λ (s : NodeState). proc_of s 4) c.in_ok-ask_first-3.ensures.state ∙ ap (λ (s : NodeState). proc_of s 4) c.in_ok-ask_first-2.ensures.state ∙ ap (λ (s : NodeState). proc_of s 4) c.in_ok-ask_first.ensures.state ∙ c.requires.first 4

pub ask_first-requires-4-clause-fresh : goal.ask_first-requires-4-clause-fresh
ask_first-requires-4-clause-fresh g c = subst (λ (o : Option g.row.P.Denot). IfSome o (λ y. g.P.Program.wants y ≡ Phase)) (sym (c.in_ok-ask_first-3.ensures.others 4 (λ h. absurd (cc)) ∙ c.in_ok-ask_first-2.ensures.others 4 (λ h. absurd (cc)) ∙ c.in_ok-ask_first.ensures.others 4 (λ h. absurd (cc)))) (c.requires.fresh 4)

pub returns : goal.returns
returns g c =
    IfOk-weaker c.ask_first-4.result _ _
    (λ ok four.
    asked-all g.P.Program.spent g.P.Program.wants g.P.Program.becomes c.args.self.now c.ask_first.new.self c.ask_first-2.new.self c.ask_first-3.new.self c.ask_first-4.new.self
    c.requires.kept c.in_ok-ask_first.ensures c.in_ok-ask_first-2.ensures c.in_ok-ask_first-3.ensures four)
    c.ask_first-4.ensures
