use Rattle.std.proofs.Common.{◌≡◌, ◌-◌, IfSome, refl, sym, ap, subst, ◌∙◌}
use Rattle.uid_names.specs.declared.limits.TheConstants.{NODE_PROCESSES}
use Rattle.dom_history.specs.declared.op.Want.TheVariants.{Phase}
use Rattle.node_runs.specs.Setups.{Given}
use Rattle.node_runs.specs.NodeStates.{proc_of}
use Rattle.node_core.specs.Programs.{numbers_in}
use Rattle.node_core.proofs.Beginning.{firsts-at, stands-first}
use Rattle.node_core.proofs.node.Node.new.Goals as goal

pub asked-requires-clause-first : goal.asked-requires-clause-first
asked-requires-clause-first g c p =
    let given : Given = record { number = c.args.setup.node; opening = c.args.opening.now; wire = c.args.setup.wire; frames = c.args.setup.frames; phases = 0; programs = numbers_in c.args.programs.items; asks = λ q heard. Phase } in
    ap (λ n. proc_of n p) (c.in_ok-machine.ensures.state given refl refl refl) ∙ firsts-at NODE_PROCESSES (p - 1)

pub asked-requires-clause-fresh : goal.asked-requires-clause-fresh
asked-requires-clause-fresh g c p = subst (λ o. IfSome o (λ y. g.P.Program.wants y ≡ Phase)) (sym (c.in_ok-machine.ensures.programs p)) (c.requires.fresh p)

pub returns-clause-stands : goal.returns-clause-stands
returns-clause-stands g c given given_by =
    stands-first g.P.Program.spent g.P.Program.wants g.P.Program.becomes c.in_ok-machine.machine c.in_ok-machine-2.machine c.in_ok-machine-2.ensures _ c.args.setup c.args.opening.now c.args.programs.items
    c.in_ok-machine.ensures.programs c.in_ok-machine.ensures.greatest c.in_ok-machine.ensures.phases c.in_ok-machine.ensures.wire c.in_ok-machine.ensures.state given given_by
