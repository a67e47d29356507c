use Rattle.std.proofs.Common.{IfSome}
use Rattle.std.proofs.lemmas.Result.{IfOk-weaker, on_err_weaker}
use Rattle.fault_handler.specs.declared.access.Access.{Access}
use Rattle.fault_handler.specs.Desks.{DeskState}
use Rattle.fault_handler.specs.Accesses.{desk_op, access_of}
use Rattle.fault_handler.specs.Conditions.{MayWant}
use Rattle.fault_handler.specs.Next.{IsAtOnce}
use Rattle.fault_handler.specs.Unseen.{GivesTo, ComesTo}
use Rattle.fault_handler.proofs.Outcomes.{IsAfter, IsTold, told, come-some, each-some, seen-holds, number-kept, OnOk-more}
use Rattle.fault_handler.proofs.Beginning.{access_of-after, access_of-once}
use Rattle.fault_handler.proofs.desk.Desk.access.Goals as goal
use Rattle.fault_handler.proofs.desk.Desk.access.Goals.{After-begun}

-- what the access comes to
abbrev Given : After-begun → Access → Type 0
Given c access = IfSome (desk_op c.args.op.now) (λ o. ComesTo c.args.proc.number c.begun.new.self (access_of c.args.self.now c.args.proc.number o) access)

-- what is told of it
is_told : (c : After-begun) (access : Access) → Given c access → IsTold c.args.self.now.node c.args.self.now.nodes c.args.proc.number c.args.op.now c.begun.new.self access
is_told c access given =
    come-some (desk_op c.args.op.now) (access_of c.args.self.now c.args.proc.number) c.args.proc.number
    (IsAfter c.args.self.now.node c.args.self.now.nodes c.args.proc.number c.args.op.now) (λ m. GivesTo c.begun.new.self m access)
    (IsTold c.args.self.now.node c.args.self.now.nodes c.args.proc.number c.args.op.now c.begun.new.self access)
    c.requires.access
    (access_of-after c.args.self.now c.args.proc.number c.kept.ensures.desk c.kept.ensures.process c.requires.idle c.args.op.now c.requires.range) given
    (λ m after gives. told c.args.self.now.node c.args.self.now.nodes c.args.proc.number c.args.op.now c.begun.new.self access m after gives)

pub returns-clause-outcome : goal.returns-clause-outcome
returns-clause-outcome c = IfOk-weaker c.begun.result (Given c) _ (λ access given. each-some (desk_op c.args.op.now) _ given) c.begun.ensures.outcome

pub returns-clause-fits : goal.returns-clause-fits
returns-clause-fits c = IfOk-weaker c.begun.result (Given c) _ (λ access given. (is_told c access given).fits) c.begun.ensures.outcome

pub returns-clause-asks : goal.returns-clause-asks
returns-clause-asks c = IfOk-weaker c.begun.result (Given c) _ (λ access given. (is_told c access given).asks) c.begun.ensures.outcome

pub returns-clause-next : goal.returns-clause-next
returns-clause-next c = IfOk-weaker c.begun.result (Given c) _ (λ access given. (is_told c access given).next) c.begun.ensures.outcome

pub returns-clause-ready : goal.returns-clause-ready
returns-clause-ready c = OnOk-more c.begun.result (Given c) _ (λ access given. (is_told c access given).ready) c.begun.ensures.outcome

pub returns-clause-now : goal.returns-clause-now
returns-clause-now c =
    IfOk-weaker c.begun.result (Given c) _
    (λ access given.
    come-some (desk_op c.args.op.now) (access_of c.args.self.now c.args.proc.number) c.args.proc.number
    (λ m. IsAtOnce c.args.op.now m.turn) (λ m. GivesTo c.begun.new.self m access) _ c.requires.access
    (access_of-once c.args.self.now c.args.proc.number c.kept.ensures.desk c.kept.ensures.process c.requires.idle c.args.op.now c.requires.range) given
    (λ m once gives. seen-holds (IsAtOnce c.args.op.now) c.begun.new.self m access gives once))
    c.begun.ensures.outcome

pub returns-clause-memory : goal.returns-clause-memory
returns-clause-memory c = on_err_weaker c.begun.result (λ may. each-some (desk_op c.args.op.now) MayWant may) c.begun.ensures.memory

pub returns-clause-node : goal.returns-clause-node
returns-clause-node c =
    number-kept (λ (d : DeskState). d.node) c.args.self.now c.begun.new.self c.begun.result (IfOk-weaker c.begun.result (Given c) _ (λ access given. (is_told c access given).node) c.begun.ensures.outcome)
    c.begun.ensures.unchanged

pub returns-clause-nodes : goal.returns-clause-nodes
returns-clause-nodes c =
    number-kept (λ (d : DeskState). d.nodes) c.args.self.now c.begun.new.self c.begun.result (IfOk-weaker c.begun.result (Given c) _ (λ access given. (is_told c access given).nodes) c.begun.ensures.outcome)
    c.begun.ensures.unchanged
