use Rattle.std.proofs.Common.{IfSome}
use Rattle.std.proofs.lemmas.Result.{IfOk-weaker, on_err_weaker}
use Rattle.uid_names.proofs.Somes.{some-each}
use Rattle.dom_history.specs.declared.op.Op.{Op}
use Rattle.ring_messages.specs.Bodies.{answer_of}
use Rattle.fault_handler.specs.declared.access.Access.{Access}
use Rattle.fault_handler.specs.Desks.{DeskState}
use Rattle.fault_handler.specs.PageReplies.{page_came_of}
use Rattle.fault_handler.specs.Conditions.{MayWantAt}
use Rattle.fault_handler.specs.Outcomes.{IsNoRefusal}
use Rattle.fault_handler.specs.Next.{IsOpen}
use Rattle.fault_handler.specs.Unseen.{said_to, GivesTo, ComesTo}
use Rattle.fault_handler.proofs.Outcomes.{Holds, IsTold, told, come-some, served-access, number-kept, OnOk-more}
use Rattle.fault_handler.proofs.Accessing.{IsDoneAfter}
use Rattle.fault_handler.proofs.Answering.{page_answer-said, page_came_of-after, some-op, said-some, said-each}
use Rattle.fault_handler.proofs.desk.Desk.page_came.Goals as goal
use Rattle.fault_handler.proofs.desk.Desk.page_came.Goals.{After-answered}

-- what the access comes to
abbrev Given : After-answered → Access → Type 0
Given c access = IfSome (said_to c.args.self.now c.args.proc.number (answer_of c.args.body.now)) (λ a. ComesTo c.args.proc.number c.answered.new.self (page_came_of c.args.self.now c.args.proc.number a) access)

-- what holds of it, for an operation that is open
holds : (c : After-answered) (op : Op) → IsOpen c.args.self.now c.args.proc.number op
    → IfSome (said_to c.args.self.now c.args.proc.number (answer_of c.args.body.now)) (λ a. Holds c.args.proc.number (IsDoneAfter c.args.self.now.node c.args.self.now.nodes c.args.proc.number op) (page_came_of c.args.self.now c.args.proc.number a))
holds c op of =
    some-each (said_to c.args.self.now c.args.proc.number (answer_of c.args.body.now)) _
    (λ a said.
    page_came_of-after c.args.self.now c.args.proc.number c.kept.ensures.desk c.kept.ensures.process c.requires.access op of a
    (page_answer-said c.args.self.now c.args.proc.number c.kept.ensures.desk c.kept.ensures.process c.requires.access c.args.proc.node c.args.body.now a c.requires.range said))

is_told : (c : After-answered) (op : Op) → IsOpen c.args.self.now c.args.proc.number op → (access : Access) → Given c access → IsTold c.args.self.now.node c.args.self.now.nodes c.args.proc.number op c.answered.new.self access × IsNoRefusal access
is_told c op of access given =
    come-some (said_to c.args.self.now c.args.proc.number (answer_of c.args.body.now)) (page_came_of c.args.self.now c.args.proc.number) c.args.proc.number
    (IsDoneAfter c.args.self.now.node c.args.self.now.nodes c.args.proc.number op) (λ m. GivesTo c.answered.new.self m access)
    (IsTold c.args.self.now.node c.args.self.now.nodes c.args.proc.number op c.answered.new.self access × IsNoRefusal access)
    (said-some c.args.self.now c.args.proc.number c.args.body.now c.requires.access c.requires.fits) (holds c op of) given
    (λ m after gives. (told c.args.self.now.node c.args.self.now.nodes c.args.proc.number op c.answered.new.self access m after.0 gives, served-access c.answered.new.self m access gives after.1))

-- and for some operation
some_told : (c : After-answered) (access : Access) → Given c access → (op : Op) × (IsTold c.args.self.now.node c.args.self.now.nodes c.args.proc.number op c.answered.new.self access × IsNoRefusal access)
some_told c access given =
    let found = some-op c.args.self.now c.args.proc.number c.kept.ensures.desk c.kept.ensures.process c.requires.access in
    (found.0, is_told c found.0 found.1 access given)

pub returns-clause-outcome : goal.returns-clause-outcome
returns-clause-outcome c = IfOk-weaker c.answered.result (Given c) _ (λ access given. said-each c.args.self.now c.args.proc.number (answer_of c.args.body.now) _ given) c.answered.ensures.outcome

pub returns-clause-never : goal.returns-clause-never
returns-clause-never c = IfOk-weaker c.answered.result (Given c) _ (λ access given. (some_told c access given).1.1) c.answered.ensures.outcome

pub returns-clause-fits : goal.returns-clause-fits
returns-clause-fits c = IfOk-weaker c.answered.result (Given c) _ (λ access given o seen op of. (is_told c op of access given).0.fits o seen) c.answered.ensures.outcome

pub returns-clause-asks : goal.returns-clause-asks
returns-clause-asks c = IfOk-weaker c.answered.result (Given c) _ (λ access given. (some_told c access given).1.0.asks) c.answered.ensures.outcome

pub returns-clause-next : goal.returns-clause-next
returns-clause-next c = IfOk-weaker c.answered.result (Given c) _ (λ access given o seen op of. (is_told c op of access given).0.next o seen) c.answered.ensures.outcome

pub returns-clause-ready : goal.returns-clause-ready
returns-clause-ready c = OnOk-more c.answered.result (Given c) _ (λ access given. (some_told c access given).1.0.ready) c.answered.ensures.outcome

pub returns-clause-memory : goal.returns-clause-memory
returns-clause-memory c =
    on_err_weaker c.answered.result
    (λ may. said-each c.args.self.now c.args.proc.number (answer_of c.args.body.now) (MayWantAt c.args.self.now) may) c.answered.ensures.memory

pub returns-clause-node : goal.returns-clause-node
returns-clause-node c =
    number-kept (λ (d : DeskState). d.node) c.args.self.now c.answered.new.self c.answered.result
    (IfOk-weaker c.answered.result (Given c) _ (λ access given. (some_told c access given).1.0.node) c.answered.ensures.outcome) c.answered.ensures.unchanged

pub returns-clause-nodes : goal.returns-clause-nodes
returns-clause-nodes c =
    number-kept (λ (d : DeskState). d.nodes) c.args.self.now c.answered.new.self c.answered.result
    (IfOk-weaker c.answered.result (Given c) _ (λ access given. (some_told c access given).1.0.nodes) c.answered.ensures.outcome) c.answered.ensures.unchanged
