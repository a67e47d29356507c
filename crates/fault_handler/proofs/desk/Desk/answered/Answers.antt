use Rattle.std.proofs.Common.{refl}
use Rattle.std.proofs.lemmas.Result.{IfOk-weaker, on_err_weaker}
use Rattle.std.proofs.lemmas.Bool.{not-true}
use Rattle.uid_names.proofs.Somes.{some-each}
use Rattle.ring_messages.specs.Bodies.{Answer}
use Rattle.fault_handler.specs.PageReplies.{PageAnswer}
use Rattle.fault_handler.specs.Desks.{task_of}
use Rattle.fault_handler.proofs.Replying.{moves-coming, wants-page, comes-sent}
use Rattle.fault_handler.proofs.desk.Desk.answered.Goals as goal

pub returns-in-Page-clause-memory : goal.returns-in-Page-clause-memory
returns-in-Page-clause-memory c =
    rw c.in-Page.is
    (on_err_weaker c.page_in_came.result
    (λ fresh.
    wants-page c.args.self.now c.args.proc.number c.kept.ensures.desk c.kept.ensures.process c.moved-transit.result.uid c.moved-transit.result.page
    (moves-coming c.args.self.now c.args.proc.number c.moved-transit.result c.moved-transit.ensures.moves (rw c.in-Page.is at c.moved-transit.ensures.fits)) c.in-Page.stamp c.in-Page.bytes fresh)
    c.page_in_came.ensures.memory)

pub returns-in-Stored-clause-outcome : goal.returns-in-Stored-clause-outcome
returns-in-Stored-clause-outcome c =
    rw c.in-Stored.is
    (IfOk-weaker c.page_taken.result _ _
    (λ access gives.
    comes-sent c.args.self.now _ c.args.proc.number c.moved-transit.result access c.moved-transit.ensures.moves (Answer.Stored c.in-Stored.stamp) (λ task r. PageAnswer.Taken task r c.in-Stored.stamp) (λ task r. refl) (λ task. refl)
    (not-true c.moved-transit.result.inward (rw c.in-Stored.is at c.moved-transit.ensures.fits)) gives)
    c.page_taken.ensures.outcome)

pub returns-in-Stale-clause-outcome : goal.returns-in-Stale-clause-outcome
returns-in-Stale-clause-outcome c =
    rw c.in-Stale.is
    (IfOk-weaker c.page_stale.result _ _
    (λ access gives.
    comes-sent c.args.self.now _ c.args.proc.number c.moved-transit.result access c.moved-transit.ensures.moves (Answer.Stale c.in-Stale.stamp) (λ task r. PageAnswer.NotTaken task r c.in-Stale.stamp) (λ task r. refl) (λ task. refl)
    (not-true c.moved-transit.result.inward (rw c.in-Stale.is at c.moved-transit.ensures.fits))
    (some-each (task_of c.args.self.now c.args.proc.number) _ (λ task there. gives)))
    c.page_stale.ensures.outcome)
