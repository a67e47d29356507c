use Rattle.run_outcomes.proofs.UpTo.{answers-more}
use Rattle.run_outcomes.proofs.difference.put_answers.Goals as goal

pub loop-i-preserved : goal.loop-i-preserved
loop-i-preserved c =
    answers-more c.args.to.now c.loop-i.i c.args.proc c.args.first.now c.args.second.now c.loop-i.to c.put_command.new.to _ _
    c.loop-i.invariant (c.in_ok-put_command.ensures) c.answer_at.ensures c.answer_at-in-loop-i.ensures
