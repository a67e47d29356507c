use Rattle.std.proofs.Common.{◌≡◌, arith, subst, sym}
use Rattle.explored_runs.specs.Sought.{HasNone, IsSought}
use Rattle.explored_runs.proofs.Halves.{none-yet, none-push}
use Rattle.explored_runs.proofs.numbers.found_in_turn.Goals as goal

pub loop-number-init : goal.loop-number-init
loop-number-init c = none-yet c.args.script.now c.args.words.now c.args.from

pub loop-number-preserved : goal.loop-number-preserved
loop-number-preserved c = none-push c.args.script.now c.args.words.now c.args.from c.loop-number.number c.loop-number.invariant (subst (IsSought c.args.script.now c.args.words.now c.loop-number.number) c.in_default.is c.in_ok-sought.ensures)
