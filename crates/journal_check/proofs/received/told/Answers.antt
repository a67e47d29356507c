use Rattle.std.proofs.Common.{sym}
use Rattle.journal_check.proofs.Receiving.{told-none, told-other, told-this}
use Rattle.journal_check.proofs.received.told.Goals as goal

pub returns-in_default : goal.returns-in_default
returns-in_default c = λ w calls kept. told-none w calls c.args.from c.args.to c.args.index c.args.frames.now kept c.args.caller (sym c.in_default.ensures.value)

pub returns-then-not-is_callers : goal.returns-then-not-is_callers
returns-then-not-is_callers c = λ w calls kept.
    told-other w calls c.args.from c.args.to c.args.index c.args.frames.now kept c.args.caller c.in-Some.head.now (sym c.in-Some.ensures.value) (sym c.if-not-is_callers.ensures)

pub returns : goal.returns
returns c = λ w calls kept. told-this w calls c.args.from c.args.to c.args.index c.args.frames.now kept c.args.caller c.in-Some.head.now (sym c.in-Some.ensures.value) (sym c.if-not-is_callers.ensures)
