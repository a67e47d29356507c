use Rattle.std.proofs.Common.{Some, None, sym, ◌∙◌}
use Rattle.journal_check.proofs.Receiving.{taken-as}
use Rattle.journal_check.proofs.received.taken.Goals as goal

pub returns-in-Some : goal.returns-in-Some
returns-in-Some c = λ w calls kept.
    taken-as w calls c.args.from c.args.to c.args.index c.args.frames.now kept (Some c.in-Some.frame) (λ m is. sym c.in-Some.is ∙ c.in_ok-frame.ensures.live m is) (λ none. sym c.in-Some.is ∙ c.in_ok-frame.ensures.bare none)

pub returns-in-None : goal.returns-in-None
returns-in-None c = λ w calls kept.
    taken-as w calls c.args.from c.args.to c.args.index c.args.frames.now kept None (λ m is. sym c.in-None.is ∙ c.in_ok-frame.ensures.live m is) (λ none. sym c.in-None.is ∙ c.in_ok-frame.ensures.bare none)
