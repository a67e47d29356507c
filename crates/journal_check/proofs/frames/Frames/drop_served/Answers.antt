use Rattle.std.proofs.Common.{rules}
use Rattle.std.specs.Prelude.{not}
use Rattle.std.proofs.lemmas.Fn.{filter_same}
use Rattle.journal_check.specs.Kept.{is_served}
use Rattle.journal_check.specs.declared.frames.Live.{Live}
use Rattle.journal_check.proofs.frames.Frames.drop_served.Goals as goal

pub returns-clause-live : goal.returns-clause-live
returns-clause-live c = rw (← c.self.view_is) (filter_same _ (λ (l : Live). not (is_served c.args.proc c.args.number l.frame)) _ (λ x b q called. search rules) _ _ c.retain.ensures.filtered)
