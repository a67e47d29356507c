use Rattle.dom_text.proofs.Cutting.{last-value}
use Rattle.dom_text.proofs.cuts.cut_last.Goals as goal

pub returns-clause-value : goal.returns-clause-value
returns-clause-value c = last-value c.args.byte c.args.text.now c.last_cut.result (λ parts. (parts.0.now, parts.1.now)) c.last_cut.ensures
