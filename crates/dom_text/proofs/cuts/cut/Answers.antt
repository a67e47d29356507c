use Rattle.dom_text.proofs.Cutting.{cut-value}
use Rattle.dom_text.proofs.cuts.cut.Goals as goal

pub returns-clause-value : goal.returns-clause-value
returns-clause-value c = cut-value c.args.byte c.args.text.now c.first_cut.result (λ parts. (parts.0.now, parts.1.now)) c.first_cut.ensures
