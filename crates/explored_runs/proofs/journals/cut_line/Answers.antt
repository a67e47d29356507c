use Rattle.std.proofs.Common.{◌∷◌, sym, ap, ◌∙◌}
use Rattle.script_reader.specs.Grammar.{raw_lines}
use Rattle.script_reader.proofs.Reading.{behind_the_end, lines-alone, lines-cut}
use Rattle.explored_runs.proofs.journals.cut_line.Goals as goal

pub returns-in-Some-clause-lines : goal.returns-in-Some-clause-lines
returns-in-Some-clause-lines c = ap raw_lines c.in-Some.ensures.parts.whole ∙ lines-cut c.in-Some.line.now c.in-Some.rest.now c.in-Some.ensures.parts.first

pub returns-in-None-clause-lines : goal.returns-in-None-clause-lines
returns-in-None-clause-lines c = lines-alone c.args.bytes.now c.in-None.ensures.parts c.requires ∙ ap (λ t. c.args.bytes.now ∷ raw_lines t) (sym (behind_the_end c.args.bytes.now))
