use Rattle.dom_text.proofs.Again.{decimal_of_number}
use Rattle.journal_text.proofs.reading.fields.number.Goals as goal

pub returns-in-Ok-clause-text : goal.returns-in-Ok-clause-text
returns-in-Ok-clause-text c = decimal_of_number c.args.word.now c.in-Ok.number c.in-Ok.ensures
