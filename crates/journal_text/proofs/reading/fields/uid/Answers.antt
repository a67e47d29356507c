use Rattle.std.proofs.Common.{sym}
use Rattle.journal_text.proofs.Fields.{uid-again, uid-none}
use Rattle.journal_text.proofs.reading.fields.uid.Goals as goal

pub returns-in-Ok-clause-value : goal.returns-in-Ok-clause-value
returns-in-Ok-clause-value c = sym (uid-again c.args.word.now c.in-Ok.uid c.number-number.ensures.name c.in-Ok.ensures.value)

pub returns-in-Err-clause-value : goal.returns-in-Err-clause-value
returns-in-Err-clause-value c = sym (uid-none c.args.word.now c.in-Err.ensures.refused)
