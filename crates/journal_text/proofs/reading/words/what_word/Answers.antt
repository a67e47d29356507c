use Rattle.journal_text.proofs.Fields.{what_word-looked_up}
use Rattle.journal_text.proofs.reading.words.what_word.Goals as goal

pub returns-clause-value : goal.returns-clause-value
returns-clause-value c = what_word-looked_up c.from_word.result c.args.word.now c.from_word.ensures
