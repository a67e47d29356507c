use Rattle.std.proofs.Common.{refl}
use Rattle.script_reader.proofs.Reading.{no_line_word}
use Rattle.script_reader.proofs.reader.read_other.Goals as goal

pub returns-in-None : goal.returns-in-None
returns-in-None c = rw (no_line_word c.args.word.now c.in-None.ensures.word, c.requires) refl
