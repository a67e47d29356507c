use Rattle.std.proofs.Common.{refl}
use Rattle.script_reader.proofs.Reading.{no_verb, no_verb_word}
use Rattle.script_reader.proofs.reader.read_command.Goals as goal

pub returns-in_default : goal.returns-in_default
returns-in_default c = no_verb_word c.args.draft.now _ _ c.in_default.ensures

pub returns-in_default-read_verb : goal.returns-in_default-read_verb
returns-in_default-read_verb c = rw (c.in-Some.ensures, no_verb c.in-Some.verb.now c.in_default-read_verb.ensures.word) refl
