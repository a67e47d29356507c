use Rattle.std.proofs.Common.{sym, ap}
use Rattle.script_reader.specs.Words.{verb_text, verb_of, verbs}
use Rattle.uid_names.proofs.WrittenTables.{told_by, no_first, found-begun}
use Rattle.script_reader.proofs.Reading.{verb-again}
use Rattle.script_reader.proofs.words.read_verb.Goals as goal

pub returns-in_default : goal.returns-in_default
returns-in_default c = record { word = told_by verb_text verbs verb-again _ c.args.word.now (sym (ap verb_of (no_first c.args.word.now c.in_default.ensures.value))) }

pub returns : goal.returns
returns c =
    let found = found-begun verb_text c.args.word.now _ (sym c.in-Some.ensures.value) verbs _ c.verb_of.result c.verb_of.ensures c.of_first.ensures in
    record { word = told_by verb_text verbs verb-again c.verb_of.result c.args.word.now found }
