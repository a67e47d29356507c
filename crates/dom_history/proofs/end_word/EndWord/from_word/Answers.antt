use Rattle.std.proofs.Common.{sym, ap}
use Rattle.dom_history.specs.EndWords.{word_text, all_ends, end_of_word}
use Rattle.uid_names.proofs.WrittenTables.{told_by, no_first, found-begun}
use Rattle.dom_history.proofs.EndTexts.{end_of_word-word}
use Rattle.dom_history.proofs.end_word.EndWord.from_word.Goals as goal

pub returns-in_default : goal.returns-in_default
returns-in_default c =
    let none = sym (ap end_of_word (no_first c.args.word.now c.in_default.ensures.value)) in
    record { value = none; word = told_by word_text all_ends end_of_word-word _ c.args.word.now none }

pub returns : goal.returns
returns c =
    let found = found-begun word_text c.args.word.now _ (sym c.in-Some.ensures.value) all_ends _ c.written_so.result c.written_so.ensures c.of_first.ensures in
    record { value = found; word = told_by word_text all_ends end_of_word-word c.written_so.result c.args.word.now found }
