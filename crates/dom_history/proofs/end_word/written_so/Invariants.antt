use Rattle.std.proofs.Common.{◌≡◌, drop}
use Rattle.uid_names.specs.Texts.{written_so}
use Rattle.dom_history.specs.EndWords.{word_text}
use Rattle.dom_history.proofs.end_word.written_so.Given as goal

abbrev pub invariant-loop-end : goal.invariant-loop-end
invariant-loop-end l = written_so word_text (drop l.end-index l.ends) l.word ≡ written_so word_text l.ends l.word
