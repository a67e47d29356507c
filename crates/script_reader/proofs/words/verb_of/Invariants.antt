use Rattle.std.proofs.Common.{◌≡◌, drop}
use Rattle.uid_names.specs.Texts.{written_so}
use Rattle.script_reader.specs.Words.{verb_text}
use Rattle.script_reader.proofs.words.verb_of.Given as goal

abbrev pub invariant-loop-verb : goal.invariant-loop-verb
invariant-loop-verb l = written_so verb_text (drop l.verb-index l.verbs) l.word ≡ written_so verb_text l.verbs l.word
