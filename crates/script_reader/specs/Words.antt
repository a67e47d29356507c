-- The words of lines and commands, and how a line names a process.
use Rattle.std.specs.Prelude.{ℕ, nat_le, Bool, ◌&&◌, if◌then◌else◌, Option, Some, None, List, [], ◌∷◌, length, codes}
use Rattle.uid_names.specs.Texts.{written_so}
use Rattle.std.specs.List.{list_all}
use Rattle.std.specs.Char.{is_ascii_digit}
use Rattle.uid_names.specs.Modes.{mode_of_letter}
use Rattle.uid_names.specs.declared.mode.Mode.{Mode}
use Rattle.dom_text.specs.Cuts.{cut_at}
pub use Rattle.dom_text.specs.NameWords.{is_name}
use Rattle.script_reader.specs.SpelledNumbers.{process_spelled}
use Rattle.script_reader.specs.Verbs.{verb_row}
use Rattle.script_reader.specs.declared.words.LineWord.{LineWord}
use Rattle.script_reader.specs.declared.words.LineWord.TheVariants.{Wire, Node, Object, Fault, Phase, Access, Subject}
use Rattle.script_reader.specs.declared.words.Verb.{Verb}
use Rattle.script_reader.specs.declared.words.Verb.TheVariants.{New, Lock, Unlock, Delete, Load, Store, Length, Map, Unmap, Loadat, Storeat, Bind, Crf, Crd, Crl, Dlf, Catf, Lnf, Apf, Cpf, Crm, Putm, Takem, Ld, Wd, Llkob}

abbrev pub line_word_text : LineWord → List ℕ
line_word_text Wire = codes "wire"
line_word_text Node = codes "node"
line_word_text Object = codes "object"
line_word_text Fault = codes "fault"
line_word_text Phase = codes "phase"
line_word_text Access = codes "access"
line_word_text Subject = codes "subject"

abbrev pub line_words : List LineWord
line_words = Wire ∷ Node ∷ Object ∷ Fault ∷ Phase ∷ Access ∷ Subject ∷ []

-- the line word that a word is
abbrev pub line_word_of : List ℕ → Option LineWord
line_word_of word = written_so line_word_text line_words word

-- the word of a command
abbrev pub verb_text : Verb → List ℕ
verb_text verb = (verb_row verb).word

abbrev pub verbs : List Verb
verbs = New ∷ Lock ∷ Unlock ∷ Delete ∷ Load ∷ Store ∷ Length ∷ Map ∷ Unmap ∷ Loadat ∷ Storeat ∷ Bind ∷ Crf ∷ Crd ∷ Crl ∷ Dlf ∷ Catf ∷ Lnf ∷ Apf ∷ Cpf ∷ Crm ∷ Putm ∷ Takem ∷ Ld ∷ Wd ∷ Llkob ∷ []

-- the command that a word is
abbrev pub verb_of : List ℕ → Option Verb
verb_of word = written_so verb_text verbs word

-- a word is of digits, one at least; it may begin with zeros
abbrev pub are_digits : List ℕ → Bool
are_digits word = nat_le 1 (length word) && list_all is_ascii_digit word

-- a process as a line names it: a name, a dot, and digits that spell its number. No name has a dot, so the first is the last
pub record ProcessWord : Type 0 where
  pub node : List ℕ
  pub number : Option ℕ

abbrev pub process_parts : Option (List ℕ × List ℕ) → Option ProcessWord
process_parts None = None
process_parts (Some (node, digits)) = if is_name node && are_digits digits then Some (record { node = node; number = process_spelled digits }) else None

abbrev pub process_word : List ℕ → Option ProcessWord
process_word word = process_parts (cut_at 46 word)

-- the mode that a word of one letter is
abbrev pub mode_of_word : List ℕ → Option Mode
mode_of_word (letter ∷ []) = mode_of_letter letter
mode_of_word _ = None
