-- What a line says of where an event stands and what it is.
use Rattle.std.specs.Prelude.{ℕ, Option, Some, List, [], ◌∷◌, codes}
use Rattle.uid_names.specs.declared.ids.Place.{Place}
use Rattle.dom_text.specs.Cuts.{cut_at}
use Rattle.dom_text.specs.Numbers.{number_spelled}
use Rattle.uid_names.specs.Steps.{◌>>=◌}
use Rattle.uid_names.specs.Texts.{written_so}
use Rattle.dom_history.specs.declared.event.What.{What}
use Rattle.dom_history.specs.declared.event.What.TheVariants.{Begin, Go, Take, Notice, Ready, Mark}
use Rattle.journal_text.specs.declared.reading.words.WhatWord.{WhatWord}
use Rattle.journal_text.specs.declared.reading.words.WhatWord.TheVariants as whats
use Rattle.journal_text.specs.Walk.Fields.{node_of, number32_of, proc_of, numbered_of}

abbrev pub what_word_text : WhatWord → List ℕ
what_word_text whats.Begin = codes "begin"
what_word_text whats.Go = codes "go"
what_word_text whats.Take = codes "take"
what_word_text whats.Notice = codes "notice"
what_word_text whats.Ready = codes "ready"
what_word_text whats.Mark = codes "mark"

abbrev pub what_words : List WhatWord
what_words = whats.Begin ∷ whats.Go ∷ whats.Take ∷ whats.Notice ∷ whats.Ready ∷ whats.Mark ∷ []

unfoldable pub what_word_of : List ℕ → Option WhatWord
what_word_of word = written_so what_word_text what_words word

-- the process, the nodes and the index of a notice
unfoldable pub notice_of : List (List ℕ) → List ℕ → Option What
notice_of names text = do
  first ← cut_at 32 text
  p ← proc_of first.0
  second ← cut_at 32 first.1
  from ← node_of names second.0
  to ← numbered_of names second.1
  Some (Notice p from to.0 to.1)

-- the node and the phase of a mark
unfoldable pub mark_of : List (List ℕ) → List ℕ → Option What
mark_of names text = do
  parts ← cut_at 32 text
  from ← node_of names parts.0
  phase ← number32_of parts.1
  Some (Mark from phase)

-- an event of this word, from the text behind it
unfoldable pub what_behind : List (List ℕ) → WhatWord → List ℕ → Option What
what_behind names whats.Begin text = do
  p ← proc_of text
  Some (Begin p)
what_behind names whats.Go text = do
  p ← proc_of text
  Some (Go p)
what_behind names whats.Take text = do
  from ← numbered_of names text
  Some (Take from.0 from.1)
what_behind names whats.Notice text = notice_of names text
what_behind names whats.Ready text = do
  phase ← number32_of text
  Some (Ready phase)
what_behind names whats.Mark text = mark_of names text

unfoldable pub what_of : List (List ℕ) → List ℕ → Option What
what_of names text = do
  parts ← cut_at 32 text
  word ← what_word_of parts.0
  what_behind names word parts.1

-- where an event stands, and what it is
unfoldable pub start_of : List (List ℕ) → List ℕ → Option (Place × What)
start_of names text = do
  first ← cut_at 32 text
  tick ← number_spelled first.0
  second ← cut_at 32 first.1
  node ← node_of names second.0
  what ← what_of names second.1
  Some (record { tick = tick; node = node }, what)
