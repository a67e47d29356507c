-- What a line says of what an event did.
use Rattle.std.specs.Prelude.{ℕ, ◌==◌, if◌then◌else◌, is_some, Option, Some, None, List, [], ◌∷◌, ◌++◌, codes}
use Rattle.uid_names.specs.Names.{ObjectName}
use Rattle.uid_names.specs.FrameKinds.{kind_number}
use Rattle.dom_text.specs.Cuts.{cut_at}
use Rattle.dom_text.specs.Numbers.{number_spelled}
use Rattle.uid_names.specs.Steps.{◌>>=◌}
use Rattle.uid_names.specs.Texts.{written_so}
use Rattle.dom_history.specs.declared.end_word.EndWord.{EndWord}
use Rattle.dom_history.specs.declared.event.Sent.{Sent}
use Rattle.dom_history.specs.declared.event.Effects.{Effects}
use Rattle.journal_text.specs.Walk.Fields.{node_of, number32_of, proc_of, uid_of, kind_of, end_of}
use Rattle.journal_text.specs.declared.reading.words.EffectWord.{EffectWord}
use Rattle.journal_text.specs.declared.reading.words.EffectWord.TheVariants as effects
use Rattle.journal_text.specs.declared.reading.effects.Effect.{Effect}
use Rattle.journal_text.specs.declared.reading.effects.Effect.TheVariants.{Drop, Send, End}

abbrev pub effect_word_text : EffectWord → List ℕ
effect_word_text effects.Drop = codes "drop"
effect_word_text effects.Send = codes "send"
effect_word_text effects.End = codes "end"

abbrev pub effect_words : List EffectWord
effect_words = effects.Drop ∷ effects.Send ∷ effects.End ∷ []

unfoldable pub effect_word_of : List ℕ → Option EffectWord
effect_word_of word = written_so effect_word_text effect_words word

-- the object and the page that were dropped
unfoldable pub page_of : List ℕ → Option (ObjectName × ℕ)
page_of text = do
  parts ← cut_at 32 text
  u ← uid_of parts.0
  page ← number32_of parts.1
  Some (u, page)

-- the frame that was sent
unfoldable pub sent_of : List (List ℕ) → List ℕ → Option Sent
sent_of names text = do
  first ← cut_at 32 text
  to ← node_of names first.0
  second ← cut_at 32 first.1
  index ← number_spelled second.0
  third ← cut_at 32 second.1
  kind ← kind_of third.0
  number ← number_spelled third.1
  Some (record { to = to; index = index; kind = kind_number kind; number = number })

-- the process whose operation ended, and how
unfoldable pub ended_of : List ℕ → Option (ℕ × EndWord)
ended_of text = do
  parts ← cut_at 32 text
  p ← proc_of parts.0
  word ← end_of parts.1
  Some (p, word)

unfoldable pub effect_behind : List (List ℕ) → EffectWord → List ℕ → Option Effect
effect_behind names effects.Drop text = do
  page ← page_of text
  Some (Drop page.0 page.1)
effect_behind names effects.Send text = do
  sent ← sent_of names text
  Some (Send sent)
effect_behind names effects.End text = do
  ended ← ended_of text
  Some (End ended.0 ended.1)

-- an effect, from its text without the space in front
unfoldable pub effect_in : List (List ℕ) → List ℕ → Option Effect
effect_in names text = do
  parts ← cut_at 32 text
  word ← effect_word_of parts.0
  effect_behind names word parts.1

-- an effect, from the piece behind its `;`
unfoldable pub effect_of : List (List ℕ) → List ℕ → Option Effect
effect_of names [] = None
effect_of names (b ∷ text) = if b == 32 then effect_in names text else None

-- effects with one more, which none may precede
unfoldable pub with_effect : Effects → Effect → Option Effects
with_effect e (Drop u page) = if is_some e.ended then None else if is_some e.sent then None else Some (record e { dropped = e.dropped ++ (u, page) ∷ [] })
with_effect e (Send sent) = if is_some e.ended then None else if is_some e.sent then None else Some (record e { sent = Some sent })
with_effect e (End p word) = if is_some e.ended then None else Some (record e { ended = Some (p, word) })

abbrev pub and_effect : Effects → Option Effect → Option Effects
and_effect e effect = effect >>= with_effect e

-- effects with those of pieces
unfoldable pub effects_of : List (List ℕ) → Option Effects → List (List ℕ) → Option Effects
effects_of names e [] = e
effects_of names None (piece ∷ pieces) = None
effects_of names (Some e) (piece ∷ pieces) = effects_of names (and_effect e (effect_of names piece)) pieces
