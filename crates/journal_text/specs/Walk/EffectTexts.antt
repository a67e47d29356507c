-- The text of one effect.
use Rattle.std.specs.Prelude.{ℕ, IfSome, Some, List}
use Rattle.dom_history.specs.Events.{IsKindNumber}
use Rattle.dom_history.specs.Ranges.{IsProcNumber}
use Rattle.dom_history.specs.declared.event.Effects.{Effects}
use Rattle.journal_text.specs.Lines.{drop_text, sent_text, ended_text}
use Rattle.journal_text.specs.Written.{IsPage, IsSent, AreWritten}
use Rattle.journal_text.specs.declared.reading.effects.Effect.{Effect}
use Rattle.journal_text.specs.declared.reading.effects.Effect.TheVariants.{Drop, Send, End}

abbrev pub effect_text : List (List ℕ) → Effect → List ℕ
effect_text names (Drop u page) = drop_text (u, page)
effect_text names (Send sent) = sent_text names (Some sent)
effect_text names (End p word) = ended_text (Some (p, word))

-- what an effect keeps that was read
abbrev pub IsEffect : List (List ℕ) → Effect → Type 0
IsEffect names (Drop u page) = IsPage (u, page)
IsEffect names (Send sent) = IsSent names sent × IsKindNumber sent.kind
IsEffect names (End p word) = IsProcNumber p

-- what effects keep that were read
pub record AreRead (names : List (List ℕ)) (e : Effects) : Type 0 where
  pub written : AreWritten names e
  pub kind : IfSome e.sent (λ sent. IsKindNumber sent.kind)
  pub proc : IfSome e.ended (λ ended. IsProcNumber ended.0)
