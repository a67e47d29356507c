use Rattle.std.proofs.Common.{◌≡◌, ◌++◌, length, Some}
use Rattle.journal_text.specs.Walk.Heads.{BeginsWithSemicolon, pieces_of}
use Rattle.journal_text.specs.Lines.{effects_text}
use Rattle.journal_text.specs.Walk.LineEffects.{effects_of}
use Rattle.journal_text.specs.Walk.EffectTexts.{AreRead}
use Rattle.journal_text.proofs.Doings.{no_effects}
use Rattle.journal_text.proofs.reading.effects.read_effects.Given as goal

abbrev pub invariant-loop-inside : goal.invariant-loop-inside
invariant-loop-inside l = record {
  value : effects_of l.names (Some no_effects) (pieces_of l.text) ≡ effects_of l.names (Some l.effects) (pieces_of l.rest);
  text : l.text ≡ effects_text l.names l.effects ++ l.rest;
  read : AreRead l.names l.effects;
  begins : BeginsWithSemicolon l.rest;
}

abbrev pub decreases-loop-inside : goal.decreases-loop-inside
decreases-loop-inside l = length l.rest
