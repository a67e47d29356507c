use Rattle.std.proofs.Common.{rules, ◌≡◌, ℕ, List, [], ◌∷◌, true, false, Some, None, ap, ◌∙◌}
use Rattle.journal_text.specs.Walk.LineEffects.{effects_of}
use Rattle.journal_text.specs.Walk.Heads.{pieces_of}
use Rattle.journal_text.proofs.Doings.{piece-taken, piece-text_taken, none-behind}
use Rattle.journal_text.proofs.reading.effects.read_effects.Goals as goal

pub returns-then-not-branch-clause-value : goal.returns-then-not-branch-clause-value
returns-then-not-branch-clause-value c =
    let is : c.loop-inside.rest.now ≡ c.in-Some.field-0-0.now ∷ c.in-Some.inside.now = search rules in
    let failed : c.in_ok-add_piece.field-0 ≡ false = search rules in
    c.loop-inside.invariant.value
    ∙ piece-taken c.args.names.now c.loop-inside.effects None c.in-Some.field-0-0.now c.loop-inside.rest.now c.in-Some.inside.now c.head.result.0.now c.head.result.1.now
    is c.loop-inside.invariant.begins c.head.ensures (rw failed at c.in_ok-add_piece.ensures.value)
    ∙ none-behind c.args.names.now (pieces_of c.head.result.1.now)

pub loop-inside-preserved : goal.loop-inside-preserved
loop-inside-preserved c =
    let is : c.loop-inside.rest.now ≡ c.in-Some.field-0-0.now ∷ c.in-Some.inside.now = search rules in
    let added : c.in_ok-add_piece.field-0 ≡ true = search rules in
    record {
      value =
          c.loop-inside.invariant.value
          ∙ piece-taken c.args.names.now c.loop-inside.effects (Some c.add_piece.new.effects) c.in-Some.field-0-0.now c.loop-inside.rest.now c.in-Some.inside.now c.head.result.0.now c.head.result.1.now
          is c.loop-inside.invariant.begins c.head.ensures (rw added at c.in_ok-add_piece.ensures.value);
      text =
          piece-text_taken c.args.names.now c.loop-inside.effects c.add_piece.new.effects c.in-Some.field-0-0.now c.args.text.now c.loop-inside.rest.now c.in-Some.inside.now c.head.result.0.now c.head.result.1.now
          c.loop-inside.invariant.text is c.loop-inside.invariant.begins c.head.ensures (c.in_ok-add_piece.ensures.text added);
      read = c.in_ok-add_piece.ensures.range added;
      begins = c.head.ensures.begins;
    }

pub returns-clause-value : goal.returns-clause-value
unfolding effects_of pieces_of
returns-clause-value c =
    let none : c.loop-inside.rest.now ≡ [] = search rules in
    c.loop-inside.invariant.value ∙ ap (λ (t : List ℕ). effects_of c.args.names.now (Some c.loop-inside.effects) (pieces_of t)) none
