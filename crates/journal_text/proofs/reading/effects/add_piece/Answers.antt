use Rattle.journal_text.proofs.Doings.{added-text, added-read}
use Rattle.journal_text.proofs.reading.effects.add_piece.Goals as goal

pub returns-in-Some-clause-text : goal.returns-in-Some-clause-text
returns-in-Some-clause-text c =
    added-text c.add.result c.args.names.now c.args.effects.now c.add.new.effects c.in-Some.effect c.args.piece.now c.in-Some.ensures.text c.add.ensures

pub returns-in-Some-clause-range : goal.returns-in-Some-clause-range
returns-in-Some-clause-range c =
    added-read c.add.result c.args.names.now c.args.effects.now c.add.new.effects c.in-Some.effect c.requires c.in-Some.ensures.range c.add.ensures
