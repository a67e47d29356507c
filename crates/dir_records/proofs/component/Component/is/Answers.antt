use Rattle.std.proofs.Common.{sym, ◌∙◌}
use Rattle.std.proofs.lemmas.Bool.{ne_eqb}
use Rattle.dir_records.proofs.SameNames.{length_is, by_filled, by_words, by_lengths}
use Rattle.dir_records.proofs.component.Component.is.Goals as goal

pub returns-then-word : goal.returns-then-word
returns-then-word c = sym (by_words c.args.self.now c.args.other.now (λ same. c.if-word.true (cc)))

pub returns-then-self-other : goal.returns-then-self-other
returns-then-self-other c =
    let own = length_is c.self.inside.bytes c.args.self.now c.self.inside.size c.self.invariant c.self.view_is in
    let others = length_is c.other.inside.bytes c.args.other.now c.other.inside.size c.other.invariant c.other.view_is in
    let same = by_filled c.args.self.now c.args.other.now (cc) in
    cc

pub returns-else-self-other : goal.returns-else-self-other
returns-else-self-other c =
    let own = length_is c.self.inside.bytes c.args.self.now c.self.inside.size c.self.invariant c.self.view_is in
    let others = length_is c.other.inside.bytes c.args.other.now c.other.inside.size c.other.invariant c.other.view_is in
    ne_eqb _ _ c.if-self-other.false ∙ sym (by_lengths c.args.self.now c.args.other.now (λ same. c.if-self-other.false (cc)))
