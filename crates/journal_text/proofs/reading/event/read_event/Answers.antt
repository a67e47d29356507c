use Rattle.std.proofs.Common.{rules, ◌≡◌, subst, sym, ◌∙◌}
use Rattle.std.proofs.lemmas.Option.{same_Some}
use Rattle.dom_history.specs.Events.{ArePagesRising}
use Rattle.dom_history.specs.declared.event.Effects.{Effects}
use Rattle.journal_text.proofs.Events.{line-parts}
use Rattle.journal_text.proofs.reading.event.read_event.Goals as goal

pub returns-in_default-clause-none : goal.returns-in_default-clause-none
returns-in_default-clause-none c = λ e w same.
    let again = line-parts c.args.names.now c.requires e c.args.text.now c.head.result.0.now c.head.result.1.now w c.head.ensures same in
    cc (again.0, c.start.ensures.value, c.in_default.is)

pub returns-in_default-2-clause-none : goal.returns-in_default-2-clause-none
returns-in_default-2-clause-none c = λ e w same.
    let again = line-parts c.args.names.now c.requires e c.args.text.now c.head.result.0.now c.head.result.1.now w c.head.ensures same in
    cc (again.1, c.in_ok-effects.ensures.value, c.in_default-2.is)

pub returns-then-not-is_rising-clause-none : goal.returns-then-not-is_rising-clause-none
returns-then-not-is_rising-clause-none c = λ e w same.
    let again = line-parts c.args.names.now c.requires e c.args.text.now c.head.result.0.now c.head.result.1.now w c.head.ensures same in
    let effects : c.in-Some-2.effects ≡ e.effects = same_Some c.in-Some-2.effects e.effects (sym c.in-Some-2.is ∙ sym c.in_ok-effects.ensures.value ∙ again.1) in
    let rising = subst (λ (f : Effects). ArePagesRising f.dropped) (sym effects) w.event.effects.rising in
    let yes = c.is_rising.ensures.1 rising in
    search (rules, yes)
