use Rattle.std.proofs.Common.{rules, ◌≡◌, ap, subst, sym, ◌∙◌}
use Rattle.dom_history.specs.Events.{Happening}
use Rattle.journal_text.specs.Written.{IsAbove}
use Rattle.journal_text.proofs.Events.{line-cut, line-cut_off, same_line}
use Rattle.journal_text.proofs.reading.next_event.Goals as goal

pub returns-in_default-clause-none : goal.returns-in_default-clause-none
returns-in_default-clause-none c = λ e behind w above same.
    let found = line-cut c.args.names.now c.requires e c.args.bytes.now behind w same in
    cc (found, c.in_default.ensures.value)

pub returns-in_default-2-clause-none : goal.returns-in_default-2-clause-none
returns-in_default-2-clause-none c = λ e behind w above same.
    let line = line-cut_off c.args.names.now c.requires e c.args.bytes.now behind c.in-Some.text.now c.in-Some.behind.now w same c.in-Some.ensures.value in
    let none = rw c.in_default-2.is at c.in_ok-event.ensures.none in
    none e w line

pub returns-then-not-is_above-clause-none : goal.returns-then-not-is_above-clause-none
returns-then-not-is_above-clause-none c = λ e behind w above same.
    let line = line-cut_off c.args.names.now c.requires e c.args.bytes.now behind c.in-Some.text.now c.in-Some.behind.now w same c.in-Some.ensures.value in
    let written = rw c.in-Some-2.is at c.in_ok-event.ensures.written in
    let text = rw c.in-Some-2.is at c.in_ok-event.ensures.text in
    let event : c.in-Some-2.event ≡ e = same_line c.args.names.now c.requires c.in-Some-2.event e written w (sym text ∙ line) in
    let yes = c.is_above.ensures.1 (subst (IsAbove c.args.before) (ap (λ (h : Happening). h.place) (sym event) ∙ sym c.place.ensures) above) in
    search (rules, yes)
