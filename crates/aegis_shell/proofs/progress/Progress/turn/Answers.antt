use Rattle.std.proofs.Common.{length, sym, ◌∙◌, ap, subst, ◌≤◌}
use Rattle.std.specs.Option.{option_copied}
use Rattle.aegis_shell.specs.States.{State, settled}
use Rattle.aegis_shell.specs.Shells.{state_after}
use Rattle.aegis_shell.proofs.Turns.{asks-settled, settled-few, hears-few, on_ok, kept}
use Rattle.aegis_shell.proofs.progress.Progress.turn.Goals as goal

pub returns-then-not-begun-clause-kept : goal.returns-then-not-begun-clause-kept
returns-then-not-begun-clause-kept c =
    let part = c.args.work.now in
    let at = c.args.self.now in
    on_ok c.want.result c.want.ensures.state (kept part (settled part at) c.want.new.self (settled-few part at c.requires.kept.within))

pub want-requires-in-None-clause-within : goal.want-requires-in-None-clause-within
want-requires-in-None-clause-within c =
    let part = c.args.work.now in
    subst (λ (s : State). length s.answers ≤ length part.jobs) (sym c.in_ok-op.ensures.state) (hears-few part c.args.self.now (option_copied c.args.last) c.requires.kept.within)

pub returns-in-Some-clause-state : goal.returns-in-Some-clause-state
returns-in-Some-clause-state c =
    let part = c.args.work.now in
    let new = c.hear.new.self in
    let asks = rw c.in-Some.is at c.in_ok-op.ensures.next in
    sym (asks-settled part new c.in-Some.op asks)
    ∙ (ap (settled part) c.in_ok-op.ensures.state
    ∙ ap (λ begun. state_after begun part c.args.self.now (option_copied c.args.last)) (sym c.if-not-begun.false))

pub returns-in-None-clause-kept : goal.returns-in-None-clause-kept
returns-in-None-clause-kept c =
    let part = c.args.work.now in
    let new = c.hear.new.self in
    let few = subst (λ (s : State). length s.answers ≤ length part.jobs) (sym c.in_ok-op.ensures.state) (hears-few part c.args.self.now (option_copied c.args.last) c.requires.kept.within) in
    on_ok c.want-in-None.result c.want-in-None.ensures.state (kept part (settled part new) c.want-in-None.new.self (settled-few part new few))
