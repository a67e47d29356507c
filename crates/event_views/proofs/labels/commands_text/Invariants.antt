use Rattle.std.proofs.Common.{◌≡◌, drop}
use Rattle.std.specs.Prelude.{fold}
use Rattle.event_views.specs.Labels.{answered_text, commands_label, with_part}
use Rattle.event_views.proofs.labels.commands_text.Given as goal

abbrev pub invariant-loop-name : goal.invariant-loop-name
invariant-loop-name l = fold (λ text c. with_part text (answered_text l.run c)) l.text (drop l.name-index l.view.answered) ≡ commands_label l.run l.view
