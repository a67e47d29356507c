use Rattle.std.proofs.Common.{◌≡◌, ◌++◌, drop}
use Rattle.event_views.specs.Differing.{answer_diffs}
use Rattle.event_views.proofs.differing.answers.Given as goal

abbrev pub invariant-loop-at : goal.invariant-loop-at
invariant-loop-at l = l.diffs ++ answer_diffs (drop l.at l.first) (drop l.at l.second) ≡ answer_diffs l.first l.second
