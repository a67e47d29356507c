use Rattle.std.proofs.Common.{◌*◌, ◌≤◌, take, length}
use Rattle.std.specs.List.{flat_map}
use Rattle.journal_text.specs.Lines.{drop_text}
use Rattle.journal_text.proofs.bounds.dropped_are_short.Given as goal

abbrev pub invariant-loop-uid : goal.invariant-loop-uid
invariant-loop-uid l = length (flat_map drop_text (take l._uid-index l.pages)) ≤ 44 * l._uid-index
