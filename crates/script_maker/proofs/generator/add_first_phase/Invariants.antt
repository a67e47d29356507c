use Rattle.std.proofs.Common.{◌≡◌}
use Rattle.script_maker.specs.Generated.{first_work, rows_of}
use Rattle.script_maker.specs.Walk.Begun.{with_rows}
use Rattle.script_maker.proofs.generator.add_first_phase.Given as goal

abbrev pub invariant-loop-at : goal.invariant-loop-at
invariant-loop-at l = l.draft ≡ with_rows l.fn.draft (rows_of l.fn.draft.phases (first_work l.now) l.at)
