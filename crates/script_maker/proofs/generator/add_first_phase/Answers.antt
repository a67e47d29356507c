use Rattle.std.proofs.Common.{refl}
use Rattle.script_maker.specs.Generated.{first_work, rows_of}
use Rattle.script_maker.proofs.Generating.{begun_rows, rows_few, rows_none, rows_on}
use Rattle.script_maker.proofs.generator.add_first_phase.Goals as goal

pub loop-at-init : goal.loop-at-init
loop-at-init c = rows_none c.args.draft.now (first_work c.args.now.now)

pub add_first_work-requires-clause-begun : goal.add_first_work-requires-clause-begun
add_first_work-requires-clause-begun c = begun_rows c.args.draft.now c.loop-at.draft (rows_of c.args.draft.now.phases (first_work c.args.now.now) c.loop-at.at) c.loop-at.invariant c.requires.begun

pub add_first_work-requires-clause-few : goal.add_first_work-requires-clause-few
add_first_work-requires-clause-few c = rows_few c.args.draft.now c.loop-at.draft (first_work c.args.now.now) c.loop-at.at (λ p. refl) c.loop-at.invariant c.loop-at-test.true c.requires.few

pub loop-at-preserved : goal.loop-at-preserved
loop-at-preserved c = rows_on c.args.draft.now c.loop-at.draft c.add_first_work.new.draft (first_work c.args.now.now) c.loop-at.at c.loop-at.invariant c.in_ok-add_first_work.ensures
