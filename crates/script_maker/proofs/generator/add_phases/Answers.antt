use Rattle.std.proofs.Common.{◌+◌, ◌∙◌}
use Rattle.script_maker.proofs.Adding.{begin_first, later_few, phase_begun}
use Rattle.script_maker.proofs.Generating.{begin_more, phase_more}
use Rattle.script_maker.proofs.generator.add_phases.Goals as goal

pub loop-phase-init : goal.loop-phase-init
loop-phase-init c =
    let seed = c.args.seed in record {
      draft = phase_begun seed c.args.draft.now c.add_first_phase.new.draft c.new-before.result c.requires (c.new-before.ensures.value ∙ c.new-draws.ensures) c.in_ok-add_first_phase.ensures;
      draws = c.new-before.ensures.state ∙ begin_more seed 0 c.new-draws.result (begin_first seed c.new-draws.result c.new-draws.ensures);
      before = begin_first seed c.new-before.result (c.new-before.ensures.value ∙ c.new-draws.ensures);
    }

pub loop-phase-preserved : goal.loop-phase-preserved
loop-phase-preserved c =
    let seed = c.args.seed in
    let n = c.loop-phase._phase in
    let so_far = c.loop-phase.invariant in
    let now = c.new-now.ensures.value ∙ so_far.draws in record {
      draft = phase_more seed n c.loop-phase.draft c.add_phase.new.self c.add_later_phase.new.draft c.loop-phase.before c.new-now.result so_far.draft c.add_phase.ensures c.in_ok-add_later_phase.ensures so_far.before now;
      draws = c.new-now.ensures.state ∙ begin_more seed (n + 1) c.loop-phase.draws so_far.draws;
      before = now;
    }

pub add_later_phase-requires-clause-few : goal.add_later_phase-requires-clause-few
add_later_phase-requires-clause-few c = later_few c.loop-phase.draft c.add_phase.new.self c.args.seed c.loop-phase._phase c.loop-phase.invariant.draft c.add_phase.ensures c.loop-phase-test.true
