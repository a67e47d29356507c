use Rattle.std.proofs.Common.{◌≡◌, ◌+◌}
use Rattle.script_maker.specs.Generated.{begin_of}
use Rattle.script_maker.specs.Walk.Begun.{phases_begun}
use Rattle.script_maker.proofs.generator.add_phases.Given as goal

abbrev pub invariant-loop-phase : goal.invariant-loop-phase
invariant-loop-phase l = record {
  draft : l.draft ≡ phases_begun l.seed l._phase;
  draws : l.draws ≡ begin_of l.seed (l._phase + 1);
  before : l.before ≡ begin_of l.seed l._phase;
}
