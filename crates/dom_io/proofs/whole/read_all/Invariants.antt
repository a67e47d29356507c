use Rattle.std.proofs.Common.{length, ◌-◌, ◌≡◌, ◌≤◌}
use Rattle.std.specs.Io.KnownBytes.{prepend_known}
use Rattle.dom_io.proofs.whole.read_all.Given as goal

abbrev pub invariant-loop-taken : goal.invariant-loop-taken
invariant-loop-taken g l = record {
  within : l.taken ≤ l.most;
  long : length l.list ≡ l.taken;
  left : g.S.Source.left l.initial.source ≡ prepend_known l.list (g.S.Source.left l.source);
  count : g.S.Source.faults l.initial.source ≤ g.S.Source.faults l.source;
}

abbrev pub decreases-loop-taken : goal.decreases-loop-taken
decreases-loop-taken g l = l.most - l.taken
