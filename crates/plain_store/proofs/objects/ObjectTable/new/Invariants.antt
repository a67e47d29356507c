use Rattle.std.proofs.Common.{◌≡◌}
use Rattle.dom_history.specs.Objects.{entry_directories}
use Rattle.plain_store.proofs.objects.ObjectTable.new.Given as goal

abbrev pub invariant-loop-i : goal.invariant-loop-i
invariant-loop-i l = l.made.items ≡ entry_directories l.i
