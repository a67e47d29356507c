use Rattle.std.proofs.Common.{◌≡◌, take}
use Rattle.uid_names.specs.Beginnings.{at_home}
use Rattle.object_store.specs.Beginnings.{first_rows}
use Rattle.object_store.proofs.rows.first_rows.Given as goal

abbrev pub invariant-loop-object : goal.invariant-loop-object
invariant-loop-object l = l.rows.items ≡ first_rows l.node (at_home l.node (take l.object-index l.objects))
