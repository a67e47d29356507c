use Rattle.std.proofs.Common.{◌≡◌, drop}
use Rattle.std.specs.Prelude.{find}
use Rattle.uid_names.specs.Names.{same_uid}
use Rattle.event_views.proofs.labels.row_of.Given as goal

abbrev pub invariant-loop-row : goal.invariant-loop-row
invariant-loop-row l = find (λ row. same_uid row.uid l.uid) l.objects ≡ find (λ row. same_uid row.uid l.uid) (drop l.row-index l.objects)
