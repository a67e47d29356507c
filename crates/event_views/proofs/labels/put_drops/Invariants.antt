use Rattle.std.proofs.Common.{◌≡◌, ◌++◌, take}
use Rattle.std.specs.List.{flat_map}
use Rattle.event_views.specs.Labels.{drop_label}
use Rattle.event_views.proofs.labels.put_drops.Given as goal

abbrev pub invariant-loop-uid : goal.invariant-loop-uid
invariant-loop-uid l = l.to ≡ l.initial.to ++ flat_map (drop_label l.objects) (take l.uid-index l.pages)
