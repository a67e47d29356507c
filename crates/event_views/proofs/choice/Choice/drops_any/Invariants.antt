use Rattle.std.proofs.Common.{◌≡◌, drop}
use Rattle.std.specs.List.{list_any}
use Rattle.event_views.specs.Chosen.{drops_so}
use Rattle.event_views.proofs.choice.Choice.drops_any.Given as goal

abbrev pub invariant-loop-uid : goal.invariant-loop-uid
invariant-loop-uid l = list_any (drops_so l.self) l.pages ≡ list_any (drops_so l.self) (drop l.uid-index l.pages)
