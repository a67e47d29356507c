-- Views that are lent, seen as views. No public clause cites these, and they decide nothing.
use Rattle.std.specs.Borrow.{Bor}
use Rattle.std.specs.Prelude.{List, map}
use Rattle.event_views.specs.declared.run.EventView.{EventView}

abbrev pub lent_views : List (Bor EventView) → List EventView
lent_views views = map (λ v. v.now) views
