-- The events of a process that receive nothing: its next operation begins, or the open one goes on.
use Rattle.std.specs.Prelude.{ℕ, List, [], ◌∷◌}
use Rattle.dom_history.specs.declared.event.What.{What}
use Rattle.dom_history.specs.declared.event.What.TheVariants as events

abbrev pub starts_of : ℕ → List What
starts_of p = events.Begin p ∷ events.Go p ∷ []
