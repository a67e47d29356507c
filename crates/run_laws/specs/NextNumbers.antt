-- Frames that say which one of their link they are.
use Rattle.std.specs.Prelude.{◌≡◌, ◌+◌, IfSome, List, [], ◌∷◌}
use Rattle.dom_history.specs.Events.{Happening}
use Rattle.world_runs.specs.Sendings.{frames_on}

-- each frame that these events sent says the next number of its link; the last event comes first
abbrev pub SayNextNumbers : List Happening → Type 0
SayNextNumbers [] = Unit {0}
SayNextNumbers (e ∷ older) = IfSome e.effects.sent (λ sent. sent.index ≡ frames_on e.place.node sent.to older + 1) × SayNextNumbers older
