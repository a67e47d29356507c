-- The frame of bytes that spell one.
use Rattle.std.proofs.Common.{◌≡◌, ℕ, ◌<◌, List, subst}
use Rattle.std.specs.Prelude.{◌^◌}
use Rattle.ring_messages.specs.Frames.{Message}
use Rattle.ring_messages.specs.Spelled.{Spells}
use Rattle.wire_links.specs.Spelt.{IsSpelt}

pub spelt_tick : (bytes : List ℕ) (m : Message) → IsSpelt bytes → Spells m bytes → ((m n : Message) (bytes : List ℕ) → Spells m bytes → Spells n bytes → m ≡ n) → m.tick < 2 ^ 40
spelt_tick bytes m is spells one = subst (λ (f : Message). f.tick < 2 ^ 40) (one is.0 m bytes is.1 spells) is.2
