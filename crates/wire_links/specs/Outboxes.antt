-- What waits in an outbox.
use Rattle.std.specs.Prelude.{Bool, false}
use Rattle.ring_links.specs.Carried as links
use Rattle.wire_links.specs.declared.carried.Carried.{Carried}
use Rattle.wire_links.specs.declared.carried.Carried.TheVariants as carried

-- the entry is a mark
abbrev pub is_mark : Carried → Bool
is_mark (carried.Put e) = links.is_mark e
is_mark (carried.Gone proc number index tick) = false
