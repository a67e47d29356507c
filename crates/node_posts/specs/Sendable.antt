-- What an event emits can be sent: its end is there, of the frame's link, and few frames were sent there.
use Rattle.std.specs.Prelude.{◌≡◌, ◌≢◌, ℕ, ◌<◌, ◌^◌, IfSome, length, slice_get}
use Rattle.ring_messages.specs.Frames.{Message}
use Rattle.node_core.specs.declared.setup.Emitted.{Emitted}
use Rattle.wire_links.specs.declared.wire.WireOut.{WireOut}
use Rattle.wire_links.specs.Wires.{wire_of, from_of, to_of}
use Rattle.node_posts.specs.declared.post.Post.{Post}
use Rattle.node_posts.specs.Ends.{place_of}

-- the end takes the frame
pub record CanTake (m : Message) (o : WireOut) : Type 0 where
  pub from : m.from ≡ from_of o
  pub to : m.to ≡ to_of o
  pub few : (wire_of o).frames < 2 ^ 63

-- the frame can be sent by a post of this number
pub record CanSendFrame {P G : Type 0} (n : ℕ) (x : Post P G) (m : Message) : Type 0 where
  pub tick : m.tick < 2 ^ 40
  pub own : x.own.frames < 2 ^ 63
  pub within : m.to ≢ n → place_of n m.to < length x.outs.items
  pub end_of : m.to ≢ n → IfSome (slice_get x.outs.items (place_of n m.to)) (CanTake m)

abbrev pub CanSend : {P G : Type 0} → Post P G → Emitted → Type 0
CanSend x e = IfSome e.frame (λ sent. CanSendFrame x.node.log.node x sent.1)
