-- The copies that came so far fell; the others still fall or stay, and there is room for them.
use Rattle.std.proofs.Common.{◌+◌, ◌≤◌}
use Rattle.std.specs.VecDeque.{deque_len, deque_capacity}
use Rattle.ring_links.proofs.Falling.{AreFalling}
use Rattle.ring_links.proofs.link.fall_some.Given as goal

abbrev pub invariant-loop-copy : goal.invariant-loop-copy
invariant-loop-copy g l =
    AreFalling l.frames l.fn.queue.items l.fn.later.items l.queue.items l.later.items
    × (deque_len l.queue + deque_len l.later ≤ deque_capacity l.queue)

abbrev pub decreases-loop-copy : goal.decreases-loop-copy
decreases-loop-copy g l = deque_len l.later
