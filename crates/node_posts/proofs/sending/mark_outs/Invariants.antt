-- The ends that came so far got the mark.
use Rattle.std.proofs.Common.{◌≡◌, length}
use Rattle.node_posts.specs.Sending.{AreUnpushed}
use Rattle.node_posts.proofs.Marking.{IsMarking}
use Rattle.node_posts.proofs.sending.mark_outs.Given as goal

abbrev pub invariant-loop-at : goal.invariant-loop-at
invariant-loop-at l = record {
  many : length l.outs.items ≡ length l.fn.outs.items;
  marked : IsMarking l.phase l.tick l.fn.outs.items l.at l.outs.items;
  unpushed : AreUnpushed l.fn.outs.items l.outs.items;
}
