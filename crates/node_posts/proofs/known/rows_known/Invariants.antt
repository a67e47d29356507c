-- Each row so far is one.
use Rattle.std.proofs.Common.{take}
use Rattle.std.specs.Prelude.{All}
use Rattle.ring_messages.specs.Spelled.{IsRow}
use Rattle.node_posts.proofs.known.rows_known.Given as goal

abbrev pub invariant-loop-row : goal.invariant-loop-row
invariant-loop-row l = All IsRow (take l.row-index l.rows)
