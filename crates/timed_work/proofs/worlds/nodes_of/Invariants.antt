-- The nodes that were made so far.
use Rattle.std.proofs.Common.{◌≡◌, ℕ, List, length}
use Rattle.timed_work.specs.Rounds.{Round}
use Rattle.timed_work.specs.Teams.{AreMade}
use Rattle.timed_work.proofs.worlds.nodes_of.Given as goal

abbrev pub invariant-loop-i : goal.invariant-loop-i
invariant-loop-i l = (length l.nodes.items ≡ l.i) × ((teams : List (List (ℕ × Round))) × AreMade l.script teams l.nodes.items)
