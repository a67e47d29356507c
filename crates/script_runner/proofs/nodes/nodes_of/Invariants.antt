use Rattle.std.proofs.Common.{◌≡◌, ℕ, ◌+◌, length, Some}
use Rattle.std.specs.Prelude.{slice_get}
use Rattle.aegis_shell.specs.Shells.{Shelled}
use Rattle.node_core.specs.Nodes.{Noted}
use Rattle.script_runner.specs.Nodes.{IsFirstNode}
use Rattle.script_runner.proofs.nodes.nodes_of.Given as goal

abbrev pub invariant-loop-i : goal.invariant-loop-i
invariant-loop-i l =
    (length l.nodes.items ≡ l.i) × ((n : ℕ) (x : Noted Shelled) → slice_get l.nodes.items n ≡ Some x → IsFirstNode l.script (n + 1) x)
