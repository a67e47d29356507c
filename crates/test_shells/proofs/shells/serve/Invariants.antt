use Rattle.std.proofs.Common.{◌≡◌, ◌≤◌, false, length}
use Rattle.dom_history.specs.Programs.{FitsWant}
use Rattle.aegis_shell.specs.Shells.{shell_wants}
use Rattle.test_shells.proofs.shells.serve.Given as goal

abbrev pub invariant-calls : goal.invariant-calls
invariant-calls l =
    (l.shell.spent ≡ false)
    × (length l.store.deeds ≤ l.counter)
    × FitsWant (shell_wants l.shell) l.last
