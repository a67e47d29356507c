use Rattle.command_ranges.proofs.Guards.{jobs-unguarded}
use Rattle.command_ranges.proofs.laws.no_guard_of_a_shell_acts.Goals as goal

pub returns : goal.returns
returns c s p content own = jobs-unguarded c.commands_ask_in_their_ranges.ensures s p content own
