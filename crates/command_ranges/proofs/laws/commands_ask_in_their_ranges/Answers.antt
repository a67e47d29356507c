use Rattle.command_ranges.proofs.Talks.{command-talks}
use Rattle.command_ranges.proofs.laws.commands_ask_in_their_ranges.Goals as goal

pub returns : goal.returns
returns c who site dir command is named range = command-talks who site is dir named command range
