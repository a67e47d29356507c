use Rattle.command_ranges.proofs.Checking.{checked-behind, command-goes, goes-by-finding, stops-closing, target-checked}
use Rattle.command_ranges.proofs.laws.lists_decide_of_commands.Goals as goal

pub returns : goal.returns
returns c = record {
  found = λ who errand come check is heard finding found. goes-by-finding who errand come check is heard finding found;
  stopped = stops-closing;
  walked = λ guard site dir command r is walked come comes. checked-behind guard site dir command r is walked come comes;
  filled = target-checked;
  whole = command-goes;
}
