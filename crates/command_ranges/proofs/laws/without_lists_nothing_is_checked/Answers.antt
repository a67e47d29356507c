use Rattle.command_ranges.proofs.Checking.{fills-unchecked, goes-unchecked, has-no-guard}
use Rattle.command_ranges.proofs.laws.without_lists_nothing_is_checked.Goals as goal

pub returns : goal.returns
returns c = record {
  script = has-no-guard;
  command = goes-unchecked;
  copied = fills-unchecked;
}
