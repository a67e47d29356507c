use Rattle.command_ranges.proofs.Guards.{bound-plainly, entered-named, last-plainly}
use Rattle.command_ranges.proofs.Walks.{entry-named}
use Rattle.command_ranges.proofs.laws.no_guard_of_names_acts.Goals as goal

pub returns : goal.returns
returns c = record {
  first = λ s p own. (entry-named p.node own).0;
  behind = λ part command outcome at own is. entered-named part at.working command outcome own is;
  bound = bound-plainly;
  listed = last-plainly;
}
