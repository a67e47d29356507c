use Rattle.std.proofs.Common.{refl}
use Rattle.run_outcomes.proofs.Counted.{tally_of_more}
use Rattle.run_outcomes.proofs.laws.tallies_count_all_that_was_added.Goals as goal

pub returns : goal.returns
returns c = record { none = refl; one_more = tally_of_more }
