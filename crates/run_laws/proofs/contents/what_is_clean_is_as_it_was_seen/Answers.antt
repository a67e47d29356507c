use Rattle.run_laws.proofs.Keeping.{contents-are}
use Rattle.run_laws.proofs.contents.what_is_clean_is_as_it_was_seen.Goals as goal

pub returns : goal.returns
returns c = contents-are
