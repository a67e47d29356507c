use Rattle.page_server.proofs.Given.{made-once, granted-once, greatest-rises, last-rises}
use Rattle.page_server.proofs.laws.numbers_are_given_once.Goals as goal

pub returns : goal.returns
returns c = record { made = made-once; counters = greatest-rises; granted = granted-once; grants = last-rises }
