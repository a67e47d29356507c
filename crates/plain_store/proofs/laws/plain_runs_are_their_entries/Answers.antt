use Rattle.plain_store.proofs.PlainRuns.{plain_run-answered, plain_run-entries}
use Rattle.plain_store.proofs.laws.plain_runs_are_their_entries.Goals as goal

pub returns : goal.returns
returns c = record { answered = plain_run-answered; whole = plain_run-entries }
