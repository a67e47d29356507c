use Rattle.plain_store.proofs.PlainEntries.{entries-answered, entries_plain}
use Rattle.plain_store.proofs.laws.answered_entries_are_plain_runs.Goals as goal

pub returns : goal.returns
returns c = record { entries = entries-answered; plain = λ opening asks es are. entries_plain opening asks es are.answered are.ticked are.phased are.done }
