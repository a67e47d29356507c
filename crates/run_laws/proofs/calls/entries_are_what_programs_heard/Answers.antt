use Rattle.run_laws.proofs.HistoryEntries.{asked-heard, replies-heard}
use Rattle.run_laws.proofs.calls.entries_are_what_programs_heard.Goals as goal

pub returns : goal.returns
returns c = record { replies = replies-heard; asked = asked-heard }
