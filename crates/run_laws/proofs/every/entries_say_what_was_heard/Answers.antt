use Rattle.run_laws.proofs.HeardRuns.{reaches-by, heard-is, each-asked}
use Rattle.run_laws.proofs.every.entries_say_what_was_heard.Goals as goal

pub returns : goal.returns
returns c = record {
  phases = λ ask es heard phase is. reaches-by is;
  asks = λ ask phases paced es heard phase is apart. heard-is ask phases paced es heard phase is apart;
  each = λ ask phases paced newer past e heard phase is. each-asked ask phases paced newer past e heard phase is;
}
