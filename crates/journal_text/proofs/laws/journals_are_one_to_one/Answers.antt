use Rattle.journal_text.proofs.Events.{one_line, one_journal}
use Rattle.journal_text.proofs.laws.journals_are_one_to_one.Goals as goal

pub returns : goal.returns
returns c = record {
  line = λ names d e x y are wd we same. one_line names are d e x y wd we same;
  journal = λ names d e are wd we same. one_journal names are d e wd we same;
}
