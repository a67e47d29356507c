use Rattle.std.proofs.Common.{sym, ◌∙◌}
use Rattle.journal_text.proofs.Events.{one_journal, one_fault, never_both}
use Rattle.journal_text.proofs.laws.journals_have_one_reading.Goals as goal

pub returns : goal.returns
returns c = record {
  events = λ names bytes d e are of_d of_e. one_journal names are d e of_d.written of_e.written (sym of_d.text ∙ of_e.text);
  fault = λ names bytes m n are bad_m bad_n. one_fault names are bytes m n bad_m bad_n;
  never_both = λ names bytes e n are journal bad. never_both names are bytes e n journal bad;
}
