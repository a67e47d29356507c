use Rattle.dom_text.proofs.Again.{number_spelled-decimal, decimal_of_number}
use Rattle.dom_text.proofs.laws.numbers_are_read_again.Goals as goal

pub returns : goal.returns
returns c = record { again = number_spelled-decimal; only = decimal_of_number }
