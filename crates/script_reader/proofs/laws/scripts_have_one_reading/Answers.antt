use Rattle.script_reader.proofs.Unique.{either_one, never_both, one_content, one_fault}
use Rattle.script_reader.proofs.laws.scripts_have_one_reading.Goals as goal

pub returns : goal.returns
returns c = record { content = one_content; fault = one_fault; either = either_one; never_both = never_both }
