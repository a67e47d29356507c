use Rattle.run_journals.proofs.Drafts.{can-run}
use Rattle.run_journals.proofs.GoodLines.{good-lines, nothing-begun}
use Rattle.run_journals.proofs.laws.a_script_can_be_run.Goals as goal
use Rattle.script_reader.specs.Grammar.{nothing, raw_lines}

pub returns : goal.returns
returns c = λ bytes s h. can-run s (good-lines nothing (raw_lines bytes) s h.good nothing-begun) h.some_node
