use Rattle.std.proofs.Common.{◌≡◌, ℕ, List, Option}
use Rattle.script_reader.specs.Grammar.{raw_lines}
use Rattle.journal_text.specs.Lines.{journal}
use Rattle.explored_runs.specs.Sought.{first_with, IsSought}
use Rattle.std.proofs.lemmas.Result.{IfOk-weaker}
use Rattle.explored_runs.proofs.FirstLines.{sought-in-run}
use Rattle.explored_runs.proofs.journals.line_of.Goals as goal

pub returns-in-Ok : goal.returns-in-Ok
returns-in-Ok c =
    let s = c.args.script.now in
    let words = c.args.words.now in
    let ran = c.in-Ok.ran in
    IfOk-weaker c.line_in.result (λ (line : Option (List ℕ)). line ≡ first_with words (raw_lines (journal c.args.names.now ran.events))) (IsSought s words c.args.number)
    (λ line is. sought-in-run s words c.args.names.now c.args.number ran line c.in-Ok.ensures.ran c.requires.names is) c.line_in.ensures
