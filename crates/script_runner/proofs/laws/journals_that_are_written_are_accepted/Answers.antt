use Rattle.std.proofs.Common.{ℕ, List, sym, subst}
use Rattle.script_reader.specs.Grammar.{IsScript}
use Rattle.script_reader.specs.Scripts.{Content}
use Rattle.script_maker.specs.Generated.{generated}
use Rattle.journal_check.specs.Journals.{CanRun, IsAccepted}
use Rattle.script_runner.specs.declared.words.Asked.{Asked}
use Rattle.script_runner.specs.declared.words.Asked.TheVariants.{Reads, Generates}
use Rattle.script_runner.specs.Domain.{IsScriptFor}
use Rattle.script_runner.specs.Outside.{Bytes}
use Rattle.script_runner.proofs.laws.journals_that_are_written_are_accepted.Goals as goal

-- a script that is asked for can be run
can-run : (asked : Asked) (left : Bytes) (s : Content) → ((bytes : List ℕ) (s : Content) → IsScript bytes s → CanRun s) → ((seed : ℕ) → CanRun (generated seed)) → IsScriptFor asked left s → CanRun s
can-run (Reads turns) left s read made source = read source.bytes s source.form
can-run (Generates seed turns) left s read made source = subst CanRun (sym source) (made seed)

pub returns : goal.returns
returns c asked left text lines run =
    let s = run.script in
    subst (IsAccepted s) (sym run.written) (record {
      events = run.run.events;
      world = run.run.world;
      is = c.journals_of_runs_are_accepted.ensures s run.run.events run.run.world (can-run asked left s c.a_script_can_be_run.ensures c.a_generated_script_can_be_run.ensures run.source) run.run.run run.run.recent;
    })
