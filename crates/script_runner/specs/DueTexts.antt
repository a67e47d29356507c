-- The texts that are due, by their kind (for the private code alone).
use Rattle.std.specs.Prelude.{ℕ, List, Option}
use Rattle.script_runner.specs.declared.words.Asked.{Asked}
use Rattle.script_runner.specs.declared.words.Asked.TheVariants.{Reads, Generates}
use Rattle.script_runner.specs.declared.domain.Due.{Due}
use Rattle.script_runner.specs.declared.domain.Due.TheVariants.{Run, Refusal}
use Rattle.script_runner.specs.declared.domain.RunEnd.{RunEnd}
use Rattle.script_runner.specs.declared.domain.RunEnd.TheVariants.{ReadFault, TickLimit, NoMemory}
use Rattle.script_reader.specs.Scripts.{Content}
use Rattle.script_runs.specs.Runs.{last_tick}
use Rattle.script_runs.specs.Reports.{ProcAnswers, lines_of}
use Rattle.script_runs.specs.Summaries.{summary, all_answers}
use Rattle.script_runner.specs.Outside.{Bytes, Stream, IsSame}
use Rattle.script_runner.specs.Domain.{RunFor, IsRefusalFor}
use Rattle.script_runner.specs.Faults.{ComesToLastTick}

-- what is told of these answers, at nodes of these names
abbrev pub told_for : Asked → List (List ℕ) → List ProcAnswers → List ℕ
told_for (Reads turns) names rows = lines_of names rows
told_for (Generates seed turns) names rows = summary seed (all_answers rows)

-- why nothing is due for it
abbrev pub IsEndOf : Content → Option ℕ → RunEnd → Type 0
IsEndOf s turns ReadFault = ⊥
IsEndOf s turns TickLimit = (node : ℕ) × ComesToLastTick s turns last_tick node
IsEndOf s turns NoMemory = Unit {0}

-- what is due for the script that is asked for: what is told of its run, and the journal; or what is said of the first bad line
abbrev pub IsDueFor : Asked → Bytes → Due → Type 0
IsDueFor asked left (Run text lines) = RunFor asked left text lines
IsDueFor asked left (Refusal text) = IsRefusalFor asked left text

-- a script that is read is asked for
abbrev pub IsRead : Asked → Type 0
IsRead (Reads turns) = Unit {0}
IsRead (Generates seed turns) = ⊥

-- nothing is read where the script is generated
abbrev pub IsUnread : {S : Type 0} → Asked → Stream S → Type 0
IsUnread (Reads turns) script = Unit {0}
IsUnread (Generates seed turns) script = IsSame script
