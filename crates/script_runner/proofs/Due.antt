-- What is due for a script is due for what asks for it.
use Rattle.std.proofs.Common.{◌≡◌, refl, ℕ, Option, Result, Ok, Err, rules}
use Rattle.std.specs.Prelude.{IfErr, IsErrOf}
use Rattle.dom_history.specs.Histories.{History}
use Rattle.script_reader.specs.Scripts.{Content}
use Rattle.script_runs.specs.Reports.{names_of, history_rows}
use Rattle.script_runner.specs.declared.domain.Due.{Due}
use Rattle.script_runner.specs.declared.domain.RunEnd.{RunEnd}
use Rattle.script_runner.specs.declared.domain.RunEnd.TheVariants.{ReadFault, TickLimit, NoMemory}
use Rattle.script_runner.specs.declared.words.Asked.{Asked}
use Rattle.script_runner.specs.declared.words.Asked.TheVariants.{Reads, Generates}
use Rattle.script_runner.specs.Words.{turns_of}
use Rattle.script_runner.specs.Outside.{Bytes}
use Rattle.script_runner.specs.Domain.{IsScriptFor, LimitFor, text_for}
use Rattle.script_runner.specs.DueTexts.{told_for, IsEndOf}

-- what is told of the answers of a history is what is told of it
pub told_is : (asked : Asked) (s : Content) (h : History) → told_for asked (names_of s) (history_rows s h) ≡ text_for asked s h
told_is (Reads turns) s h = refl
told_is (Generates seed turns) s h = refl

pub limit_for : (asked : Asked) (left : Bytes) (s : Content) (r : Result Due RunEnd) → IsScriptFor asked left s → IfErr r (IsEndOf s (turns_of asked)) → IsErrOf r TickLimit → LimitFor asked left
limit_for asked left s (Ok due) source end is = absurd (search (rules, is))
limit_for asked left s (Err ReadFault) source end is = absurd end
limit_for asked left s (Err TickLimit) source end is = record { script = s; source = source; node = end.0; comes = end.1 }
limit_for asked left s (Err NoMemory) source end is = absurd (search (rules, is))

pub no_read_fault : (s : Content) (turns : Option ℕ) (r : Result Due RunEnd) → IfErr r (IsEndOf s turns) → IsErrOf r ReadFault → ⊥
no_read_fault s turns (Ok due) end is = absurd (search (rules, is))
no_read_fault s turns (Err ReadFault) end is = end
no_read_fault s turns (Err TickLimit) end is = absurd (search (rules, is))
no_read_fault s turns (Err NoMemory) end is = absurd (search (rules, is))
