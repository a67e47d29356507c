-- Link faults: the entries that they answered, and the numbers that give an account of a run's events.
use Rattle.std.specs.Prelude.{ℕ, Bool, true, false, Option, Some, None, List, length, filter}
use Rattle.dom_history.specs.declared.end_word.EndWord.{EndWord}
use Rattle.dom_history.specs.declared.end_word.EndWord.TheVariants.{Kept, Doubt, LinkFault}
use Rattle.dom_history.specs.declared.op.Entry.{Entry}
use Rattle.dom_history.specs.declared.plan.FateRow.{FateRow}
use Rattle.dom_history.specs.Events.{Happening}
use Rattle.dom_history.specs.Histories.{History, entries}
use Rattle.node_runs.specs.Deliveries.{noticed_in}
use Rattle.node_runs.specs.RunHistories.{is_fault}
use Rattle.world_runs.specs.Gone.{gone_in}

-- the entries of a history that a link fault answered: kept, doubt or link fault
abbrev pub fault_entries : History → List Entry
fault_entries h = filter (λ e. is_fault e.reply) (entries h.items)

-- the same by the word of an end
abbrev pub is_fault_word : EndWord → Bool
is_fault_word Kept = true
is_fault_word Doubt = true
is_fault_word LinkFault = true
is_fault_word word = false

-- the event ended the operation of a process so
abbrev pub is_fault_end : Option (ℕ × EndWord) → Bool
is_fault_end None = false
is_fault_end (Some ended) = is_fault_word ended.1

-- how many events ended an operation by a link fault
abbrev pub link_faults : List Happening → ℕ
link_faults es = length (filter (λ e. is_fault_end e.effects.ended) es)

-- how many events told a process of a frame that is lost or late
abbrev pub notices : List Happening → ℕ
notices es = length (noticed_in es)

-- how many of the frames that were sent are lost or late by the plan
abbrev pub marked : List FateRow → List Happening → ℕ
marked plan es = length (gone_in plan es)
