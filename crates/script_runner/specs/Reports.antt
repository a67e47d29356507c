-- What comes of a script: the events of a run, and the answers of its processes.
use Rattle.std.specs.Prelude.{ℕ, ◌≡◌, List, map, reverse, Option, IfSome}
use Rattle.dom_history.specs.Events.{Happening}
use Rattle.script_reader.specs.Scripts.{Content}
use Rattle.journal_text.specs.Lines.{journal}
use Rattle.node_runs.specs.Runs.{World}
use Rattle.recent_runs.specs.Recent.{IsRecent}
use Rattle.script_runs.specs.Setups.{setup_of}
use Rattle.script_runs.specs.Runs.{IsEndedRunOf, IsPickedRunOf, ComesToTick}
use Rattle.script_runs.specs.Reports.{ProcAnswers, names_of, history_rows}
use Rattle.script_runs.specs.Histories.{script_history, IsAsOneStore}
use Rattle.mail_runs.specs.Mailboxes.{AreMailboxesKept}
use Rattle.script_runner.specs.declared.run.AnswerRow.{AnswerRow}
use Rattle.script_runner.specs.declared.run.Ran.{Ran}

-- the answers of a process, as a report has them
abbrev pub answers_in : AnswerRow → ProcAnswers
answers_in row = record { proc = row.proc; answers = row.answers }

-- the journal of a run: a line for each event, by rising place
abbrev pub journal_of : Content → List Happening → List ℕ
journal_of s events = journal (names_of s) (reverse events)

-- no turns of this number give a node of the script the last tick
abbrev pub StaysBelow : Content → ℕ → ℕ → Type 0
StaysBelow s number last = (node : ℕ) → ComesToTick s number last node → ⊥

-- a run of a script that has ended, in which no node comes to the last tick, and where a number of turns is given the one that it picks, of which no turns give a node the last tick; it is as one
-- store would have it: all nodes have ended, the history is one of one store, which holds each process's commands once and in order to their end, in phases that never
-- overlap, with the replies that its program heard, and each has exactly one answer; and at each unlock of a held lock every page that the holder
-- modified is at its home. Of each mailbox to which the history has no stores but those of putm and takem: what was taken is at each place a first part
-- of what was put, with at most 56 texts between, and its commands are answered so. Each page that was dropped for another was the clean one used longest ago. What came of it are its events by rising place,
-- and the answers of its history
pub record RunOf (s : Content) (turns : Option ℕ) (last : ℕ) (ran : Ran) : Type 0 where
  pub events : List Happening
  pub world : World
  pub run : IsEndedRunOf s events world
  pub picked : IfSome turns (λ number. IsPickedRunOf s number last events)
  pub below : IfSome turns (λ number. StaysBelow s number last)
  pub one_store : IsAsOneStore s events world
  pub mailboxes : AreMailboxesKept s (script_history s events)
  pub recent : IsRecent (setup_of s) events
  pub by_place : ran.events ≡ reverse events
  pub answered : map answers_in ran.answers ≡ history_rows s (script_history s events)
